-- THE KEY THAT A FILE HOLDS (request W-209)
pub mod KeyFile
