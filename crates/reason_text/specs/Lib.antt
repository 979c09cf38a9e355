-- THE TEXT THAT `insert_check` PRINTS, byte by byte (document 02, W-209)
pub mod ReasonText
