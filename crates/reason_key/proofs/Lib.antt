-- laws of the key in a file: where the last line stands, and what a digit more does to a value
pub mod KeyFileLaws
-- the definitions at work on small files
pub mod Examples
