-- NUMBERS AND LINES AS TEXT, byte by byte: what the programs' lines are made of
pub mod Lines
-- A row of bytes that is being filled
pub mod Filling
