-- laws of decimal numbers: how many digits there are, and that `io::decimal` makes them
pub mod DecimalLaws
-- a number and where it ends, told from its text
pub mod Telling
-- laws of a row that is being filled: two fillings in a row, all bytes at once, the row afterwards, and where a number ends
pub mod FillingLaws
