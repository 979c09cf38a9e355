-- cases on tests and orders, and chains of tests that must all hold
pub mod Cases
-- totals of a weight over a list
pub mod Totals
-- lists of numbers: padded with 0 to a length, read before the first 0, taken apart at a seam
pub mod Lists
-- the binary digits of a number, and what the operations of a machine word do to each of them
pub mod Digits
-- pairs of a key and a value, sorted by key
pub mod Sorting
-- A Bool as a number, 1 for true and 0 for false
pub mod Bits
