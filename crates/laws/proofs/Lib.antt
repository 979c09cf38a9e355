-- cases on tests and orders, and laws of chains of tests that must all hold
pub mod Cases
-- laws of totals: sums of a weight over a list
pub mod Totals
-- laws of lists of words
pub mod Lists
-- laws of the digits of a number to a base
pub mod Digits
-- laws of sorting pairs by their keys
pub mod Sorting
-- laws of bits as numbers
pub mod Bits
