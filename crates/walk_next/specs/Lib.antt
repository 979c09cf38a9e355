-- what the call for the next number answers, by the papers' numbers
pub mod Next
-- "Given any number from 0 up, the call answers the pair with the smallest key greater than it, or "none" exactly when the table holds no such key."
pub mod Successor
