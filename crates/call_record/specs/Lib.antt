-- what the question for a record answers, by the papers' numbers
pub mod Fetched
-- "A value is an offset in a lent byte block: one length byte from 1 to 255, then that many record bytes."
pub mod Records
