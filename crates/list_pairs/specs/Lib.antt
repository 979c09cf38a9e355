-- "opens and repairs it in memory, and prints .. N, free nodes, internal levels, pairs
pub mod Listing
-- what the answers in code say, in the terms of Listing
pub mod Summaries
