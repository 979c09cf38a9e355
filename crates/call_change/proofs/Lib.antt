-- what an update decides: the next change is what is laid out of it, and it can be laid out
pub mod Decided
-- what a step finds that has no store left to make, by cases; a change that is prepared has a store
pub mod Preparations
-- laws of the updates: one for each branch of the code
pub mod UpdateLaws
-- the next change on a line's table is the card's from the line's root
pub mod LineChanges
