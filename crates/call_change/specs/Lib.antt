-- what an update makes of the leaf that its key leads to
pub mod Updates
-- what it decides there, from which that is laid out
pub mod Decided
-- what the answers in code say, in the terms of Updates
pub mod Results
