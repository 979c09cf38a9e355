-- the state, as a reader sees it
pub mod Memory
-- what a step answers, by the papers' numbers
pub mod Answer
-- what opening and starting answer
pub mod Begun
-- what the question for a family's total answers
pub mod Total
-- a store of formatting and of the change in hand, and what a step and a start hand back
pub mod Steps
-- what the answers in code say, in the terms of Steps
pub mod Results
-- document 01, "When an answer is an enum, a definition states this paper's number and values for each enum case."
pub mod Answers
-- the state as words that the caller lends
pub mod Block
-- the words of a block after a call, by those before it
pub mod Blocks
-- what opening and starting promise of the block lent to them
pub mod Clauses
