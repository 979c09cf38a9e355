-- laws of the way down, one for each branch of the code: what is left of a search after each word read, and what stands where a node number leads
pub mod DescentLaws
-- what holds at the start of a way, and is handed on to the child that the key takes, holds all along the way
pub mod Along
-- a line's way down is the card's from the line's root: the walk reads nothing of the header
pub mod LineWays
-- what is read off the rest of a way, by what the node in hand is to the key
pub mod Rest
