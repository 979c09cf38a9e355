-- which change is due, case by case: one law for each branch of the code
pub mod DecideLaws
-- a violation that a search finds is at a position where a repair can be laid out
pub mod Positions
-- what a decision says of the card that it is made on holds there
pub mod Fits
-- what is decided on a line's table is decided on the card from the line's root
pub mod LineDecisions
-- what a decision says of a line's table, it says of the card
pub mod LinePlaces
