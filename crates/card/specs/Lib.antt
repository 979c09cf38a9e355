-- where the words of a node stand and what they mean
pub mod Layout
-- document 01, "The card" and rows 1 to 3 of "Refusal by place"
pub mod Header
-- what a node's 24 words hold, word by word, and what a store does to it
pub mod NodeWords
-- stores played one after the other; a node written whole; nodes written one after the other
pub mod Stores
-- the answers of the calls as numbers
pub mod Replies
-- document 02, W-207: the lines of a card, and a line's table as one of its own
pub mod Lines
-- the refusals and their numbers
pub mod Refusals
