-- laws of the header: which lengths are those of cards, and when no refusal is due
pub mod HeaderLaws
-- laws of a node's part of the card
pub mod NodeLaws
-- laws of a node's words: which stores leave them alone
pub mod NodeWords
-- laws of stores played one after the other: what is written is there, and all else is as it was
pub mod Stores
-- a line's table as one of its own: its nodes, its root and its stores
pub mod LineLaws
-- the numbers of refusals
pub mod RefusalLaws
