-- laws of the numbers given for a change
pub mod NumberLaws
-- the search for the next free node, gone on with in the same set
pub mod Search
