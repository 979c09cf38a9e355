-- laws of what `list` lays out
pub mod ListingLaws
-- laws of what is answered: one for each branch of the code
pub mod SummaryLaws
-- the definitions at work on the input that document 01 gives the list program
pub mod Examples
