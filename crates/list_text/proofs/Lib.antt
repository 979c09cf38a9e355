-- laws of the text: a turn of the loops over the pairs and over the families, and what `list_pairs::list_dump` hands over
pub mod TextLaws
-- the definitions at work on the output that document 01 gives the list program
pub mod Examples
