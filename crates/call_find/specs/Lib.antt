-- what a find answers, by the papers' numbers
pub mod Found
-- "A find is one call on the card alone; it may come between steps and answers by the map at that moment."
pub mod Find
-- document 01, "When an answer is an enum, a definition states this paper's number and values for each enum case."
pub mod Answers
