-- A tree with its node numbers forgotten: every number is 0
pub mod Bare
-- what an update makes of the leaf that its key leads to, and what one repair makes of the parent of a violation
pub mod Next
-- A change on trees reaches the part that it is about, on the way of its key, and leaves the context as it is
pub mod Ways
-- each change commutes with forgetting the numbers: the part that it puts in place, without numbers
pub mod Shaped
-- "Repairs go on until balanced": the tree without numbers that a whole repair comes to, and how far a tree still is from it
pub mod Whole
-- "A splitting insert needs j + 5 free nodes", and the depth that a key reaches, told from the tree without numbers
pub mod Need
-- A card holds one tree: that of a number is read off its words
pub mod Unique
