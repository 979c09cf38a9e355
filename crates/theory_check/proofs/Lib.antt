-- two ways to say that the keys of a tree are in their ranges
pub mod Ranges
-- how deep a way down a sound table can go
pub mod Depth
-- "Purchasing sizes cards by rations, not nodes." How many levels a balanced tree can have for its pairs, and how many pairs its nodes hold
pub mod Rations
-- what the check of a tree finds, as a function of the tree: `found` takes the tree's numbers out of the free nodes and notes the violations on the way
pub mod Found
-- where the violation is that the findings note
pub mod Noted
-- the test of a leaf's key words says the same as the definition over its pairs: each key once, all in the range
pub mod Leaves
-- the first look at a node: exactly when it is accepted, as a leaf or as an internal node, and what is learnt by it
pub mod Entering
-- A sound part of a table, in terms of the findings with which its check begins: its numbers are free
pub mod Parts
-- what an accepted part shows: the check of a part gives back a height and findings only where the card holds a sound tree there, of that height
pub mod Shown
-- A sound part passes: where the card holds a sound tree whose numbers are free, the check of its root gives back the tree's height and findings
pub mod Passed
-- what the findings of an accepted table say: the free nodes are those from 1 to n that the tree has not
pub mod Facts
-- the check of a table accepts exactly the sound tables, and says the truth about them
pub mod Soundness
-- the height of a card's table is one number: a tree has no two heights
pub mod Level
-- the totals by family that the check counts are those of the table's pairs
pub mod Families
-- the check of two lines, one after the other, accepts exactly the sound cards of two lines
pub mod TwoTrees
