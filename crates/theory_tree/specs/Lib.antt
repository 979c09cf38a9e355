-- the abstract tree
pub mod Tree
-- the card holds a tree: each node of it stands in its 24 words
pub mod Represent
-- the pairs of a tree, its ranges, and what a key finds in it
pub mod Pairs
-- how high a tree is
pub mod Height
-- the internal nodes on a number's way
pub mod Passed
-- violations (document 01: faults) and widths, as one additive count
pub mod Violations
-- a sound table is here a well-formed one, a fault a violation
pub mod WellFormed
-- "The free nodes are one bit each: those not reached from the root"
pub mod FreeNodes
-- "the 11-child nodes without a break straight above a tagged node"
pub mod Reserve
