-- new nodes as rows of places and of words, and the rows of a change
pub mod Nodes
-- pairs of a key and a value by rising key, in two rows
pub mod Pairs
-- what two nodes hold together, shared out
pub mod Halves
