-- laws of a set of nodes as a list of Bools: what is found, how the count changes, and the set of all nodes
pub mod NodeSetLaws
-- the words that hold a set of nodes: what a load, a store and a count of one word mean for the list of Bools
pub mod Words
-- the search for the first free node, word by word
pub mod Search
-- the set of all nodes, made word by word
pub mod Filling
