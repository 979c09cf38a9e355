-- the free nodes as a list of Bools, of which place m tells of node m, and the next free node
pub mod NodeSet
