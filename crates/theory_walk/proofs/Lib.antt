-- routing on the card is routing in the tree: where the card represents an internal node
pub mod Routing
-- find on the card is look-up in the map: the key leads to a leaf whose slots answer as the tree's pairs do
pub mod Find
-- a key's way on the card is its way through the tree
pub mod Way
-- a key and the ranges on its way: a key that a tree holds lies in its range, and so does one that leads to a part of it
pub mod Ranges
-- the search for a violation on the card is the way of the key through the tree: it comes to the violation that lies on the key's path
pub mod Seek
-- where a key leads: the leaf, the link to it, how many internal nodes stand above it, and the 11-child nodes without a break straight above it
pub mod Landing
-- how many internal nodes a way passes
pub mod Depth
