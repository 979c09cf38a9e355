-- A tree taken apart at a place in it: its context, the children left and right of the way; totals over nodes
pub mod Tree
-- the words that represent a tree, taken apart at a place in it; which stores leave a tree alone
pub mod Represent
-- laws of a tree's pairs and of look-up in them
pub mod Pairs
-- laws of parts put into a row of children
pub mod Splice
-- laws of violations
pub mod Violations
-- how many nodes a tree can have, and how high a balanced one can be
pub mod Counting
-- one link store puts a new part in the place of an old one; every store before it leaves the old tree
pub mod Replace
-- A forest cut in two after its first n children
pub mod Cut
-- pairs by rising key, and the leaves that hold them
pub mod Sorted
-- what is read off the card where it represents a tree: kind, children, routing keys, and the rows of a leaf
pub mod Reading
-- the way of a key through a tree, as a context: what the key passes and where it stops
pub mod Path
-- lists of pairs that hold the same pairs answer every look-up alike
pub mod Lookup
-- stores in a leaf that is in the tree: a value, a key, a key taken out
pub mod InPlace
