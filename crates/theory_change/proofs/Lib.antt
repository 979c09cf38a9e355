-- A rewrite: the part o of a table, in the context C, gives way to the part s, whose root and some nodes below it are new
pub mod Rewrite
-- "sibling is the right one for child 0, else the left one"
pub mod Siblings
-- children that give way to others under one parent
pub mod Exchange
-- two new nodes "under a tagged node (internal if it is the root)"
pub mod Above
-- the parent of the violation of a table: its children hold the only one, so that all else about them is in order
pub mod Parent
-- the repair of a tree without numbers finds the violation that the table has, and puts the part due in its parent's place
pub mod Reached
-- which change is due (document 01, "The changes"), test by test: what the planning comes to where the card's tests have been decided
pub mod Mending
-- a tagged node taken in by its parent, a parent of twelve split, and two siblings shared out or merged, each as a rewrite of the parent
pub mod InnerChanges
-- the changes of internal nodes as they are planned from the numbers on the card: they are those of the rewrites
pub mod InnerPlans
-- the violation of an internal node, whichever it is, is mended by a rewrite of its parent
pub mod InnerRepairs
-- "Pairs in new leaves ascend from slot 0; unused words are 0." A new leaf and what it holds
pub mod LeafRows
-- an underfull leaf and its sibling
pub mod LeafChanges
-- where the violation of the table is a leaf, the repair that is due on its card is the rewrite of LeafChanges, with the nodes that it is given
pub mod LeafPlans
-- whatever leaf below the root is the violation of a table, its repair is a rewrite
pub mod LeafRepairs
-- "Leaf full: the 12 pairs go 6 and 6 into two leaves under a tagged node (internal if it is the root) whose routing key is the right leaf's smallest."
pub mod LeafSplit
-- the numbers that a change is given were free
pub mod Numbers
-- laws of exact free bits: what a change that takes and frees numbers leaves of them
pub mod Exact
-- what a rewrite makes of a sound table, and of the card at every store of its plan
pub mod Rewritten
-- laws of the nodes that are kept for splits above a tagged node
pub mod Reserve
-- what one change of a repair does: it is planned, and from here on the table, its free nodes and its violation are known at every store
pub mod Repaired
-- every violation of a sound table with the nodes kept that document 01 asks for has its next change planned, and that change does what Repaired says
pub mod Mended
-- A part of a balanced table gives way to another by an update: like a rewrite, but the pairs change at the key
pub mod Reshape
-- the stores of a change, one after the other, each with the tree that the card then holds: every store but the last leaves a sound table
-- with the same pairs that can be opened; the last one puts the next tree there
pub mod Plays
-- free nodes over a count of the nodes that are reached, whichever trees they stand in: what `Exact` says of one tree, without a card
pub mod ExactOver
-- the numbers of the nodes of a tree, as a list
pub mod NumbersIn
-- a line of a card: its tree beside the other line's, and the room below its limit
pub mod Line
-- the other line's tree: a store of the line's table leaves it as it was
pub mod OtherTree
-- the room of a line is its limit less its own nodes
pub mod KeptRoom
-- two lines of one card: what a store of the one does to its own table and to the other's, and the nodes that they share out
pub mod TwoLines
