-- "the pair with the smallest key greater than it, or "none" exactly when the table holds no such key"
pub mod IsNext
-- what a look-up in a list of pairs tells: the first pair, the others, and that a key which is found lies in the tree's range
pub mod Lookups
-- the pair that `least_above` finds in a list is the next one of that list
pub mod LeastAbove
-- "On a card opening would refuse with 4, it is held only to a pair above the number, "none" or 9."
pub mod AnyCard
-- ranges in a tree ("a child's range runs from the routing key before it, included, to the one after it, excluded")
pub mod ChildRange
-- the leaf that a number leads to, with its range: on the card, every number of the range leads to it, `beside_all` finds the part that stands right after
pub mod LeafOf
-- "the call answers the pair with the smallest key greater than it, or "none" exactly when the table holds no such key"
pub mod Next
-- totals over the pairs whose keys are above a number: going on to the next pair takes just that pair out of them
pub mod TotalsAbove
-- "Walking an unchanged card from 0 lists each pair once, rising"
pub mod Walk
-- A walk of the whole table is the table's pairs sorted by key: two lists of the same pairs, both rising, are one
pub mod SortedWalk
