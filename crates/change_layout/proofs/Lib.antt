-- laws of a change that is laid out: its numbers, its rows, and the nodes that it cuts out
pub mod LayOutLaws
-- which change a repair comes to, where the tests on the card are decided
pub mod Mending
-- "So a change is at most 73 stores": what is laid out is within the bounds of a plan
pub mod Bounds
-- a change on a line's table is laid out as on the card: what the new nodes hold is read off nodes alone
pub mod LineLayOut
