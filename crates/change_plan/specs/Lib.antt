-- what each change writes and where, as a list of stores
pub mod Change
-- the nodes that a change is given, and what a step finds that has none in hand
pub mod Planning
-- what the plans and the numbers in code say, in the terms of Change and Planning
pub mod Plan
