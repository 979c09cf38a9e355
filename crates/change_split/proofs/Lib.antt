-- laws of a split, and of a parent that takes its tagged child in
pub mod SplitLaws
