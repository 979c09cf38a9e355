-- two nodes that share what there is, and one above them; a parent that takes its tagged child in
pub mod Split
