-- what the exported calls promise, in the terms of the table's own calls
pub mod Clauses
