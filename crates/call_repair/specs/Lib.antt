-- "opens and repairs it in memory"
pub mod Repairing
