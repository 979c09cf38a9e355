-- the starred cards as one table, computed through the definitions that the calls are proved to meet
pub mod Cards
