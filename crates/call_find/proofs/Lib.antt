-- laws of a find: one for each branch of the code
pub mod FindLaws
