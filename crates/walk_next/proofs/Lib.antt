-- laws of the next pair: one for each branch of the code
pub mod SuccessorLaws
