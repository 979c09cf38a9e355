-- laws of the starts: one for each branch of the code
pub mod StartLaws
