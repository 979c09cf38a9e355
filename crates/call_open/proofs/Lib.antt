-- laws of opening: one for each branch of the code
pub mod OpeningLaws
