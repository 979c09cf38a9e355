-- laws of the reason: one for each branch of the code
pub mod InsertReasonLaws
