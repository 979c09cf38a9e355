-- laws of the records: one for each branch of the code
pub mod RecordLaws
