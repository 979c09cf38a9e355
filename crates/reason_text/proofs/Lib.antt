-- the definitions at work: a text of each kind
pub mod Examples
