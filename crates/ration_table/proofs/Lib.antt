-- the length of a dump's result fits a word
pub mod DumpLaws
-- a refusal handed on as its number tells what it did
pub mod NumberLaws
