-- what reading and writing a dump answer
pub mod Answer
-- what a dump is, when one is refused, and what reading and writing one answer and store
pub mod Dump
-- the padding is tested "eight bytes at a time, as one 64-bit number proved 0 exactly when all eight are"
pub mod Padding
-- the numbers of a dump's answers (document 01, "When an answer is an enum, a definition states this paper's number and values")
pub mod Answers
