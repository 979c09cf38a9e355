-- the four words of an answer
pub mod ReplyWords
-- what an answer tells
pub mod Told
