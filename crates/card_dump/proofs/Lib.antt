-- laws of words as bytes and of the lists that the loops build, one store or one word a turn
pub mod ByteLaws
-- laws of eight bytes read as one number: it is 0 exactly when all eight are
pub mod Padding
-- laws of the refusals and of the answers: when each is due, and what an answer tells its caller
pub mod AnswerLaws
-- writing a card and reading the bytes back gives the card's words
pub mod RoundTrip
-- the definitions at work on the input that document 01 gives the list program
pub mod Examples
