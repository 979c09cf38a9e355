-- a change that is decided, laid out
pub mod LayOut
-- the next change of a repair
pub mod Mending
