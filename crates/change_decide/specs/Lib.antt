-- which change is due, and where
pub mod Decide
-- what a decision says of the card it is made on
pub mod Places
