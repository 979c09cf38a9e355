-- starting to format and starting an update, with their refusals in the order of "Refusal by place"
pub mod Starts
-- the refusal that a start is due, as a number
pub mod Refusals
