-- what stands in the way of a new number, by the papers' numbers
pub mod Reason
-- what the reason is, of a card and of a dump
pub mod InsertReason
