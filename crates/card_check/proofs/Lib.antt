-- laws of the check of a table: one for each branch of the code
pub mod CheckLaws
-- laws of the counting by family in the same pass
pub mod CountingLaws
-- the check of a line's tree is that of the card from the line's root: it reads nothing of the header
pub mod LineChecks
