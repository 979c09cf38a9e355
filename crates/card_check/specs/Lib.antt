-- the check of a table as it is computed
pub mod Check
-- the totals by family, counted in the same pass
pub mod Counting
