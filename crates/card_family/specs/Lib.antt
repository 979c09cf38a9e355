-- the family of a ration number, what each family holds, and the totals that are kept of it
pub mod Families
