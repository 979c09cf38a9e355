-- what two siblings hold together
pub mod Siblings
