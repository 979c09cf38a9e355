-- laws of what two siblings hold together, in code
pub mod SiblingLaws
