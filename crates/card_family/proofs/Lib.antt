-- laws of the totals: what counting a pair in or out does to them
pub mod FamilyLaws
