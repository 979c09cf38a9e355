-- the starred cards, computed
pub mod Cards
-- the power-cut promise speaks of something
pub mod Instance
