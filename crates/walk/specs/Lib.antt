-- document 01, "The card", last paragraph, and the row "on the way down" of "Refusal by place"
pub mod Descent
