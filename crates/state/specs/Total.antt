-- What the question for a family's total answers (document 02, W-204), by the papers' numbers: how many pairs, or a refusal. In code a
-- refusal is an error; `told` says what a result tells. These are definitions.
use Rattle.std.specs.Prelude.{ℕ, Result, Ok, Err}
use Rattle.card.specs.Refusals.{number}
use Rattle.card.specs.declared.refusal.Refusal.{Refusal}

pub data Total : Type 0 where
  Pairs : ℕ → Total
  Refused : ℕ → Total

abbrev pub told : Result ℕ Refusal → Total
told (Ok pairs) = Pairs pairs
told (Err r) = Refused (number r)
