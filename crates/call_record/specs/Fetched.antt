-- What the question for a record answers (document 02, W-213), by the papers' numbers: found, absent, or a refusal. In code a refusal is an
-- error; `told` says what a result tells. These are definitions.
use Rattle.std.specs.Prelude.{Bool, true, false, ℕ, Result, Ok, Err}
use Rattle.card.specs.Refusals.{number}
use Rattle.card.specs.declared.refusal.Refusal.{Refusal}

pub data Fetched : Type 0 where
  Found : Fetched
  Absent : Fetched
  Refused : ℕ → Fetched

abbrev pub told : Result Bool Refusal → Fetched
told (Ok true) = Found
told (Ok false) = Absent
told (Err r) = Refused (number r)
