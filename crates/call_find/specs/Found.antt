-- What a find answers, by the papers' numbers: the value held, absent, or a refusal. In code a refusal is an error; `told` says what a
-- result tells. These are definitions.
use Rattle.std.specs.Prelude.{ℕ, Option, Some, None, Result, Ok, Err}
use Rattle.card.specs.Refusals.{number}
use Rattle.card.specs.declared.refusal.Refusal.{Refusal}
use Rattle.call_find.specs.declared.Lookup.{Lookup}

pub data Found : Type 0 where
  Value : ℕ → Found
  Absent : Found
  Refused : ℕ → Found

abbrev pub held : Option ℕ → Found
held (Some v) = Value v
held None = Absent

abbrev pub told : Result (Option ℕ) Refusal → Found
told (Ok found) = held found
told (Err r) = Refused (number r)

-- the same of a find that hands on its depth
abbrev pub lookup_told : Result Lookup Refusal → Found
lookup_told (Ok l) = held l.found
lookup_told (Err r) = Refused (number r)

-- document 02, W-203: "A refusal carries none": 0
abbrev pub depth_told : Result Lookup Refusal → ℕ
depth_told (Ok l) = l.depth
depth_told (Err r) = 0
