-- What the call for the next number answers, by the papers' numbers: a pair, none, or a refusal. In code a refusal is an error; `told` says
-- what a result tells. These are definitions.
use Rattle.std.specs.Prelude.{ℕ, Option, Some, None, Result, Ok, Err}
use Rattle.card.specs.Refusals.{number}
use Rattle.card.specs.declared.refusal.Refusal.{Refusal}
use Rattle.walk_next.specs.declared.Pair.{Pair as Given}
use Rattle.walk_next.specs.declared.NextPair.{NextPair}

pub data Successor : Type 0 where
  Pair : ℕ → ℕ → Successor
  Nothing : Successor
  Refused : ℕ → Successor

abbrev pub pair_told : Option Given → Successor
pair_told (Some p) = Pair p.key p.value
pair_told None = Nothing

abbrev pub told : Result (Option Given) Refusal → Successor
told (Ok pair) = pair_told pair
told (Err r) = Refused (number r)

-- the same of a call that hands on its depth
abbrev pub next_told : Result NextPair Refusal → Successor
next_told (Ok next) = pair_told next.pair
next_told (Err r) = Refused (number r)

-- document 02, W-203: "A refusal carries none": 0
abbrev pub depth_told : Result NextPair Refusal → ℕ
depth_told (Ok next) = next.depth
depth_told (Err r) = 0
