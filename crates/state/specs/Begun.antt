-- What opening and starting answer, by the papers' numbers: an idle state, a call or a repair in hand, or a refusal. In code a refusal is
-- an error; `told` says what a result tells. These are definitions.
use Rattle.std.specs.Prelude.{ℕ, Result, Ok, Err}
use Rattle.card.specs.Refusals.{number}
use Rattle.card.specs.declared.refusal.Refusal.{Refusal}
use Rattle.state.specs.declared.Begun.{Begun as Given}
use Rattle.state.specs.declared.Begun.TheVariants.{Idle as GivenIdle, Started as GivenStarted}

pub data Begun : Type 0 where
  Idle : Begun
  Started : Begun
  Refused : ℕ → Begun

abbrev pub told : Result Given Refusal → Begun
told (Ok GivenIdle) = Idle
told (Ok GivenStarted) = Started
told (Err r) = Refused (number r)
