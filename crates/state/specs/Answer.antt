-- What a step answers, by the papers' numbers: a word was stored, in this place, or the final answer of what was being done, or a refusal.
-- In code a refusal is an error; `told` says what a result tells. These are definitions.
use Rattle.std.specs.Prelude.{ℕ, Result, Ok, Err}
use Rattle.card.specs.Refusals.{number}
use Rattle.card.specs.declared.refusal.Refusal.{Refusal}
use Rattle.state.specs.declared.Answer.{Answer as Given}
use Rattle.state.specs.declared.Answer.TheVariants.{Stored as GivenStored, Ready as GivenReady, Absent as GivenAbsent, Value as GivenValue}

pub data Answer : Type 0 where
  Stored : ℕ → Answer
  Ready : Answer
  Absent : Answer
  Value : ℕ → Answer
  Refused : ℕ → Answer

-- of an answer that is no refusal
abbrev pub given : Given → Answer
given (GivenStored place) = Stored place
given GivenReady = Ready
given GivenAbsent = Absent
given (GivenValue v) = Value v

abbrev pub told : Result Given Refusal → Answer
told (Ok a) = given a
told (Err r) = Refused (number r)
