-- What reading and writing a dump answer: a length, or a refusal as the number that the papers give it.
use Rattle.std.specs.Prelude.{ℕ, Result, Ok, Err}
use Rattle.card.specs.Refusals.{number}
use Rattle.card.specs.declared.refusal.Refusal.{Refusal}

-- "The answer is the result's length in words or bytes"
pub data Answer : Type 0 where
  Length : ℕ → Answer
  Refused : ℕ → Answer

-- "or gives its number": what the result of a call says
abbrev pub told : Result ℕ Refusal → Answer
told (Ok n) = Length n
told (Err r) = Refused (number r)
