-- What the exported calls promise. These are definitions.
use Rattle.std.specs.Prelude.{◌≡◌, ℕ, Result, Ok, Err}
use Rattle.card.specs.Replies.{Reply}
use Rattle.card.specs.Refusals.{number}
use Rattle.card.specs.declared.refusal.Refusal.{Refusal}

-- the four words are those of an answer with which the table's call met its contract
abbrev pub Replies : {A : Type 0} → (A → Reply) → Reply → (A → Type 0) → Type 0
Replies {A} says reply Call = (answer : A) × (reply ≡ says answer) × Call answer

-- an answer with its refusal as the number that the papers give it
abbrev pub numbered : {A : Type 0} → Result A Refusal → Result A ℕ
numbered (Ok a) = Ok a
numbered (Err r) = Err (number r)
