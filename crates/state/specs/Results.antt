-- What the answers in code say, in the terms of Steps. These are definitions.
use Rattle.std.specs.Prelude.{◌≡◌, List, [], ◌∷◌, Bool, true, false, ℕ}
use Rattle.card.specs.Stores.{Store}
use Rattle.state.specs.Answer.{Answer}
use Rattle.state.specs.Answer.{Refused}

-- an answer that is no refusal
abbrev pub Final : Answer → Type 0
Final a = (n : ℕ) → a ≡ Refused n → ⊥

-- whether a store of the change in hand is still to come
unfoldable pub more_to_store : List Store → Bool
more_to_store [] = false
more_to_store (s ∷ rest) = true
