-- What the plans and the numbers in code say, in the terms of Change and Planning. These are definitions.
use mathlib.Core.List.{List, zip}
use Rattle.std.proofs.Math.Option.{none, some}
use Rattle.std.specs.Prelude.{Option, None, Some, ℕ, ◌≤◌, ◌<◌, get_or, take}
use Rattle.card.specs.Stores.{Store}
use Rattle.card_free.specs.NodeSet.{capacity}

-- the stores of a plan in its two rows, of which so many words count: each place with its value
unfoldable pub stores_of : List ℕ → List ℕ → ℕ → List Store
stores_of places values count = zip (take count places) (take count values)

-- the numbers in code: the first so many of three, or none
unfoldable pub given_by : Option (List ℕ) → ℕ → mathlib.Core.Option.Option (List ℕ)
given_by None count = none
given_by (Some nodes) count = some (take count nodes)

-- the first of them, and 0 where none is given
unfoldable pub left_given : Option (List ℕ) → ℕ
left_given None = 0
left_given (Some nodes) = get_or nodes 0 0

-- the first so many numbers are nodes of the set
abbrev pub Among : ℕ → List ℕ → Type 0
Among count ms = (i : ℕ) → i < count → (1 ≤ get_or ms i 0) × (get_or ms i 0 < capacity)
