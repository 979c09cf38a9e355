-- Document 01, "State, steps and free nodes" and "The changes": the nodes that a change is given, and what a step finds that has none in hand.
use Rattle.std.specs.Prelude.{Bool, true, false, List, [], ◌∷◌, ℕ, zero, suc, get_or, set, Option as Found, Some, None}
use Rattle.std.proofs.Math.Option.{Option, none, some}
use Rattle.card.specs.Stores.{Store}
use Rattle.card_free.specs.NodeSet.{next_free}
use Rattle.change_plan.specs.Change.{Change, change_stores}

-- What a step that has no store left to make finds: refusal 9, nothing to repair, or a change with its nodes given: the
-- stores to come, the nodes then free, the node given last, and the nodes that the last store cuts out.
pub data Preparation : Type 0 where
  refused : Preparation
  balanced : Preparation
  prepared : List Store → List Bool → ℕ → List ℕ → Preparation

-- "A change takes the next free node after the one given last, going round from N to 1": so many of them, in the order given
unfoldable pub numbers_from : Found ℕ → (ℕ → Option (List ℕ)) → Option (List ℕ)
numbers_from None rest = none
numbers_from (Some m) rest = elim (rest m) [ none ↦ none | some ms ↦ some (m ∷ ms) ]

unfoldable pub take_numbers : ℕ → List Bool → ℕ → Option (List ℕ)
take_numbers zero free last = some []
take_numbers (suc k) free last = numbers_from (next_free free last) (λ m. take_numbers k (set free m false) m)

-- "The free nodes are .. those not reached from the root, nor given for the change in hand."
unfoldable pub without_all : List ℕ → List Bool → List Bool
without_all [] free = free
without_all (m ∷ ms) free = without_all ms (set free m false)

unfoldable pub last_of : ℕ → List ℕ → ℕ
last_of last [] = last
last_of last (m ∷ ms) = last_of m ms

-- a change over so many new numbers; "or too few free nodes": refused
unfoldable pub over_numbers : List Bool → ℕ → (List ℕ → Change) → Option (List ℕ) → Preparation
over_numbers free last change none = refused
over_numbers free last change (some ms) = prepared (change_stores (change ms)) (without_all ms free) (last_of last ms) (change ms).cut

unfoldable pub giving : ℕ → List Bool → ℕ → (List ℕ → Change) → Preparation
giving k free last change = over_numbers free last change (take_numbers k free last)

-- the numbers of a change, left, right, above
abbrev pub first : List ℕ → ℕ
first ms = get_or ms 0 0

abbrev pub second : List ℕ → ℕ
second ms = get_or ms 1 0

abbrev pub third : List ℕ → ℕ
third ms = get_or ms 2 0

-- "Nodes cut out of the tree are free after the store that cuts them out, and are given again."
unfoldable pub with_all : List ℕ → List Bool → List Bool
with_all [] free = free
with_all (m ∷ ms) free = with_all ms (set free m true)
