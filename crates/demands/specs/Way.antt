-- Where a key leads on a card, and whether the leaf there is full.
use Rattle.std.specs.Prelude.{Bool, true, false, not, List, [], ◌∷◌, ℕ, ◌-◌, ◌/◌, length, eqb}
use Rattle.std.proofs.Math.Option.{Option, map, Option-elim}
use Rattle.card.specs.Layout.{node_at, key_words}
use Rattle.walk.specs.Descent.{way, run_over}
use Rattle.laws.specs.Cases.{pick}

-- N, by the card's length of 8 + 24 × N words
abbrev pub nodes_on : List ℕ → ℕ
nodes_on c = (length c - 8) / 24

-- Where a key leads: the leaf that its way ends at, and j, "the number of 11-child nodes without a break straight above" it; none where
-- the way is refused with 9: "node number 0 or above N, kind not 1 to 3, no children, or more than 10 internal nodes".
abbrev pub leads_to : List ℕ → ℕ → Option (ℕ × ℕ)
leads_to c key = map (λ p. (p.node, run_over c 0 (way c (nodes_on c) key).inner)) (way c (nodes_on c) key).leaf

-- the word is one of these
unfoldable pub among : ℕ → List ℕ → Bool
among x [] = false
among x (y ∷ ys) = pick (eqb y x) true (among x ys)

-- "A key word of 0 is an empty slot": no slot of the leaf that the key leads to is empty
abbrev pub leaf_full : List ℕ → ℕ → Bool
leaf_full c key = Option-elim (way c (nodes_on c) key).leaf false (λ p. not (among 0 (key_words (node_at c p.node))))
