-- The pairs of a tree, its ranges, and what a key finds in it.
use Rattle.std.specs.Prelude.{◌≡◌, List, [], ◌∷◌, ◌++◌, ℕ, ◌≤◌, ltb, eqb}
use Rattle.std.proofs.Math.Option.{Option, none, some}
use Rattle.card.specs.Layout.{slot_pairs}
use Rattle.laws.specs.Cases.{pick}
use Rattle.laws.specs.Totals.{indicator, total}
use Rattle.theory_tree.specs.Tree.{Tree, Forest, leaf, node, one, more}

abbrev mutual
  pub pairs : Tree → List (ℕ × ℕ)
  pairs (leaf m ks vs) = slot_pairs ks vs
  pairs (node m g f) = forest_pairs f

  pub forest_pairs : Forest → List (ℕ × ℕ)
  forest_pairs (one t) = pairs t
  forest_pairs (more t k f) = pairs t ++ forest_pairs f

-- first match
abbrev pub lookup : ℕ → List (ℕ × ℕ) → Option ℕ
lookup k [] = none
lookup k (p ∷ ps) = pick (eqb k p.0) (some p.1) (lookup k ps)

-- the number of pairs with key k
abbrev pub has_key : ℕ → ℕ × ℕ → ℕ
has_key k p = indicator k p.0

-- outside the range [lo, hi): 1, else 0
abbrev pub outside : ℕ → ℕ → ℕ × ℕ → ℕ
outside lo hi p = pick (ltb p.0 lo) 1 (pick (ltb p.0 hi) 0 1)

pub record LeafRange (lo hi : ℕ) (ps : List (ℕ × ℕ)) : Type 0 where
  pub inside : total (outside lo hi) ps ≡ 0
  pub once : (k : ℕ) → total (has_key k) ps ≤ 1
