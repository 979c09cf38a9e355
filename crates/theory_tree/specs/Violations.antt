-- Violations (document 01: faults) and widths, as one additive count.
use Rattle.std.specs.Prelude.{◌≡◌, Bool, true, false, ℕ, ◌+◌, ◌≤◌, length, ltb}
use Rattle.card.specs.Layout.{slot_pairs}
use Rattle.laws.specs.Bits.{bit}
use Rattle.laws.specs.Cases.{pick}
use Rattle.theory_tree.specs.Tree.{Tree, Forest, roots, leaf, node, one, more}

unfoldable pub few : ℕ → ℕ
few n = pick (ltb n 2) 1 0

-- the faults of a tree that is not the root
abbrev mutual
  pub violations : Tree → ℕ
  violations (leaf m ks vs) = few (length (slot_pairs ks vs))
  violations (node m g f) = bit g + few (length (roots f)) + forest_violations f

  pub forest_violations : Forest → ℕ
  forest_violations (one t) = violations t
  forest_violations (more t k f) = violations t + forest_violations f

-- widths of trees that are not the root
abbrev pub Width : Bool → ℕ → Type 0
Width true n = n ≡ 2
Width false n = (1 ≤ n) × (n ≤ 11)

abbrev mutual
  pub Widths : Tree → Type 0
  Widths (leaf m ks vs) = 1 ≤ length (slot_pairs ks vs)
  Widths (node m g f) = Width g (length (roots f)) × AllWidths f

  pub AllWidths : Forest → Type 0
  AllWidths (one t) = Widths t
  AllWidths (more t k f) = Widths t × AllWidths f

-- the root
abbrev pub RootOk : Tree → Type 0
RootOk (leaf m ks vs) = Unit
RootOk (node m true f) = ⊥
RootOk (node m false f) = (2 ≤ length (roots f)) × (length (roots f) ≤ 11) × AllWidths f

abbrev pub table_violations : Tree → ℕ
table_violations (leaf m ks vs) = 0
table_violations (node m g f) = forest_violations f
