-- Document 01, "A sound table": a sound table is here a well-formed one, a fault a violation.
-- A range runs from its low end, included, to its high end, excluded.
use Rattle.std.specs.Prelude.{◌≡◌, List, [], ◌∷◌, ℕ, ◌≤◌, ◌<◌}
use Rattle.card.specs.Layout.{lowest_key, key_limit, slot_pairs}
use Rattle.laws.specs.Totals.{indicator}
use Rattle.theory_tree.specs.Pairs.{LeafRange}
use Rattle.theory_tree.specs.Represent.{Holds}
use Rattle.theory_tree.specs.Height.{Height}
use Rattle.theory_tree.specs.Tree.{Tree, Forest, routing, node_total, leaf, node, one, more}
use Rattle.theory_tree.specs.Violations.{RootOk, table_violations}

-- "its routing keys rise strictly"
abbrev pub RisingKeys : List ℕ → Type 0
RisingKeys [] = Unit
RisingKeys (k ∷ []) = Unit
RisingKeys (k ∷ x ∷ ks) = (k < x) × RisingKeys (x ∷ ks)

-- "and each lies in its range"
abbrev pub KeysWithin : ℕ → ℕ → List ℕ → Type 0
KeysWithin lo hi [] = Unit
KeysWithin lo hi (k ∷ ks) = (lo ≤ k) × (k < hi) × KeysWithin lo hi ks

-- "A leaf is sound when its keys are distinct and in its range; an internal node is sound when its children are, its routing
-- keys rise strictly, and each lies in its range (a child's range runs from the routing key before it, included, to the one
-- after it, excluded ..)"
abbrev mutual
  pub SoundIn : ℕ → ℕ → Tree → Type 0
  SoundIn lo hi (leaf m ks vs) = LeafRange lo hi (slot_pairs ks vs)
  SoundIn lo hi (node m g f) = SoundChildren lo hi f × RisingKeys (routing f) × KeysWithin lo hi (routing f)

  pub SoundChildren : ℕ → ℕ → Forest → Type 0
  SoundChildren lo hi (one t) = SoundIn lo hi t
  SoundChildren lo hi (more t k f) = SoundIn lo k t × SoundChildren k hi f

-- The card's words represent the tree, and the tree is sound.
pub record WellFormed (c : List ℕ) (t : Tree) : Type 0 where
  -- "Every node number followed is 1 to N .. and in reached nodes the words called 0 above are 0"
  pub holds : Holds c t
  -- "no node is reached twice"
  pub once : (i : ℕ) → node_total (indicator i) t ≤ 1
  -- "the root's is all keys"
  pub sound : SoundIn lowest_key key_limit t
  -- "The root is not tagged; if internal it has 2 to 11 children, if a leaf 0 to 11 pairs. Other leaves have 1 to 11 pairs,
  -- other internal nodes 1 to 11 children, tagged ones exactly 2."
  pub widths : RootOk t
  -- "All leaves are equally deep when tagged nodes are not counted."
  pub level : (h : ℕ) × Height h t
  -- "A sound table has at most one fault."
  pub few_violations : table_violations t ≤ 1

-- "Balanced means sound with none."
pub record Balanced (c : List ℕ) (t : Tree) : Type 0 where
  pub well_formed : WellFormed c t
  pub none : table_violations t ≡ 0
