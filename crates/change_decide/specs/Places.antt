-- Where a change may be: what a decision says of the card that it is made on, and what laying it out relies on.
use Rattle.std.specs.Prelude.{◌≡◌, List, ℕ, suc, ◌+◌, ◌*◌, ◌^◌, ◌≤◌, ◌<◌, length, eqb}
use Rattle.laws.specs.Cases.{pick}
use Rattle.card.specs.Layout.{greatest_nodes, node_at, kind_of, children, leaf_pairs}
use Rattle.card.specs.NodeWords.{OnCard}
use Rattle.walk.specs.declared.Position.{Position}
use Rattle.change_decide.specs.Decide.{left_sibling, left_number, right_number}
use Rattle.change_decide.specs.declared.Decision.{Decision}
use Rattle.change_decide.specs.declared.Decision.TheVariants.{Refused, Balanced, PutPair, ClearKey, SplitLeaf, Absorb, SplitParent, Share, Merge, MergeRoot}

-- a position on a card of n nodes that has a parent
pub record PositionWithin (card : List ℕ) (n : ℕ) (p : Position) : Type 0 where
  pub size : length card ≡ 8 + 24 * n
  pub few : n ≤ greatest_nodes
  pub parent_from : 1 ≤ p.parent
  pub parent_to : p.parent ≤ n
  pub node_from : 1 ≤ p.node
  pub node_to : p.node ≤ n
  pub child : p.index < length (children (node_at card p.parent))
  pub link : p.above < 2 ^ 32

-- the parent's words
abbrev pub parent_at : List ℕ → Position → List ℕ
parent_at card p = node_at card p.parent

-- a tagged node with two children, on a card of some number of nodes
pub record TaggedAt (card : List ℕ) (p : Position) : Type 0 where
  pub nodes : ℕ
  pub within : PositionWithin card nodes p
  pub two : length (children (node_at card p.node)) ≡ 2

-- the words of the two siblings
abbrev pub left_at : List ℕ → Position → List ℕ
left_at card p = node_at card (left_number (parent_at card p) p)

abbrev pub right_at : List ℕ → Position → List ℕ
right_at card p = node_at card (right_number (parent_at card p) p)

-- how many pairs or children two siblings have together
unfoldable pub count_together : List ℕ → List ℕ → ℕ
count_together x y = pick (eqb (kind_of x) 1) (length (leaf_pairs x) + length (leaf_pairs y)) (length (children x) + length (children y))

abbrev pub together_count : List ℕ → Position → ℕ
together_count card p = count_together (left_at card p) (right_at card p)

-- two siblings, leaves or internal nodes with children, whose pairs or children go into two nodes
pub record SiblingsAt (card : List ℕ) (p : Position) : Type 0 where
  pub nodes : ℕ
  pub within : PositionWithin card nodes p
  pub beside : suc (left_sibling p) < length (children (parent_at card p))
  pub left : OnCard card (left_number (parent_at card p) p)
  pub right : OnCard card (right_number (parent_at card p) p)
  pub inner : (kind_of (left_at card p) ≡ 1 → ⊥) → (0 < length (children (left_at card p))) × (0 < length (children (right_at card p)))
  pub few : together_count card p ≤ 12

-- a leaf on the card, for an update
pub record LeafAt (card : List ℕ) (m : ℕ) : Type 0 where
  pub on : OnCard card m
  pub most : m ≤ greatest_nodes

-- what each decision says of the card
unfoldable pub Fits : List ℕ → Decision → Type 0
Fits card Refused = Unit {0}
Fits card Balanced = Unit {0}
Fits card (PutPair m i key value) = LeafAt card m × (i < 11)
Fits card (ClearKey m i) = LeafAt card m × (i < 11)
Fits card (SplitLeaf m link key value) = LeafAt card m × (link < 2 ^ 32) × (length (leaf_pairs (node_at card m)) ≡ 11)
Fits card (Absorb p) = TaggedAt card p × (length (children (parent_at card p)) ≤ 10)
Fits card (SplitParent p) = TaggedAt card p × (10 < length (children (parent_at card p)))
Fits card (Share p) = SiblingsAt card p × (4 ≤ together_count card p)
Fits card (Merge p) = SiblingsAt card p × (together_count card p < 4)
Fits card (MergeRoot p) = SiblingsAt card p × (together_count card p < 4)
