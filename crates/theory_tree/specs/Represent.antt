-- The card holds a tree: each node of it stands in its 24 words. What a store elsewhere leaves, and what the store of a link does.
use Rattle.std.specs.Prelude.{◌≡◌, List, Bool, true, false, ℕ, ◌≤◌, length, get_or}
use Rattle.card.specs.Layout.{root_place}
use Rattle.card.specs.NodeWords.{NodeWords}
use Rattle.theory_tree.specs.Tree.{Tree, Forest, root, roots, routing, leaf, node, one, more}

abbrev pub kind : Bool → ℕ
kind false = 2
kind true = 3

abbrev mutual
  pub Represents : List ℕ → Tree → Type 0
  Represents c (leaf m ks vs) = NodeWords c m 1 ks vs × (length ks ≡ 11) × (length vs ≡ 11)
  Represents c (node m g f) = NodeWords c m (kind g) (routing f) (roots f) × RepresentsAll c f × (length (roots f) ≤ 11)

  pub RepresentsAll : List ℕ → Forest → Type 0
  RepresentsAll c (one t) = Represents c t
  RepresentsAll c (more t k f) = Represents c t × RepresentsAll c f

-- a card holds a tree: its root's number stands in word 4, and the words of its nodes represent it
abbrev pub Holds : List ℕ → Tree → Type 0
Holds c t = (get_or c root_place 0 ≡ root t) × (8 ≤ length c) × Represents c t
