-- Document 01, "The changes": two nodes that share what there is, and one above them; a parent that takes its tagged child in.
use Rattle.std.specs.Prelude.{List, [], ◌∷◌, ◌++◌, ℕ}
use Rattle.laws.specs.Sorting.{sort}
use Rattle.card.specs.Layout.{node_at, leaf_pairs}
use Rattle.card.specs.Stores.{new_node}
use Rattle.walk.specs.declared.Position.{Position}
use Rattle.change_decide.specs.Places.{parent_at}
use Rattle.change_plan.specs.Change.{Change, kind_above, split_leaf, joined_keys, joined_children, absorb, split_parent, Together, key_between, halves}
use Rattle.change_plan.specs.Planning.{first, second, third}

-- the two, and the one above them with the key between them, linked from a place: "under a tagged node (internal if it is the
-- root)". It cuts out nothing of its own.
unfoldable pub under : ℕ → Together → List ℕ → Change
under link both ms =
    record {
      nodes = halves both (first ms) (second ms) ++ new_node (third ms) (kind_above link) (key_between both ∷ []) (first ms ∷ second ms ∷ []) ∷ [];
      link = link;
      top = third ms;
      cut = [];
    }

-- "Leaf full: the 12 pairs go 6 and 6 into two leaves": leaf m with these words, linked from a place, and a pair more
abbrev pub split_leaf_of : ℕ → ℕ → ℕ → ℕ → List ℕ → List ℕ → Change
split_leaf_of m link key value leaf = λ ms. split_leaf m link (sort ((key, value) ∷ leaf_pairs leaf)) (first ms) (second ms) (third ms)

-- the keys and the children of the parent with those of its tagged child taken in
abbrev pub keys_taken_in : List ℕ → Position → List ℕ
keys_taken_in card p = joined_keys (parent_at card p) p.index (node_at card p.node)

abbrev pub children_taken_in : List ℕ → Position → List ℕ
children_taken_in card p = joined_children (parent_at card p) p.index (node_at card p.node)

-- the changes of a tagged node and its parent, over the numbers that they are given
abbrev pub absorb_at : List ℕ → Position → List ℕ → Change
absorb_at card p = λ ms. absorb p (keys_taken_in card p) (children_taken_in card p) (first ms)

abbrev pub split_parent_at : List ℕ → Position → List ℕ → Change
split_parent_at card p = λ ms. split_parent p (keys_taken_in card p) (children_taken_in card p) (first ms) (second ms) (third ms)
