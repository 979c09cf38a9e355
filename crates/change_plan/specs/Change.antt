-- Document 01, "The changes": what each change writes and where, as a list of stores.
use Rattle.std.specs.Prelude.{List, [], ◌∷◌, ◌++◌, ℕ, suc, ◌+◌, ◌-◌, ◌/◌, length, get_or, take, drop, eqb}
use Rattle.laws.specs.Cases.{pick}
use Rattle.laws.specs.Sorting.{Pairs, sort, pair_keys, pair_values, key_at}
use Rattle.card.specs.Layout.{root_place, children, routing_keys, leaf_pairs}
use Rattle.card.specs.Stores.{Store, NewNode, new_node, node_stores}
use Rattle.walk.specs.declared.Position.{Position}

-- A change: its new nodes in the order in which they are given and written ("left, right, then above"), the place of the
-- link, the number stored there, and the nodes that this store cuts out of the tree.
pub record Change : Type 0 where
  pub nodes : List NewNode
  pub link : ℕ
  pub top : ℕ
  pub cut : List ℕ

-- "words 0 to 23 of each in order; a single link store, in the parent's child word or in word 4, comes last"
unfoldable pub change_stores : Change → List Store
change_stores ch = node_stores ch.nodes ++ (ch.link, ch.top) ∷ []

-- "under a tagged node (internal if it is the root)": the kind of a node whose number goes to the place
unfoldable pub kind_above : ℕ → ℕ
kind_above link = pick (eqb link root_place) 2 3

-- "the 12 pairs go 6 and 6 into two leaves under a tagged node (internal if it is the root) whose routing key is the right
-- leaf's smallest": leaf m, linked from the place, and a pair more
unfoldable pub split_leaf : ℕ → ℕ → Pairs → ℕ → ℕ → ℕ → Change
split_leaf m link twelve a b c =
    record {
      nodes =
          new_node a 1 (pair_keys (take 6 twelve)) (pair_values (take 6 twelve))
          ∷ new_node b 1 (pair_keys (drop 6 twelve)) (pair_values (drop 6 twelve))
          ∷ new_node c (kind_above link) (key_at 6 twelve ∷ []) (a ∷ b ∷ [])
          ∷ [];
      link = link;
      top = c;
      cut = m ∷ [];
    }

-- the keys and the children of a parent that takes those of its tagged child i in
unfoldable pub joined_keys : List ℕ → ℕ → List ℕ → List ℕ
joined_keys parent i tagged = take i (routing_keys parent) ++ (routing_keys tagged ++ drop i (routing_keys parent))

unfoldable pub joined_children : List ℕ → ℕ → List ℕ → List ℕ
joined_children parent i tagged = take i (children parent) ++ (children tagged ++ drop (suc i) (children parent))

-- "parent with at most 10 children: a new copy of the parent takes its key and children in"
unfoldable pub absorb : Position → List ℕ → List ℕ → ℕ → Change
absorb p keys kids a = record { nodes = new_node a 2 keys kids ∷ []; link = p.above; top = a; cut = p.parent ∷ p.node ∷ [] }

-- "Parent with 11: the 12 children go 6 and 6 into two internal nodes, the middle key above them in a tagged node (internal
-- if it is the root)"
unfoldable pub split_parent : Position → List ℕ → List ℕ → ℕ → ℕ → ℕ → Change
split_parent p keys kids a b c =
    record {
      nodes =
          new_node a 2 (take 5 keys) (take 6 kids)
          ∷ new_node b 2 (drop 6 keys) (drop 6 kids)
          ∷ new_node c (kind_above p.above) (get_or keys 5 0 ∷ []) (a ∷ b ∷ [])
          ∷ [];
      link = p.above;
      top = c;
      cut = p.parent ∷ p.node ∷ [];
    }

-- What two siblings hold together: for leaves the keys and values of their pairs by rising key, for internal nodes their
-- routing keys with the one between them, and their children.
pub record Together : Type 0 where
  pub kind : ℕ
  pub keys : List ℕ
  pub values : List ℕ

unfoldable pub leaves_together : List ℕ → List ℕ → Together
leaves_together x y = record { kind = 1; keys = pair_keys (sort (leaf_pairs x ++ leaf_pairs y)); values = pair_values (sort (leaf_pairs x ++ leaf_pairs y)) }

-- "Internal nodes bring the routing key between them down"
unfoldable pub inners_together : List ℕ → ℕ → List ℕ → Together
inners_together x key y = record { kind = 2; keys = routing_keys x ++ key ∷ routing_keys y; values = children x ++ children y }

-- the larger half
unfoldable pub half : ℕ → ℕ
half n = (n + 1) / 2

-- "the left one getting the larger half": how many values that is
abbrev pub left_values : Together → ℕ
left_values both = half (length both.values)

-- "Between shared leaves the routing key is the right one's smallest. Internal nodes .. sharing sends one up": how many keys
-- the left node gets, and the key between the two
unfoldable pub left_keys : Together → ℕ
left_keys both = pick (eqb both.kind 1) (left_values both) (left_values both - 1)

unfoldable pub key_between : Together → ℕ
key_between both = get_or both.keys (left_keys both) 0

-- the two nodes that share what there is
unfoldable pub halves : Together → ℕ → ℕ → List NewNode
halves both a b =
    new_node a both.kind (take (left_keys both) both.keys) (take (left_values both) both.values)
    ∷ new_node b both.kind (drop (left_values both) both.keys) (drop (left_values both) both.values)
    ∷ []

-- Children j and j + 1 of a parent are siblings. A copy of the parent, with other keys in the place of the routing key between
-- them and other children in the place of the two; and the nodes that such a change cuts out.
unfoldable pub copied : ℕ → List ℕ → ℕ → List ℕ → List ℕ → NewNode
copied m parent j keys kids =
    new_node m 2 (take j (routing_keys parent) ++ (keys ++ drop (suc j) (routing_keys parent))) (take j (children parent) ++ (kids ++ drop (suc (suc j)) (children parent)))

abbrev pub siblings_cut : Position → List ℕ → ℕ → List ℕ
siblings_cut p parent j = p.parent ∷ get_or (children parent) j 0 ∷ get_or (children parent) (suc j) 0 ∷ []

-- "Together 4 or more: shared out, the left one getting the larger half, under a new copy of the parent."
unfoldable pub share : Position → List ℕ → ℕ → Together → ℕ → ℕ → ℕ → Change
share p parent j both a b c =
    record {
      nodes = halves both a b ++ copied c parent j (key_between both ∷ []) (a ∷ b ∷ []) ∷ [];
      link = p.above;
      top = c;
      cut = siblings_cut p parent j;
    }

-- "Together 3 or fewer: merged, the parent copied with one child less"
unfoldable pub merge : Position → List ℕ → ℕ → Together → ℕ → ℕ → Change
merge p parent j both a b =
    record {
      nodes = new_node a both.kind both.keys both.values ∷ copied b parent j [] (a ∷ []) ∷ [];
      link = p.above;
      top = b;
      cut = siblings_cut p parent j;
    }

-- "if that parent is the root with 2 children, the merged node becomes the root"
unfoldable pub merge_root : Position → List ℕ → ℕ → Together → ℕ → Change
merge_root p parent j both a =
    record {
      nodes = new_node a both.kind both.keys both.values ∷ [];
      link = p.above;
      top = a;
      cut = siblings_cut p parent j;
    }
