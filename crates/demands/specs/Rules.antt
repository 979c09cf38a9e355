-- The tree's rules: document 01, "The changes" (and, for the numbers, "State, steps and free nodes"). Each rule says, of a card's
-- words alone, which nodes a change is given, which it cuts out, and which stores it is, in order. Nothing is said here of how a
-- change is found or planned.
use Rattle.std.specs.Prelude.{◌≡◌, Bool, true, false, List, [], ◌∷◌, ◌++◌, ◌⊎◌, ℕ, suc, ◌+◌, ◌-◌, ◌/◌, ◌≤◌, ◌<◌, eqb, length, get_or, set, take, drop}
use Rattle.std.proofs.Math.Option.{some}
use Rattle.card.specs.Layout.{root_place, place, node_at, kind_of, key_words, children, routing_keys, leaf_pairs}
use Rattle.walk.specs.Descent.{count_of}
use Rattle.card.specs.Stores.{Store, NewNode, new_node, node_stores}
use Rattle.laws.specs.Cases.{pick}
use Rattle.laws.specs.Sorting.{sort, pair_keys, pair_values, key_at}
use Rattle.demands.specs.Way.{leads_to, among}

-- ---- the nodes that a change is given

-- "A change takes the next free node after the one given last, going round from N to 1"
pub record NextFree (free : List Bool) (last m : ℕ) : Type 0 where
  pub is_node : 1 ≤ m
  pub is_free : get_or free m false ≡ true
  pub is_next : ((last < m) × ((x : ℕ) → last < x → x < m → get_or free x false ≡ false))
      ⊎ ((m ≤ last) × ((x : ℕ) → last < x → get_or free x false ≡ false) × ((x : ℕ) → 1 ≤ x → x < m → get_or free x false ≡ false))

-- so many of them, each the next after the one before
pub data Given : List Bool → ℕ → List ℕ → Type 0 where
  none_given : {free : List Bool} {last : ℕ} → Given free last []
  then_given : {free : List Bool} {last m : ℕ} {ms : List ℕ} → NextFree free last m → Given (set free m false) m ms → Given free last (m ∷ ms)

-- the bits of these nodes set or cleared: nodes given are not free, "Nodes cut out of the tree are free after the store that cuts
-- them out"
abbrev pub marked : Bool → List ℕ → List Bool → List Bool
marked b [] free = free
marked b (m ∷ ms) free = marked b ms (set free m b)

-- ---- where a node stands

-- Node m is reached from the root, and its number stands in this word: "in the parent's child word or in word 4".
pub data LinkedAt (c : List ℕ) : ℕ → ℕ → Type 0 where
  root_linked : LinkedAt c root_place (get_or c root_place 0)
  child_linked : {link m : ℕ} (i : ℕ) → LinkedAt c link m → i < length (children (node_at c m)) → LinkedAt c (place m (12 + i)) (get_or (children (node_at c m)) i 0)

-- "under a tagged node (internal if it is the root)"
abbrev pub kind_under : ℕ → ℕ
kind_under link = pick (eqb link root_place) 2 3

-- "New nodes are given and written left, right, then above, words 0 to 23 of each in order; a single link store .. comes last."
abbrev pub written : List NewNode → ℕ → ℕ → List Store
written nodes link number = node_stores nodes ++ (link, number) ∷ []

-- "Pairs in new leaves ascend from slot 0; unused words are 0."
abbrev pub leaf_holding : ℕ → List (ℕ × ℕ) → NewNode
leaf_holding a ps = new_node a 1 (pair_keys ps) (pair_values ps)

-- the routing keys and the children of node m
abbrev pub routes : List ℕ → ℕ → List ℕ
routes c m = routing_keys (node_at c m)

abbrev pub kids : List ℕ → ℕ → List ℕ
kids c m = children (node_at c m)

-- ---- the first change of an update; `given`, `cut` and the stores

-- slot i is the first whose key word is x
abbrev pub FirstSlot : List ℕ → ℕ → ℕ → Type 0
FirstSlot row x i = (i < 11) × (get_or row i 0 ≡ x) × ((k : ℕ) → k < i → get_or row k 0 ≡ x → ⊥)

-- "key absent, leaf full": the key leads to leaf m, below j 11-child nodes without a break straight above
pub record FullLeaf (c : List ℕ) (key m j : ℕ) : Type 0 where
  pub leads : leads_to c key ≡ some (m, j)
  pub absent : among key (key_words (node_at c m)) ≡ false
  pub full : among 0 (key_words (node_at c m)) ≡ false

-- "With an empty slot: value first, then key, in the lowest empty slot. Leaf full: the 12 pairs go 6 and 6 into two leaves under a
-- tagged node (internal if it is the root) whose routing key is the right leaf's smallest."
pub data InsertRule (c : List ℕ) (key value : ℕ) : List ℕ → List ℕ → List Store → Type 0 where
  in_slot : {m j : ℕ} (i : ℕ)
      → leads_to c key ≡ some (m, j)
      → among key (key_words (node_at c m)) ≡ false
      → FirstSlot (key_words (node_at c m)) 0 i
      → InsertRule c key value [] [] ((place m (12 + i), value) ∷ (place m (1 + i), key) ∷ [])
  leaf_split : {m j link : ℕ} (a b d : ℕ) (twelve : List (ℕ × ℕ))
      → FullLeaf c key m j
      → LinkedAt c link m
      → twelve ≡ sort ((key, value) ∷ leaf_pairs (node_at c m))
      → InsertRule c key value (a ∷ b ∷ d ∷ []) (m ∷ [])
      (written (leaf_holding a (take 6 twelve) ∷ leaf_holding b (drop 6 twelve) ∷ new_node d (kind_under link) (key_at 6 twelve ∷ []) (a ∷ b ∷ []) ∷ []) link d)

-- "Delete: key word to 0"; "In a leaf it is at the first slot whose key word equals the key."
pub data DeleteRule (c : List ℕ) (key : ℕ) : List ℕ → List ℕ → List Store → Type 0 where
  key_cleared : {m j : ℕ} (i : ℕ)
      → leads_to c key ≡ some (m, j)
      → FirstSlot (key_words (node_at c m)) key i
      → DeleteRule c key [] [] ((place m (1 + i), 0) ∷ [])

-- ---- repairs

-- What two siblings x and y hold together, k being the routing key between them: their kind, their keys and their values or
-- children. "Internal nodes bring the routing key between them down".
pub data Together (c : List ℕ) (x k y : ℕ) : ℕ → List ℕ → List ℕ → Type 0 where
  two_leaves_lem : kind_of (node_at c x) ≡ 1 → kind_of (node_at c y) ≡ 1
      → Together c x k y 1 (pair_keys (sort (leaf_pairs (node_at c x) ++ leaf_pairs (node_at c y)))) (pair_values (sort (leaf_pairs (node_at c x) ++ leaf_pairs (node_at c y))))
  two_internal : kind_of (node_at c x) ≡ 2 → kind_of (node_at c y) ≡ 2
      → Together c x k y 2 (routes c x ++ k ∷ routes c y) (kids c x ++ kids c y)

-- "Underfull non-root node: sibling is the right one for child 0, else the left one." Child i of the parent p, linked at `link`, is
-- underfull; it and its sibling are children j and j + 1, which are nodes x and y.
pub record Underfull (c : List ℕ) (link p j x y : ℕ) : Type 0 where
  pub parent_linked : LinkedAt c link p
  pub parent_kind : kind_of (node_at c p) ≡ 2
  pub index : ℕ
  pub is_child : index < length (kids c p)
  pub few : count_of (node_at c (get_or (kids c p) index 0)) < 2
  pub first_of_two : j ≡ index - 1
  pub has_sibling : suc j < length (kids c p)
  pub left_is : x ≡ get_or (kids c p) j 0
  pub right_is : y ≡ get_or (kids c p) (suc j) 0

-- A tagged child i of the parent p, linked at `link`.
pub record TaggedChild (c : List ℕ) (link p i t : ℕ) : Type 0 where
  pub parent_linked : LinkedAt c link p
  pub parent_kind : kind_of (node_at c p) ≡ 2
  pub is_child : i < length (kids c p)
  pub child_is : get_or (kids c p) i 0 ≡ t
  pub tagged : kind_of (node_at c t) ≡ 3
  pub two : length (kids c t) ≡ 2

-- "takes its key and children in": the parent's keys and children with those of the tagged child i
abbrev pub keys_with : List ℕ → ℕ → List ℕ → List ℕ
keys_with parent i tagged = take i (routing_keys parent) ++ (routing_keys tagged ++ drop i (routing_keys parent))

abbrev pub children_with : List ℕ → ℕ → List ℕ → List ℕ
children_with parent i tagged = take i (children parent) ++ (children tagged ++ drop (suc i) (children parent))

-- Where the left one gets h values: how many keys it gets. "Between shared leaves the routing key is the right one's smallest", so
-- it stays with the right one; of internal nodes "sharing sends one up", so neither has it.
abbrev pub keys_left : ℕ → ℕ → ℕ
keys_left kind h = pick (eqb kind 1) h (h - 1)

pub data RepairRule (c : List ℕ) : List ℕ → List ℕ → List Store → Type 0 where
  -- "Tagged node: parent with at most 10 children: a new copy of the parent takes its key and children in."
  taken_in : {link p i t : ℕ} (a : ℕ)
      → TaggedChild c link p i t
      → length (kids c p) ≤ 10
      → RepairRule c (a ∷ []) (p ∷ t ∷ [])
      (written (new_node a 2 (keys_with (node_at c p) i (node_at c t)) (children_with (node_at c p) i (node_at c t)) ∷ []) link a)
  -- "Parent with 11: the 12 children go 6 and 6 into two internal nodes, the middle key above them in a tagged node (internal if it
  -- is the root)."
  parent_split : {link p i t : ℕ} (a b d : ℕ) (keys twelve : List ℕ)
      → TaggedChild c link p i t
      → 10 < length (kids c p)
      → keys ≡ keys_with (node_at c p) i (node_at c t)
      → twelve ≡ children_with (node_at c p) i (node_at c t)
      → RepairRule c (a ∷ b ∷ d ∷ []) (p ∷ t ∷ [])
      (written (
      new_node a 2 (take 5 keys) (take 6 twelve)
      ∷ new_node b 2 (drop 6 keys) (drop 6 twelve)
      ∷ new_node d (kind_under link) (get_or keys 5 0 ∷ []) (a ∷ b ∷ [])
      ∷ []
      ) link d)
  -- "Together 4 or more: shared out, the left one getting the larger half, under a new copy of the parent."
  shared : {link p j kind : ℕ} {keys values : List ℕ} (a b d h x y : ℕ)
      → Underfull c link p j x y
      → Together c x (get_or (routes c p) j 0) y kind keys values
      → 4 ≤ length values
      → h ≡ (length values + 1) / 2
      → RepairRule c (a ∷ b ∷ d ∷ []) (p ∷ x ∷ y ∷ [])
      (written (
      new_node a kind (take (keys_left kind h) keys) (take h values)
      ∷ new_node b kind (drop h keys) (drop h values)
      ∷ new_node d 2 (take j (routes c p) ++ get_or keys (keys_left kind h) 0 ∷ drop (suc j) (routes c p)) (take j (kids c p) ++ a ∷ b ∷ drop (suc (suc j)) (kids c p))
      ∷ []
      ) link d)
  -- "Together 3 or fewer: merged, the parent copied with one child less";
  merged : {link p j kind : ℕ} {keys values : List ℕ} (a b x y : ℕ)
      → Underfull c link p j x y
      → Together c x (get_or (routes c p) j 0) y kind keys values
      → length values ≤ 3
      → ((link ≡ root_place) × (length (kids c p) ≡ 2) → ⊥)
      → RepairRule c (a ∷ b ∷ []) (p ∷ x ∷ y ∷ [])
      (written (
      new_node a kind keys values
      ∷ new_node b 2 (take j (routes c p) ++ drop (suc j) (routes c p)) (take j (kids c p) ++ a ∷ drop (suc (suc j)) (kids c p))
      ∷ []
      ) link b)
  -- "if that parent is the root with 2 children, the merged node becomes the root."
  merged_root : {p j kind : ℕ} {keys values : List ℕ} (a x y : ℕ)
      → Underfull c root_place p j x y
      → Together c x (get_or (routes c p) j 0) y kind keys values
      → length values ≤ 3
      → length (kids c p) ≡ 2
      → RepairRule c (a ∷ []) (p ∷ x ∷ y ∷ []) (written (new_node a kind keys values ∷ []) root_place a)
