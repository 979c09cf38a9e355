-- Laws of a node's part of the card.
use mathlib.Core.Path.{◌≡◌, refl, sym, ap, ap₂, ◌∙◌}
use mathlib.Core.List.{List, [], ◌∷◌, ◌++◌, map}
use mathlib.Core.Bool.{Bool, true, false, cond}
use Prim.Native.Nat.{ℕ, zero, suc, ◌+◌, ◌-◌, ◌*◌, ◌≤◌, ◌<◌}
use native.Mathlib.Omega.{arith}
use native.Mathlib.Numerals.{add-one}
use lib.ListN.{length, get_or, take, drop, length-append, length-take, length-drop, drop_of_length-le}
use lib.Seq.{take-take, get_or-take, get_or-drop, length-take-le, drop-cons}
use lib.Dec.{eqb, ltb}
use borrow.Author.Tests.{eq-eqb, ne_eqb}
use Rattle.std.specs.Prelude.{Some, None}
use Rattle.std.specs.Option.{unwrap_or}
use Rattle.std.specs.List.{sum, position, position_or_len}
use Rattle.std.proofs.lemmas.Bool.Decides.{nat_tests}
use Rattle.std.proofs.lemmas.List.Sums.{sum_by-cons}
use Rattle.laws.specs.Cases.{pick}
use Rattle.laws.specs.Lists.{before_zero}
use Rattle.laws.proofs.Lists.{before_zero_length, before_zero_take}
use Rattle.card.specs.Layout.{word, node_at, key_words, value_words, children, routing_keys, slot_pairs, is_key, leaf_pairs, run_below}

-- the part that the code cuts out is the node
pub node_part : (card : List ℕ) (m a b : ℕ) → a ≡ 8 + 24 * (m - 1) → b ≡ a + 24 → take (b - a) (drop a card) ≡ node_at card m
unfolding node_at
node_part card m a b e f = ap₂ (λ (x y : ℕ). take x (drop y card)) (let z : b - a ≡ 24 = omega arith in z) e

pub length_node : (card : List ℕ) (m : ℕ) → 1 ≤ m → 8 + 24 * m ≤ length card → length (node_at card m) ≡ 24
unfolding node_at
length_node card m p l = length-take-le 24 (drop (8 + 24 * (m - 1)) card) (omega (arith, length-drop (8 + 24 * (m - 1)) card))

-- its word i is word i of node m
pub node_word : (card : List ℕ) (m i : ℕ) → i < 24 → get_or (node_at card m) i 0 ≡ word card m i
unfolding node_at
node_word card m i h = get_or-take 24 (drop (8 + 24 * (m - 1)) card) i 0 h ∙ get_or-drop (8 + 24 * (m - 1)) card i 0

module _ (node : List ℕ) (len : length node ≡ 24) where
  pub length_key_words : length (key_words node) ≡ 11
  unfolding key_words
  length_key_words = length-take-le 11 (drop 1 node) (omega (arith, length-drop 1 node))

  pub length_value_words : length (value_words node) ≡ 11
  unfolding value_words
  length_value_words = length-take-le 11 (drop 12 node) (omega (arith, length-drop 12 node))

pub get_key_word : (node : List ℕ) (i : ℕ) → i < 11 → get_or (key_words node) i 0 ≡ get_or node (1 + i) 0
unfolding key_words
get_key_word node i h = get_or-take 11 (drop 1 node) i 0 h ∙ get_or-drop 1 node i 0

pub get_value_word : (node : List ℕ) (i : ℕ) → i < 11 → get_or (value_words node) i 0 ≡ get_or node (12 + i) 0
unfolding value_words
get_value_word node i h = get_or-take 11 (drop 12 node) i 0 h ∙ get_or-drop 12 node i 0

-- a node has at most eleven children, the first child words
pub children_le : (node : List ℕ) → length (children node) ≤ 11
unfolding children value_words
children_le node = omega (arith, before_zero_length (take 11 (drop 12 node)), length-take 11 (drop 12 node))

pub children_words : (node : List ℕ) (c : ℕ) → c ≡ length (children node) → children node ≡ take c (drop 12 node)
unfolding children value_words
children_words node c e =
    sym (before_zero_take (take 11 (drop 12 node)))
    ∙ ap (λ (x : ℕ). take x (take 11 (drop 12 node))) (sym e)
    ∙ take-take c 11 (drop 12 node) (omega (arith, before_zero_length (take 11 (drop 12 node)), length-take 11 (drop 12 node)))

pub routing_words : (node : List ℕ) (c : ℕ) → c ≡ length (children node) → routing_keys node ≡ take (c - 1) (drop 1 node)
unfolding routing_keys key_words
routing_words node c e = ap (λ (x : ℕ). take (x - 1) (take 11 (drop 1 node))) (sym e) ∙ take-take (c - 1) 11 (drop 1 node) (omega (arith, children_le node))

pub length_routing : (node : List ℕ) → length node ≡ 24 → length (routing_keys node) ≡ length (children node) - 1
unfolding routing_keys
length_routing node len = length-take-le (length (children node) - 1) (key_words node) (omega (arith, children_le node, length_key_words node len))

-- the place of the first 0, or the length where none is
pub before_zero_place : (xs : List ℕ) → unwrap_or (position (λ x. eqb x 0) xs) (length xs) ≡ length (before_zero xs)
before_zero_place xs = at_place (position_or_len (λ x. eqb x 0) xs) (place_is xs) (before_zero_length xs)
  where
    place_is : (xs : List ℕ) → position_or_len (λ x. eqb x 0) xs ≡ length (before_zero xs)
    place_is [] = refl
    place_is (zero ∷ xs) = refl
    place_is (suc x ∷ xs) = rw (ne_eqb (suc x) 0 (λ e. omega arith)) (omega (arith, place_is xs))

    at_place : (n : ℕ) → n ≡ length (before_zero xs) → length (before_zero xs) ≤ length xs
        → unwrap_or (cond (ltb n (length xs)) (Some n) None) (length xs) ≡ length (before_zero xs)
    at_place n e h = grind (arith, nat_tests)

-- the pairs of a leaf, counted slot by slot
pub is_key_none : (k : ℕ) → k ≡ 0 → is_key k ≡ 0
unfolding is_key
is_key_none zero e = refl
is_key_none (suc k) e = absurd (omega arith)

pub is_key_some : (k : ℕ) → (k ≡ 0 → ⊥) → is_key k ≡ 1
unfolding is_key
is_key_some zero e = absurd (e refl)
is_key_some (suc k) e = refl

-- a slot's own pair, if its key word is one, and those of the slots after it
slot_pairs_cons : (k v : ℕ) (x y : List ℕ) → slot_pairs (k ∷ x) (v ∷ y) ≡ slot_pairs (k ∷ []) (v ∷ []) ++ slot_pairs x y
slot_pairs_cons zero v x y = refl
slot_pairs_cons (suc k) v x y = refl

slot_length : (k v : ℕ) → length (slot_pairs (k ∷ []) (v ∷ [])) ≡ is_key k
unfolding is_key
slot_length zero v = refl
slot_length (suc k) v = refl

pub slots_counted : (ks vs : List ℕ) → length ks ≡ length vs → sum (map is_key ks) ≡ length (slot_pairs ks vs)
unfolding is_key
slots_counted [] vs e = refl
slots_counted (k ∷ ks) [] e = absurd (omega arith)
slots_counted (zero ∷ ks) (v ∷ vs) e = slots_counted ks vs (omega arith)
slots_counted (suc k ∷ ks) (v ∷ vs) e = omega (arith, sum_by-cons (λ x. x) 1 (map is_key ks), slots_counted ks vs (omega arith))

pub slot_pairs_le : (ks vs : List ℕ) → length (slot_pairs ks vs) ≤ length ks
slot_pairs_le [] vs = omega arith
slot_pairs_le (k ∷ ks) [] = omega arith
slot_pairs_le (zero ∷ ks) (v ∷ vs) = omega (arith, slot_pairs_le ks vs)
slot_pairs_le (suc k ∷ ks) (v ∷ vs) = omega (arith, slot_pairs_le ks vs)

-- a leaf has at most eleven pairs
pub leaf_few : (node : List ℕ) → length (leaf_pairs node) ≤ 11
unfolding leaf_pairs key_words
leaf_few node = omega (arith, slot_pairs_le (take 11 (drop 1 node)) (value_words node), length-take 11 (drop 1 node))

-- the pairs of a leaf from slot i on
unfoldable pub leaf_from : List ℕ → ℕ → List (ℕ × ℕ)
leaf_from node i = slot_pairs (drop i (key_words node)) (drop i (value_words node))

pub leaf_start : (node : List ℕ) → leaf_from node 0 ≡ leaf_pairs node
unfolding leaf_from leaf_pairs
leaf_start node = refl

module _ (node : List ℕ) (len : length node ≡ 24) where
  pub leaf_next : (i : ℕ) → i < 11 → leaf_from node i ≡ slot_pairs (get_or node (1 + i) 0 ∷ []) (get_or node (12 + i) 0 ∷ []) ++ leaf_from node (i + 1)
  unfolding leaf_from
  leaf_next i h =
      let a = length_key_words node len in
      let b = length_value_words node len in
      rw (drop-cons (key_words node) i 0 (omega arith), drop-cons (value_words node) i 0 (omega arith), add-one i, ← get_key_word node i h, ← get_value_word node i h)
      (slot_pairs_cons (get_or (key_words node) i 0) (get_or (value_words node) i 0) (drop (suc i) (key_words node)) (drop (suc i) (value_words node)))

  pub leaf_length : (i : ℕ) → i < 11 → length (leaf_from node i) ≡ is_key (get_or node (1 + i) 0) + length (leaf_from node (i + 1))
  leaf_length i h =
      ap length (leaf_next i h)
      ∙ length-append (slot_pairs (get_or node (1 + i) 0 ∷ []) (get_or node (12 + i) 0 ∷ [])) (leaf_from node (i + 1))
      ∙ ap (λ (n : ℕ). n + length (leaf_from node (i + 1))) (slot_length (get_or node (1 + i) 0) (get_or node (12 + i) 0))

  pub leaf_end : (i : ℕ) → 11 ≤ i → leaf_from node i ≡ []
  unfolding leaf_from
  leaf_end i h = rw (drop_of_length-le (key_words node) {i = i} (omega (arith, length_key_words node len)))

-- ---- the 11-child nodes without a break straight above

pub run_more : (c run : ℕ) → c ≡ 11 → run_below c run ≡ run + 1
unfolding run_below
run_more c run e = rw (eq-eqb c 11 e) (omega arith)

pub run_none : (c run : ℕ) → (c ≡ 11 → ⊥) → run_below c run ≡ 0
unfolding run_below
run_none c run q = rw (ne_eqb c 11 q)

pub run_below_le : (c run : ℕ) → run_below c run ≤ run + 1
unfolding run_below
run_below_le c run = go (eqb c 11)
  where
    go : (b : Bool) → pick b (suc run) 0 ≤ run + 1
    go true = omega arith
    go false = omega arith
