-- Laws of the way down, one for each branch of the code: what is left of a search after each word read, and what each
-- node makes of a key.
use mathlib.Core.Path.{◌≡◌, refl, ap, ap₂, sym, ◌∙◌, subst}
use mathlib.Core.List.{List, [], ◌∷◌, ◌++◌}
use mathlib.Core.Option.{Option as Maybe, none, some}
use Rattle.std.specs.Prelude.{Option, Some, None}
use mathlib.Core.Bool.{Bool, true, false, ◌&&◌}
use mathlib.Core.Logic.{◌⊎◌, inl, inr, by_cases}
use Prim.Native.Nat.{ℕ, zero, suc, ◌+◌, ◌-◌, ◌*◌, ◌≤◌, ◌<◌}
use native.Mathlib.Omega.{arith}
use native.Mathlib.Numerals.{add-one}
use native.Mathlib.Decide.{ℕ_discrete}
use lib.ListN.{length, get_or, drop, drop_of_length-le}
use lib.Seq.{drop-cons, get_or-take}
use lib.Dec.{ltb, eqb}
use borrow.Author.Tests.{lt-ltb, le-ltb, ne_eqb, eq-eqb}
use Rattle.card.specs.Layout.{node_at, kind_of, key_words, value_words, children, routing_keys, leaf_pairs, run_below, depth_limit}
use Rattle.card.proofs.NodeLaws.{length_node, length_key_words, get_key_word, get_value_word, children_le, length_routing, run_none}
use Rattle.walk.specs.Descent.{passed, child_index, child_for, first_equal, slot_of, outside, look_in, look_at, down_by, down_in, passed_with, root_position, child_at, child_position, Way, nowhere}
use Rattle.walk.specs.Descent.{past, by_look, way_from, reached_at, leaf_of, run_over, beside_after, beside_all, count_of, is_fault, first_fault, ended, to_list, end_of, search_of}
use Rattle.walk.specs.Descent.{seek, beside_at, beside_by}
use Rattle.laws.specs.Cases.{pick}
use Rattle.laws.proofs.Cases.{order, bool_cases, impossible}
use Rattle.laws.specs.Lists.{before_zero}
use Rattle.std.proofs.lemmas.Option.{same_Some}
use Rattle.walk.specs.declared.Position.{Position}
use Rattle.walk.specs.declared.Down.{Down}
use Rattle.walk.specs.declared.Down.TheVariants.{Nowhere as DownNowhere, Leaf as DownLeaf, Childless, Inner as DownInner}
use Rattle.walk.specs.declared.Look.{Look}
use Rattle.walk.specs.declared.Look.TheVariants.{Nowhere, Leaf as IsLeaf, Inner as IsInner}
use Rattle.walk.specs.declared.Reached.{Reached}
use Rattle.walk.specs.declared.Beside.{Beside}
use Rattle.walk.specs.declared.Landing.{Landing}
use Rattle.walk.specs.declared.End.{End}
use Rattle.walk.specs.declared.End.TheVariants.{Refused as EndRefused, Leaf as EndLeaf, Fault as EndFault}
use Rattle.walk.specs.declared.Search.TheVariants.{Violation as SearchViolation}

-- ---- the slot of a key

-- what is left of the look-up from slot i on
unfoldable pub slot_from : List ℕ → ℕ → ℕ → Option ℕ
slot_from node key i = first_equal (drop i (key_words node)) key i

pub slot_start : (node : List ℕ) (key : ℕ) → slot_of node key ≡ slot_from node key 0
unfolding slot_from slot_of
slot_start node key = refl

module _ (node : List ℕ) (len : length node ≡ 24) (key i : ℕ) where
  pub slot_here : i < 11 → get_or node (1 + i) 0 ≡ key → slot_from node key i ≡ Some i
  unfolding slot_from first_equal
  slot_here h e = rw (drop-cons (key_words node) i 0 (omega (arith, length_key_words node len))) (rw (eq-eqb (get_or (key_words node) i 0) key (get_key_word node i h ∙ e)))

  pub slot_next : i < 11 → (get_or node (1 + i) 0 ≡ key → ⊥) → slot_from node key i ≡ slot_from node key (i + 1)
  unfolding slot_from first_equal
  slot_next h p =
      rw (drop-cons (key_words node) i 0 (omega (arith, length_key_words node len)))
      (rw (ne_eqb (get_or (key_words node) i 0) key (λ e. p (sym (get_key_word node i h) ∙ e)), add-one i))

  pub slot_end : 11 ≤ i → slot_from node key i ≡ None
  unfolding slot_from first_equal
  slot_end h = ap (λ (l : List ℕ). first_equal l key i) (drop_of_length-le (key_words node) {i = i} (omega (arith, length_key_words node len)))

-- a slot that is found is one of the eleven
first_below : (ws : List ℕ) (key j i : ℕ) → first_equal ws key j ≡ Some i → i < j + length ws
unfolding first_equal
first_below [] key j i e = impossible (cc)
first_below (w ∷ ws) key j i e = go (eqb w key) (λ q. first_below ws key (suc j) i q) e
  where
    go : (b : Bool) → (first_equal ws key (suc j) ≡ Some i → i < suc j + length ws) → pick b (Some j) (first_equal ws key (suc j)) ≡ Some i → i < j + suc (length ws)
    go true h q = let z : j ≡ i = cc in omega arith
    go false h q = omega (arith, h q)

pub slot_below : (node : List ℕ) (key i : ℕ) → length node ≡ 24 → slot_of node key ≡ Some i → i < 11
unfolding slot_of
slot_below node key i len e = omega (arith, first_below (key_words node) key 0 i e, length_key_words node len)

-- ---- which child a key takes

-- a child word of 0 ends the children, any other goes on with them
zero_stops : (l : List ℕ) (j : ℕ) → get_or l j 0 ≡ 0 → length (before_zero l) ≤ j
zero_stops [] j e = omega arith
zero_stops (zero ∷ l) j e = omega arith
zero_stops (suc x ∷ l) zero e = absurd (omega arith)
zero_stops (suc x ∷ l) (suc j) e = omega (arith, zero_stops l j e)

other_goes_on : (l : List ℕ) (j : ℕ) → j ≤ length (before_zero l) → (get_or l j 0 ≡ 0 → ⊥) → j < length (before_zero l)
other_goes_on [] j h p = absurd (p refl)
other_goes_on (zero ∷ l) zero h p = absurd (p refl)
other_goes_on (zero ∷ l) (suc j) h p = absurd (omega arith)
other_goes_on (suc x ∷ l) zero h p = omega arith
other_goes_on (suc x ∷ l) (suc j) h p = omega (arith, other_goes_on l j (omega arith) p)

pub children_stop : (node : List ℕ) (j : ℕ) → j < 11 → get_or node (12 + j) 0 ≡ 0 → length (children node) ≤ j
unfolding children
children_stop node j h e = zero_stops (value_words node) j (get_value_word node j h ∙ e)

pub children_more : (node : List ℕ) (j : ℕ) → j < 11 → j ≤ length (children node) → (get_or node (12 + j) 0 ≡ 0 → ⊥) → j < length (children node)
unfolding children
children_more node j h l p = other_goes_on (value_words node) j l (λ e. p (sym (get_value_word node j h) ∙ e))

-- the same of the child after child i, as the code reads it
pub last_child : (node : List ℕ) (i : ℕ) → i < 10 → get_or node (13 + i) 0 ≡ 0 → length (children node) ≤ i + 1
last_child node i h e = children_stop node (i + 1) (omega arith) (ap (λ (x : ℕ). get_or node x 0) (omega arith) ∙ e)

pub next_child : (node : List ℕ) (i : ℕ) → i < 10 → i < length (children node) → (get_or node (13 + i) 0 ≡ 0 → ⊥) → i + 1 < length (children node)
next_child node i h l p = children_more node (i + 1) (omega arith) (omega arith) (λ e. p (ap (λ (x : ℕ). get_or node x 0) (omega arith) ∙ e))

-- what is left of the passing from routing key i on
unfoldable pub index_from : List ℕ → ℕ → ℕ → ℕ
index_from node key i = i + passed (drop i (routing_keys node)) key

pub index_start : (node : List ℕ) (key : ℕ) → child_index node key ≡ index_from node key 0
unfolding index_from child_index
index_start node key = omega arith

get_routing : (node : List ℕ) (i : ℕ) → i + 1 < length (children node) → get_or (routing_keys node) i 0 ≡ get_or node (1 + i) 0
unfolding routing_keys
get_routing node i h = get_or-take (length (children node) - 1) (key_words node) i 0 (omega arith) ∙ get_key_word node i (omega (arith, children_le node))

module _ (node : List ℕ) (len : length node ≡ 24) (key i : ℕ) where
  pub index_last : length (children node) ≤ i + 1 → index_from node key i ≡ i
  unfolding index_from passed
  index_last h = omega (arith, ap (λ (l : List ℕ). passed l key) (drop_of_length-le (routing_keys node) {i = i} (omega (arith, length_routing node len))))

  pub index_stop : i + 1 < length (children node) → key < get_or node (1 + i) 0 → index_from node key i ≡ i
  unfolding index_from passed
  index_stop h l =
      rw (
        drop-cons (routing_keys node) i 0 (omega (arith, length_routing node len)),
        lt-ltb key (get_or (routing_keys node) i 0) (omega (arith, get_routing node i h)),
      )
      (omega arith)

  pub index_next : i + 1 < length (children node) → get_or node (1 + i) 0 ≤ key → index_from node key i ≡ index_from node key (i + 1)
  unfolding index_from passed
  index_next h l =
      rw (
        drop-cons (routing_keys node) i 0 (omega (arith, length_routing node len)),
        le-ltb key (get_or (routing_keys node) i 0) (omega (arith, get_routing node i h)),
        add-one i,
      )
      (omega arith)

-- no more routing keys are passed than there are
pub passed_le : (rs : List ℕ) (key : ℕ) → passed rs key ≤ length rs
unfolding passed
passed_le [] key = omega arith
passed_le (r ∷ rs) key = go (ltb key r) (passed_le rs key)
  where
    go : (b : Bool) → passed rs key ≤ length rs → pick b 0 (suc (passed rs key)) ≤ suc (length rs)
    go true h = omega arith
    go false h = omega arith

pub index_le : (node : List ℕ) (key : ℕ) → length node ≡ 24 → child_index node key ≤ 10
unfolding child_index
index_le node key len = omega (arith, passed_le (routing_keys node) key, length_routing node len, children_le node)

-- ---- what stands where a node number leads

-- an internal node, tagged or not
abbrev pub Internal : List ℕ → Type 0
Internal node = (kind_of node ≡ 2) ⊎ (kind_of node ≡ 3)

module _ (node : List ℕ) where
  pub kind_leaf : kind_of node ≡ 1 → look_in node ≡ IsLeaf
  unfolding look_in
  kind_leaf e = simp (eq-eqb _ _ e)

  pub kind_inner : Internal node → look_in node ≡ IsInner
  unfolding look_in
  kind_inner (inl e) = simp (ne_eqb (kind_of node) 1 (λ q. omega arith), eq-eqb _ _ e)
  kind_inner (inr e) = simp (ne_eqb (kind_of node) 1 (λ q. omega arith), ne_eqb (kind_of node) 2 (λ q. omega arith), eq-eqb _ _ e)

  pub kind_unknown : (kind_of node ≡ 1 → ⊥) → (kind_of node ≡ 2 → ⊥) → (kind_of node ≡ 3 → ⊥) → look_in node ≡ Nowhere
  unfolding look_in
  kind_unknown p q r = simp (ne_eqb _ _ p, ne_eqb _ _ q, ne_eqb _ _ r)

-- where something stands is a node of the card
pub record Inside (n m : ℕ) : Type 0 where
  pub one : 1 ≤ m
  pub most : m ≤ n

module _ (n m : ℕ) where
  pub outside_zero : m ≡ 0 → outside n m ≡ true
  unfolding outside
  outside_zero e = simp (eq-eqb m 0 e)

  pub outside_above : (m ≡ 0 → ⊥) → outside n m ≡ ltb n m
  unfolding outside
  outside_above p = simp (ne_eqb m 0 p)

  pub inside : outside n m ≡ false → Inside n m
  inside out =
      order m 1 (λ o. let e = sym out ∙ outside_zero (omega arith) in impossible (cc))
      (λ from. order n m (λ o. let e = sym out ∙ outside_above (λ z. omega arith) ∙ lt-ltb n m o in impossible (cc)) (λ to. record { one = from; most = to }))

module _ (card : List ℕ) (n m : ℕ) where
  pub look_outside : outside n m ≡ true → look_at card n m ≡ Nowhere
  unfolding look_at
  look_outside e = rw e

  pub look_there : outside n m ≡ false → look_at card n m ≡ look_in (node_at card m)
  unfolding look_at
  look_there e = rw e

  -- its 24 words
  pub node_words : length card ≡ 8 + 24 * n → outside n m ≡ false → (node : List ℕ) → node ≡ node_at card m → length node ≡ 24
  node_words len out node same = let k = inside n m out in ap length same ∙ length_node card m k.one (omega (arith, k.most))

  module _ (on : m ≡ 0 → ⊥) (to : m ≤ n) where
    pub look_leaf : kind_of (node_at card m) ≡ 1 → look_at card n m ≡ IsLeaf
    look_leaf e = look_there (outside_above n m on ∙ le-ltb n m to) ∙ kind_leaf (node_at card m) e

    pub look_inner : Internal (node_at card m) → look_at card n m ≡ IsInner
    look_inner e = look_there (outside_above n m on ∙ le-ltb n m to) ∙ kind_inner (node_at card m) e

pub look_inside : (card : List ℕ) (n m : ℕ) → (look_at card n m ≡ Nowhere → ⊥) → Inside n m
look_inside card n m there = bool_cases (outside n m) (λ out. absurd (there (look_outside card n m out))) (λ out. inside n m out)

pub leaf_inside : (card : List ℕ) (n m : ℕ) → look_at card n m ≡ IsLeaf → Inside n m
leaf_inside card n m e = look_inside card n m (λ z. let q = sym z ∙ e in impossible (cc))

pub inner_inside : (card : List ℕ) (n m : ℕ) → look_at card n m ≡ IsInner → Inside n m
inner_inside card n m e = look_inside card n m (λ z. let q = sym z ∙ e in impossible (cc))

-- ---- the way, by what stands at a position

-- on from a child, where at most so many internal nodes were left before its parent
abbrev pub onward : List ℕ → ℕ → ℕ → ℕ → Position → Way
onward card n key zero = λ q. nowhere
onward card n key (suc levels) = way_from card n key levels

pick_same : {A : Type 0} (b : Bool) (x : A) → pick b x x ≡ x
pick_same true x = refl
pick_same false x = refl

module _ (card : List ℕ) (n key : ℕ) (p : Position) where
  way_by_look : (levels : ℕ) → way_from card n key levels p ≡ by_look (node_at card p.node) key p (onward card n key levels) (look_at card n p.node)
  unfolding way_from
  way_by_look zero = refl
  way_by_look (suc levels) = refl

  pub way_nowhere : (levels : ℕ) → look_at card n p.node ≡ Nowhere → way_from card n key levels p ≡ nowhere
  unfolding by_look
  way_nowhere levels e = way_by_look levels ∙ ap (by_look (node_at card p.node) key p (onward card n key levels)) e

  pub way_leaf : (levels : ℕ) → look_at card n p.node ≡ IsLeaf → way_from card n key levels p ≡ record { inner = []; leaf = some p }
  unfolding by_look
  way_leaf levels e = way_by_look levels ∙ ap (by_look (node_at card p.node) key p (onward card n key levels)) e

  pub way_inner : (levels : ℕ) → look_at card n p.node ≡ IsInner → way_from card n key levels p
      ≡ past p (pick (eqb (length (children (node_at card p.node))) 0) nowhere (onward card n key levels (child_position (node_at card p.node) key p)))
  unfolding by_look
  way_inner levels e = way_by_look levels ∙ ap (by_look (node_at card p.node) key p (onward card n key levels)) e

  pub way_childless : (levels : ℕ) → look_at card n p.node ≡ IsInner → length (children (node_at card p.node)) ≡ 0 → way_from card n key levels p ≡ past p nowhere
  way_childless levels e z = way_inner levels e ∙ simp (eq-eqb (length (children (node_at card p.node))) 0 z)

  pub way_too_deep : look_at card n p.node ≡ IsInner → way_from card n key 0 p ≡ past p nowhere
  way_too_deep e = way_inner 0 e ∙ ap (past p) (pick_same (eqb (length (children (node_at card p.node))) 0) nowhere)

  pub way_down : (levels : ℕ) → look_at card n p.node ≡ IsInner → 0 < length (children (node_at card p.node))
      → way_from card n key (suc levels) p ≡ past p (way_from card n key levels (child_position (node_at card p.node) key p))
  way_down levels e h = way_inner (suc levels) e ∙ simp (ne_eqb (length (children (node_at card p.node))) 0 (λ z. omega arith))

-- the child's number, by the number of the child
pub child_word : (node : List ℕ) (key i : ℕ) → i ≡ child_index node key → get_or node (12 + i) 0 ≡ child_for node key
unfolding child_for
child_word node key i e = ap (λ (x : ℕ). get_or node (12 + x) 0) e

pub root_node : (root : ℕ) → (root_position root).node ≡ root
unfolding root_position
root_node root = refl

-- ---- the way, as the code goes it: by the number and the words of the node in hand

-- the words of an internal node, as the code reads them
module _ (node : List ℕ) (key : ℕ) (e : look_in node ≡ IsInner) where
  pub down_childless : get_or node 12 0 ≡ 0 → down_in node key ≡ Childless
  unfolding down_in down_by
  down_childless z = ap (down_by node key) e ∙ simp (eq-eqb (length (children node)) 0 (omega (arith, children_stop node 0 (omega arith) z)))

  down_taken : (get_or node 12 0 ≡ 0 → ⊥) → down_in node key ≡ DownInner (child_index node key) (child_for node key)
  unfolding down_in down_by
  down_taken z = ap (down_by node key) e ∙ simp (ne_eqb (length (children node)) 0 (λ q. omega (arith, children_more node 0 (omega arith) (omega arith) z)))

  pub down_inner : (get_or node 12 0 ≡ 0 → ⊥) → (i : ℕ) → i ≡ child_index node key → down_in node key ≡ DownInner i (get_or node (12 + i) 0)
  down_inner z i at = down_taken z ∙ ap₂ (λ (j x : ℕ). DownInner j x) (sym at) (sym (child_word node key i at))

-- what is known of a node by what it is to a key
abbrev pub Told : List ℕ → ℕ → Down → Type 0
Told node key DownNowhere = Unit {0}
Told node key DownLeaf = Unit {0}
Told node key Childless = length (children node) ≡ 0
Told node key (DownInner i c) = i ≡ child_index node key

told_by : (node : List ℕ) (key : ℕ) (x : Look) → Told node key (down_by node key x)
unfolding down_by
told_by node key Nowhere = tt
told_by node key IsLeaf = tt
told_by node key IsInner = by_cases (ℕ_discrete (length (children node)) 0) (λ z. rw (eq-eqb (length (children node)) 0 z) z) (λ z. rw (ne_eqb (length (children node)) 0 z) refl)

pub told : (node : List ℕ) (key : ℕ) (d : Down) → down_in node key ≡ d → Told node key d
unfolding down_in
told node key d e = subst (Told node key) e (told_by node key (look_in node))

pub taken_le : (node : List ℕ) (key i c : ℕ) → length node ≡ 24 → down_in node key ≡ DownInner i c → i ≤ 10
taken_le node key i c len e = omega (arith, told node key (DownInner i c) e, index_le node key len)

-- an internal node that the way goes on below is counted, tagged or not
pub passed_inner : (node : List ℕ) (key i c depth : ℕ) → down_in node key ≡ DownInner i c → passed_with node depth ≡ depth + 1
unfolding passed_with down_in look_in down_by
passed_inner node key i c depth e =
    by_cases (ℕ_discrete (kind_of node) 1)
    (λ k. let leaf : down_in node key ≡ DownLeaf = simp (eq-eqb (kind_of node) 1 k) in impossible (cc))
    (λ k. rw (ne_eqb (kind_of node) 1 k) refl)

-- the way from a position, by what the node there is to the key
abbrev pub by_down : Position → (Position → Way) → Down → Way
by_down p next DownNowhere = nowhere
by_down p next DownLeaf = record { inner = []; leaf = some p }
by_down p next Childless = past p nowhere
by_down p next (DownInner i c) = past p (next (child_at p i c))

by_down_lem : (node : List ℕ) (key : ℕ) (p : Position) (next : Position → Way) (x : Look) → by_look node key p next x ≡ by_down p next (down_by node key x)
unfolding by_look down_by child_position
by_down_lem node key p next Nowhere = refl
by_down_lem node key p next IsLeaf = refl
by_down_lem node key p next IsInner = bool_cases (eqb (length (children node)) 0) (λ b. rw b) (λ b. rw b)

module _ (card : List ℕ) (n key levels : ℕ) where
  pub onward_none : (q : Position) → levels ≡ 0 → onward card n key levels q ≡ nowhere
  onward_none q z = rw z

  pub onward_on : (q : Position) → (levels ≡ 0 → ⊥) → onward card n key levels q ≡ way_from card n key (levels - 1) q
  onward_on q h = let z : suc (levels - 1) ≡ levels = omega arith in ap (λ (x : ℕ). onward card n key x q) (sym z)

  module _ (p : Position) (m : ℕ) (at : p.node ≡ m) where
    pub way_outside : outside n m ≡ true → way_from card n key levels p ≡ nowhere
    way_outside out = way_nowhere card n key p levels (ap (look_at card n) at ∙ look_outside card n m out)

    pub way_at : outside n m ≡ false → (node : List ℕ) → node ≡ node_at card m → (d : Down) → down_in node key ≡ d → way_from card n key levels p ≡ by_down p (onward card n key levels) d
    unfolding down_in
    way_at out node same d e =
        way_by_look card n key p levels ∙ by_down_lem _ key p _ _
        ∙ ap (by_down p (onward card n key levels)) (ap (λ (x : ℕ). down_by (node_at card x) key (look_at card n x)) at
        ∙ ap (down_by (node_at card m) key) (look_there card n m out) ∙ ap (λ (x : List ℕ). down_in x key) (sym same) ∙ e)

-- a level more, as the code counts them
pub onward_deeper : (card : List ℕ) (n key depth : ℕ) (q : Position) → depth ≤ depth_limit → (depth ≡ depth_limit → ⊥)
    → onward card n key (depth_limit - depth) q ≡ way_from card n key (depth_limit - (depth + 1)) q
onward_deeper card n key depth q l h =
    onward_on card n key (depth_limit - depth) q (λ z. h (omega arith)) ∙ ap (λ (x : ℕ). way_from card n key x q) (omega arith)

-- ---- the leaf, read off the way

-- a leaf that is reached, by its number and what stands above it
abbrev pub leaf_reached : ℕ → ℕ → Option Reached
leaf_reached m depth = Some (record { node = m; depth = depth })

pub same_reached : (m depth k other : ℕ) → leaf_reached m depth ≡ leaf_reached k other → (m ≡ k) × (depth ≡ other)
same_reached m depth k other e = let z = same_Some _ _ e in (ap (λ (r : Reached). r.node) z, ap (λ (r : Reached). r.depth) z)

-- below so many internal nodes more
unfoldable pub deeper : ℕ → Option Reached → Option Reached
deeper d None = None
deeper d (Some r) = Some (record { node = r.node; depth = d + r.depth })

pub deeper_none : (r : Option Reached) → r ≡ deeper 0 r
unfolding deeper
deeper_none None = refl
deeper_none (Some r) = ap (leaf_reached r.node) (omega arith)

leaf_past : (p : Position) (w : Way) → leaf_of (past p w) ≡ deeper 1 (leaf_of w)
unfolding leaf_of past reached_at deeper
leaf_past p w = go (length w.inner) w.leaf
  where
    go : (d : ℕ) (l : Maybe Position) → reached_at (suc d) l ≡ deeper 1 (reached_at d l)
    go d none = refl
    go d (some q) = ap (leaf_reached q.node) (omega arith)

-- past a node
pub leaf_on : (card : List ℕ) (n key : ℕ) (p q : Position) (depth : ℕ) → depth ≤ depth_limit → (depth ≡ depth_limit → ⊥)
    → deeper depth (leaf_of (past p (onward card n key (depth_limit - depth) q))) ≡ deeper (depth + 1) (leaf_of (way_from card n key (depth_limit - (depth + 1)) q))
unfolding deeper
leaf_on card n key p q depth l h =
    ap (λ (w : Way). deeper depth (leaf_of (past p w))) (onward_deeper card n key depth q l h)
    ∙ ap (deeper depth) (leaf_past p (way_from card n key (depth_limit - (depth + 1)) q)) ∙ deeper_twice (leaf_of (way_from card n key (depth_limit - (depth + 1)) q))
  where
    deeper_twice : (r : Option Reached) → deeper depth (deeper 1 r) ≡ deeper (depth + 1) r
    deeper_twice None = refl
    deeper_twice (Some r) = ap (leaf_reached r.node) (omega arith)

-- ---- the run above the leaf, read off the way

-- past a node in hand
module _ (card : List ℕ) (p : Position) (m : ℕ) (node : List ℕ) (at : p.node ≡ m) (same : node ≡ node_at card m) (run : ℕ) where
  pub run_past : (w : Way) (count : ℕ) → count ≡ length (children node) → run_over card run (past p w).inner ≡ run_over card (run_below count run) w.inner
  unfolding run_over past
  run_past w count e =
      ap (λ (k : ℕ). run_over card (run_below k run) w.inner) (ap (λ (x : List ℕ). length (children x)) (ap (node_at card) at ∙ sym same) ∙ sym e)

  pub run_childless : length (children node) ≡ 0 → run_over card run (past p nowhere).inner ≡ 0
  unfolding run_over
  run_childless e = run_past nowhere 0 (sym e) ∙ run_none 0 run (λ z. omega arith)

-- ---- the leaf with what stands right after it, read off the way

-- right after a child
module _ (node : List ℕ) (i beside : ℕ) where
  pub after_none : get_or node (13 + i) 0 ≡ 0 → beside_after node i beside ≡ beside
  unfolding beside_after
  after_none e = simp (eq-eqb (get_or node (13 + i) 0) 0 e)

  pub after_child : (get_or node (13 + i) 0 ≡ 0 → ⊥) → beside_after node i beside ≡ get_or node (13 + i) 0
  unfolding beside_after
  after_child h = simp (ne_eqb (get_or node (13 + i) 0) 0 h)

-- a leaf that is reached, with what stands right after it
abbrev pub leaf_beside : ℕ → ℕ → ℕ → Option Beside
leaf_beside m beside depth = Some (record { node = m; beside = beside; depth = depth })

pub same_beside : (m e depth k x other : ℕ) → leaf_beside m e depth ≡ leaf_beside k x other → (m ≡ k) × (e ≡ x) × (depth ≡ other)
same_beside m e depth k x other q = let z = same_Some _ _ q in (ap (λ (b : Beside). b.node) z, ap (λ (b : Beside). b.beside) z, ap (λ (b : Beside). b.depth) z)

-- below so many internal nodes more
unfoldable pub beside_below : ℕ → List ℕ → ℕ → ℕ → Way → Option Beside
beside_below depth card key beside w = beside_at (beside_all card key beside w.inner) (depth + length w.inner) w.leaf

module _ (card : List ℕ) (key beside : ℕ) where
  pub beside_start : (w : Way) → beside_by card key beside w ≡ beside_below 0 card key beside w
  unfolding beside_by beside_below
  beside_start w = ap (λ (d : ℕ). beside_at (beside_all card key beside w.inner) d w.leaf) (omega arith)

  module _ (depth : ℕ) where
    pub beside_nowhere : beside_below depth card key beside nowhere ≡ None
    unfolding beside_below beside_at
    beside_nowhere = refl

    pub beside_stop : (p : Position) → beside_below depth card key beside (past p nowhere) ≡ None
    unfolding beside_below beside_at past
    beside_stop p = refl

    pub beside_leaf : (p : Position) → beside_below depth card key beside (record { inner = []; leaf = some p }) ≡ leaf_beside p.node beside depth
    unfolding beside_below beside_at beside_all
    beside_leaf p = ap (leaf_beside p.node beside) (omega arith)

    -- past a node in hand
    pub beside_past : (p : Position) (m : ℕ) (node : List ℕ) → p.node ≡ m → node ≡ node_at card m → (i e : ℕ) → i ≡ child_index node key
        → e ≡ beside_after node i beside → (w : Way) → beside_below depth card key beside (past p w) ≡ beside_below (depth + 1) card key e w
    unfolding beside_below beside_all past
    beside_past p m node at same i e taken after w =
        ap₂ (λ (x d : ℕ). beside_at (beside_all card key x w.inner) d w.leaf)
        (ap (λ (x : List ℕ). beside_after x (child_index x key) beside) (ap (node_at card) at ∙ sym same) ∙ ap (λ (j : ℕ). beside_after node j beside) (sym taken) ∙ sym after)
        (omega arith)

  -- what it says of the way
  pub beside_refused : (w : Way) → beside_by card key beside w ≡ None → leaf_of w ≡ None
  unfolding beside_by beside_at leaf_of reached_at
  beside_refused w e = go w.leaf e
    where
      go : (o : Maybe Position) → beside_at (beside_all card key beside w.inner) (length w.inner) o ≡ None → reached_at (length w.inner) o ≡ None
      go none q = refl
      go (some p) q = impossible (cc)

  pub beside_told : (w : Way) (m e depth : ℕ) → beside_by card key beside w ≡ leaf_beside m e depth
      → (leaf_of w ≡ leaf_reached m depth) × (beside_all card key beside w.inner ≡ e)
  unfolding beside_by beside_at leaf_of reached_at
  beside_told w m e depth q = go w.leaf q
    where
      go : (o : Maybe Position) → beside_at (beside_all card key beside w.inner) (length w.inner) o ≡ leaf_beside m e depth
          → (reached_at (length w.inner) o ≡ leaf_reached m depth) × (beside_all card key beside w.inner ≡ e)
      go none r = impossible (cc)
      go (some p) r = let z = same_beside _ _ _ _ _ _ r in (ap₂ leaf_reached z.0 z.2, z.1)

-- ---- faults

module _ (node : List ℕ) (parent : ℕ) where
  pub fault_root : parent ≡ 0 → is_fault node parent ≡ false
  unfolding is_fault
  fault_root e = simp (eq-eqb parent 0 e)

  module _ (below : parent ≡ 0 → ⊥) where
    pub fault_tagged : kind_of node ≡ 3 → is_fault node parent ≡ true
    unfolding is_fault
    fault_tagged e = simp (ne_eqb parent 0 below, eq-eqb _ _ e)

    pub fault_leaf : kind_of node ≡ 1 → is_fault node parent ≡ ltb (length (leaf_pairs node)) 2
    unfolding is_fault count_of
    fault_leaf e = simp (ne_eqb parent 0 below, ne_eqb (kind_of node) 3 (λ q. omega arith), eq-eqb _ _ e)

    pub fault_inner : (kind_of node ≡ 3 → ⊥) → (kind_of node ≡ 1 → ⊥) → is_fault node parent ≡ ltb (length (children node)) 2
    unfolding is_fault count_of
    fault_inner q r = simp (ne_eqb parent 0 below, ne_eqb _ _ q, ne_eqb _ _ r)

-- the root is no fault
pub fault_below : (node : List ℕ) (parent : ℕ) → is_fault node parent ≡ true → parent ≡ 0 → ⊥
fault_below node parent f z = let e = sym f ∙ fault_root node parent z in impossible (cc)

-- fewer than 2 children, where there is a first one: there is no second
pub second_child : (node : List ℕ) → (get_or node 12 0 ≡ 0 → ⊥) → eqb (get_or node 13 0) 0 ≡ ltb (length (children node)) 2
second_child node first =
    by_cases (ℕ_discrete (get_or node 13 0) 0)
    (λ z. eq-eqb (get_or node 13 0) 0 z ∙ sym (lt-ltb (length (children node)) 2 (omega (arith, last_child node 0 (omega arith) z))))
    (λ z. ne_eqb (get_or node 13 0) 0 z ∙ sym (le-ltb (length (children node)) 2 (next_child node 0 (omega arith) (children_more node 0 (omega arith) (omega arith) first) z)))

-- ---- where a way ends

-- below so many internal nodes more
unfoldable pub end_below : ℕ → List ℕ → Bool → Way → End
end_below depth card seeks w = first_fault card seeks (ended (depth + length w.inner) w.leaf) (w.inner ++ to_list w.leaf)

module _ (card : List ℕ) (seeks : Bool) where
  -- whether a search stops at a position
  abbrev pub stops : Position → Bool
  stops p = seeks && is_fault (node_at card p.node) p.parent

  -- the same by the words in hand
  pub stopped : (p : Position) (node : List ℕ) (b : Bool) → node ≡ node_at card p.node → b ≡ (seeks && is_fault node p.parent) → stops p ≡ b
  stopped p node b same e = ap (λ (x : List ℕ). seeks && is_fault x p.parent) (sym same) ∙ sym e

  pub end_start : (w : Way) → end_of card seeks w ≡ end_below 0 card seeks w
  unfolding end_of end_below
  end_start w = ap (λ (d : ℕ). first_fault card seeks (ended d w.leaf) (w.inner ++ to_list w.leaf)) (omega arith)

  module _ (depth : ℕ) where
    pub end_nowhere : end_below depth card seeks nowhere ≡ EndRefused
    unfolding end_below first_fault ended to_list
    end_nowhere = refl

    module _ (p : Position) where
      pub end_leaf : stops p ≡ false → end_below depth card seeks (record { inner = []; leaf = some p }) ≡ EndLeaf p depth
      unfolding end_below first_fault ended to_list
      end_leaf e = rw e (ap (EndLeaf p) (omega arith))

      pub end_leaf_fault : stops p ≡ true → end_below depth card seeks (record { inner = []; leaf = some p }) ≡ EndFault p
      unfolding end_below first_fault ended to_list
      end_leaf_fault e = rw e

      pub end_past : (w : Way) → stops p ≡ false → end_below depth card seeks (past p w) ≡ end_below (depth + 1) card seeks w
      unfolding end_below first_fault past
      end_past w e = rw e (ap (λ (d : ℕ). first_fault card seeks (ended d w.leaf) (w.inner ++ to_list w.leaf)) (omega arith))

      pub end_fault : (w : Way) → stops p ≡ true → end_below depth card seeks (past p w) ≡ EndFault p
      unfolding end_below first_fault past
      end_fault w e = rw e

  -- a search tells no depth
  search_any : (depth other : ℕ) (l : Maybe Position) (ps : List Position) → search_of (first_fault card seeks (ended depth l) ps) ≡ search_of (first_fault card seeks (ended other l) ps)
  unfolding search_of first_fault ended
  search_any depth other none [] = refl
  search_any depth other (some q) [] = refl
  search_any depth other l (p ∷ ps) =
      bool_cases (seeks && is_fault (node_at card p.node) p.parent) (λ yes. rw yes) (λ no. rw no (search_any depth other l ps))

  pub search_past : (p : Position) (w : Way) → stops p ≡ false → search_of (end_of card seeks (past p w)) ≡ search_of (end_of card seeks w)
  unfolding end_of end_below
  search_past p w e =
      ap search_of (end_start (past p w) ∙ end_past 0 p w e) ∙ search_any (0 + 1 + length w.inner) (length w.inner) w.leaf (w.inner ++ to_list w.leaf)

-- what a search finds is a fault of the way
pub search_fault : (card : List ℕ) (n key levels : ℕ) (p q : Position) → seek card n key levels p ≡ SearchViolation q → end_of card true (way_from card n key levels p) ≡ EndFault q
unfolding seek search_of
search_fault card n key levels p q e = go (end_of card true (way_from card n key levels p)) e
  where
    go : (x : End) → search_of x ≡ SearchViolation q → x ≡ EndFault q
    go EndRefused z = impossible (cc)
    go (EndLeaf r depth) z = impossible (cc)
    go (EndFault r) z = let w : r ≡ q = cc in ap EndFault w

-- an internal node where a search stops
pub fault_at : (card : List ℕ) (n key : ℕ) (seeks : Bool) (levels : ℕ) (p : Position)
    → look_at card n p.node ≡ IsInner → stops card seeks p ≡ true → end_of card seeks (way_from card n key levels p) ≡ EndFault p
fault_at card n key seeks levels p e f = ap (end_of card seeks) (way_inner card n key p levels e) ∙ end_start card seeks _ ∙ end_fault card seeks 0 p _ f

-- where an update lands, by its three numbers
abbrev pub landing_at : ℕ → ℕ → ℕ → Option Landing
landing_at m link run = Some (record { node = m; link = link; run = run })

pub same_landing : (m link run k x other : ℕ) → landing_at m link run ≡ landing_at k x other → (m ≡ k) × (link ≡ x) × (run ≡ other)
same_landing m link run k x other e = let z = same_Some _ _ e in (ap (λ (l : Landing). l.node) z, ap (λ (l : Landing). l.link) z, ap (λ (l : Landing). l.run) z)

-- where no fault is sought the way ends at its leaf
unsought : (card : List ℕ) (end : End) (ps : List Position) → first_fault card false end ps ≡ end
unfolding first_fault
unsought card end [] = refl
unsought card end (p ∷ ps) = unsought card end ps

pub end_unsought : (card : List ℕ) (w : Way) → end_of card false w ≡ ended (length w.inner) w.leaf
unfolding end_of
end_unsought card w = unsought card (ended (length w.inner) w.leaf) (w.inner ++ to_list w.leaf)

module _ (card : List ℕ) (w : Way) where
  pub unsought_none : ((p : Position) (depth : ℕ) → end_of card false w ≡ EndLeaf p depth → ⊥) → w.leaf ≡ none
  unfolding ended
  unsought_none h = go w.leaf (λ p depth e. h p depth (end_unsought card w ∙ e))
    where
      go : (l : Maybe Position) → ((p : Position) (depth : ℕ) → ended (length w.inner) l ≡ EndLeaf p depth → ⊥) → l ≡ none
      go none f = refl
      go (some p) f = absurd (f p (length w.inner) refl)

  pub unsought_leaf : (p : Position) (depth : ℕ) → end_of card false w ≡ EndLeaf p depth → w.leaf ≡ some p
  unfolding ended
  unsought_leaf p depth e = go w.leaf (sym (end_unsought card w) ∙ e)
    where
      go : (l : Maybe Position) → ended (length w.inner) l ≡ EndLeaf p depth → l ≡ some p
      go none f = impossible (cc)
      go (some q) f = let z : q ≡ p = cc in ap some z

  -- and its depth is the leaf's
  pub unsought_reached : (p : Position) (depth : ℕ) → end_of card false w ≡ EndLeaf p depth → leaf_of w ≡ leaf_reached p.node depth
  unfolding ended leaf_of reached_at
  unsought_reached p depth e = go w.leaf (sym (end_unsought card w) ∙ e)
    where
      go : (l : Maybe Position) → ended (length w.inner) l ≡ EndLeaf p depth → reached_at (length w.inner) l ≡ leaf_reached p.node depth
      go none f = impossible (cc)
      go (some q) f = let z : q ≡ p = cc in ap₂ (λ (x : Position) (d : ℕ). leaf_reached x.node d) z (cc)
