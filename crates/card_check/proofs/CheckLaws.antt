-- Laws of the check of a table: one for each branch of the code.
use mathlib.Core.Path.{◌≡◌, refl, ap, ap₂, sym, subst, ◌∙◌}
use mathlib.Core.List.{List, [], ◌∷◌}
use mathlib.Core.Bool.{Bool, true, false, ◌&&◌, ◌||◌, not}
use mathlib.Core.Option.{Option, none, some}
use Prim.Native.Nat.{ℕ, zero, suc, ◌+◌, ◌-◌, ◌≤◌, ◌<◌}
use native.Mathlib.Omega.{arith}
use native.Mathlib.Numerals.{add-one}
use lib.ListN.{length, length-set, set, get_or, take, drop, drop_of_length-le}
use lib.Seq.{take-nil, drop-cons, get_or-take, get_or-drop, drop-drop}
use lib.Dec.{ltb, leb, eqb}
use Rattle.std.proofs.Math.Nat.{min-le_left, le_trans}
use Rattle.std.proofs.lemmas.List.{length-take}
use borrow.Author.Tests.{ltb-false, lt-ltb, le-ltb, eqb-false, ne_eqb, eq-eqb}
use Rattle.std.specs.Prelude.{Some}
use Rattle.std.specs.List.{list_any}
use Rattle.card.specs.Layout.{node_at, kind_of, key_words, value_words, children, routing_keys, leaf_pairs, run_below}
use Rattle.card.proofs.NodeLaws.{length_key_words, get_key_word, children_words, routing_words, length_routing}
use Rattle.laws.proofs.Cases.{order, guard_some, impossible}
use Rattle.laws.specs.Cases.{pick, guard, bind}
use Rattle.laws.specs.Lists.{all_zero, zero_after}
use Rattle.card_check.specs.Check.{Least, Findings, findings_of, member, leaf_sound, unused_zero, Look, look_of}
use Rattle.card_check.specs.Check.{noted, enter_leaf, inner_sound, enter_inner, enter_kind, enter_node, ChildCheck, children_check, raised}
use Rattle.card_check.specs.Check.{on_look, node_check, bad, leaf, inner, slot_sound, range_end}
use Rattle.card_check.specs.Counting.{EntryCounts}
use Rattle.card_check.specs.declared.Entry.{Entry}
use Rattle.card_check.specs.declared.Entry.TheVariants.{Leaf, Inner}

-- ---- a leaf, slot by slot

-- the key words from slot i on
pub key_drop : (node : List ℕ) → length node ≡ 24 → (i : ℕ) → i < 11 → drop i (key_words node) ≡ get_or node (1 + i) 0 ∷ drop (i + 1) (key_words node)
key_drop node len i h = rw (add-one i, ← get_key_word node i h) (drop-cons (key_words node) i 0 (omega (arith, length_key_words node len)))

take_drop : (d t : ℕ) (l : List ℕ) → take t (drop d l) ≡ drop d (take (d + t) l)
take_drop zero t l = ap (λ (x : ℕ). take x l) (let z : t ≡ 0 + t = omega arith in z)
take_drop (suc d) t [] = take-nil t ∙ ap (drop (suc d)) (sym (take-nil (suc d + t)))
take_drop (suc d) t (x ∷ l) = take_drop d t l ∙ ap (λ (n : ℕ). drop (suc d) (take n (x ∷ l))) (let z : suc (d + t) ≡ suc d + t = omega arith in z)

-- the keys after slot i, as the code cuts them out
pub later_keys : (node : List ℕ) (i : ℕ) → i < 11 → take (12 - (1 + i + 1)) (drop (1 + i + 1) node) ≡ drop (i + 1) (key_words node)
unfolding key_words
later_keys node i h =
    let e : 1 + i + 1 ≡ 1 + (i + 1) = omega arith in
    let f : (i + 1) + (12 - (1 + i + 1)) ≡ 11 = omega arith in
    ap (take (12 - (1 + i + 1))) (ap (λ (x : ℕ). drop x node) e ∙ sym (drop-drop (i + 1) 1 node))
    ∙ take_drop (i + 1) (12 - (1 + i + 1)) (drop 1 node)
    ∙ ap (λ (x : ℕ). drop (i + 1) (take x (drop 1 node))) f

-- the words of a list that are this key
pub member_any : (k : ℕ) (ks : List ℕ) → list_any (λ x. eqb x k) ks ≡ member k ks
unfolding member
member_any k [] = refl
member_any k (x ∷ ks) = ap (λ (b : Bool). eqb x k || b) (member_any k ks)

module _ (node : List ℕ) (len : length node ≡ 24) (k j : ℕ) where
  pub member_next : j < 11 → (get_or node (1 + j) 0 ≡ k → ⊥) → member k (drop j (key_words node)) ≡ member k (drop (j + 1) (key_words node))
  unfolding member
  member_next h e = rw (key_drop node len j h, ne_eqb (get_or node (1 + j) 0) k e)

  pub member_end : 11 ≤ j → member k (drop j (key_words node)) ≡ false
  unfolding member
  member_end h = rw (drop_of_length-le (key_words node) {i = j} (omega (arith, length_key_words node len)))

-- what is not sound from slot i on is not sound
from_slot : (low high i : ℕ) (ks : List ℕ) → leaf_sound low high (drop i ks) ≡ false → leaf_sound low high ks ≡ false
unfolding leaf_sound
from_slot low high zero ks e = e
from_slot low high (suc i) [] e = e
from_slot low high (suc i) (k ∷ ks) e = rw (from_slot low high i ks e) (go (slot_sound low high k ks))
  where
    go : (b : Bool) → (b && false) ≡ false
    go true = refl
    go false = refl

module _ (low high k : ℕ) (ks : List ℕ) where
  slot_empty : k ≡ 0 → slot_sound low high k ks ≡ true
  unfolding slot_sound
  slot_empty e = simp (eq-eqb k 0 e)

  slot_key : (k ≡ 0 → ⊥) → slot_sound low high k ks ≡ ((leb low k && ltb k high) && not (member k ks))
  unfolding slot_sound
  slot_key p = rw (ne_eqb k 0 p) (go (leb low k))
    where
      go : (b : Bool) → (b && (ltb k high && not (member k ks))) ≡ ((b && ltb k high) && not (member k ks))
      go true = refl
      go false = refl

module _ (node : List ℕ) (len : length node ≡ 24) (low high i : ℕ) (h : i < 11) where
  leaf_slot : leaf_sound low high (drop i (key_words node))
      ≡ (slot_sound low high (get_or node (1 + i) 0) (drop (i + 1) (key_words node)) && leaf_sound low high (drop (i + 1) (key_words node)))
  unfolding leaf_sound
  leaf_slot = ap (leaf_sound low high) (key_drop node len i h)

  pub leaf_empty : get_or node (1 + i) 0 ≡ 0 → leaf_sound low high (drop i (key_words node)) ≡ leaf_sound low high (drop (i + 1) (key_words node))
  leaf_empty e = leaf_slot ∙ rw (slot_empty low high (get_or node (1 + i) 0) (drop (i + 1) (key_words node)) e)

  module _ (p : get_or node (1 + i) 0 ≡ 0 → ⊥) where
    pub leaf_key : (leb low (get_or node (1 + i) 0) && ltb (get_or node (1 + i) 0) high) ≡ true
        → not (member (get_or node (1 + i) 0) (drop (i + 1) (key_words node))) ≡ true
        → leaf_sound low high (drop i (key_words node)) ≡ leaf_sound low high (drop (i + 1) (key_words node))
    leaf_key e f = leaf_slot ∙ rw (slot_key low high (get_or node (1 + i) 0) (drop (i + 1) (key_words node)) p, e, f)

    pub leaf_outside : (leb low (get_or node (1 + i) 0) && ltb (get_or node (1 + i) 0) high) ≡ false → leaf_sound low high (key_words node) ≡ false
    leaf_outside e = from_slot low high i (key_words node) (leaf_slot ∙ rw (slot_key low high (get_or node (1 + i) 0) (drop (i + 1) (key_words node)) p, e))

    pub leaf_repeated : not (member (get_or node (1 + i) 0) (drop (i + 1) (key_words node))) ≡ false → leaf_sound low high (key_words node) ≡ false
    leaf_repeated e =
        from_slot low high i (key_words node)
        (leaf_slot ∙ rw (slot_key low high (get_or node (1 + i) 0) (drop (i + 1) (key_words node)) p, e) (go (leb low (get_or node (1 + i) 0) && ltb (get_or node (1 + i) 0) high)))
      where
        go : (b : Bool) → ((b && false) && leaf_sound low high (drop (i + 1) (key_words node))) ≡ false
        go true = refl
        go false = refl

pub leaf_none : (node : List ℕ) → length node ≡ 24 → (low high i : ℕ) → 11 ≤ i → leaf_sound low high (drop i (key_words node)) ≡ true
unfolding leaf_sound
leaf_none node len low high i h = rw (drop_of_length-le (key_words node) {i = i} (omega (arith, length_key_words node len)))

-- ---- the least key of the later slots

module _ (node : List ℕ) (len : length node ≡ 24) where
  pub least_none : (least i : ℕ) → 11 ≤ i → Least least (drop i (key_words node))
  least_none least i h k p l = member_end node len k i h

  module _ (least i : ℕ) (h : i < 11) (all : Least least (drop (i + 1) (key_words node))) where
    pub least_empty : get_or node (1 + i) 0 ≡ 0 → Least least (drop i (key_words node))
    least_empty e k p l = member_next node len k i h (λ z. p (sym z ∙ e)) ∙ all k p l

    pub least_more : (new : ℕ) → new ≤ get_or node (1 + i) 0 → new ≤ least → Least new (drop i (key_words node))
    least_more new a b k p l = member_next node len k i h (λ z. omega arith) ∙ all k p (omega arith)

-- ---- words that must be 0

zero_after_drop : (k : ℕ) (l : List ℕ) → zero_after k l ≡ all_zero (drop k l)
zero_after_drop zero l = refl
zero_after_drop (suc k) [] = refl
zero_after_drop (suc k) (x ∷ l) = zero_after_drop k l

few_taken : (t k : ℕ) (l : List ℕ) → t ≤ k → length (take t l) ≤ k
few_taken t k l h = subst (λ (n : ℕ). n ≤ k) (sym (length-take t l)) (le_trans (min-le_left t (length l)) h)

-- words d + k to d + t of a node, as the words from k on of the t from d on; none where there are no more than k
part_zero : (node : List ℕ) (d t k : ℕ) → zero_after k (take t (drop d node)) ≡ all_zero (take (t - k) (drop (d + k) node))
part_zero node d t k =
    order k t
    (λ h. let e : k + (t - k) ≡ t = omega arith in
    zero_after_drop k (take t (drop d node))
    ∙ ap all_zero (ap (λ (x : ℕ). drop k (take x (drop d node))) (sym e) ∙ sym (take_drop k (t - k) (drop d node)) ∙ ap (take (t - k)) (drop-drop k d node)))
    (λ h. let z : t - k ≡ 0 = omega arith in
    zero_after_drop k (take t (drop d node))
    ∙ ap all_zero (drop_of_length-le (take t (drop d node)) (few_taken t k (drop d node) h))
    ∙ sym (ap (λ (x : ℕ). all_zero (take x (drop (d + k) node))) z))

module _ (node : List ℕ) (c : ℕ) (some_child : 1 ≤ c) where
  unused_parts : unused_zero node c ≡ (all_zero (take (12 - c) (drop c node)) && all_zero (take (23 - (12 + c)) (drop (12 + c) node)))
  unfolding unused_zero key_words value_words
  unused_parts =
      let e : 11 - (c - 1) ≡ 12 - c = omega arith in
      let f : 1 + (c - 1) ≡ c = omega arith in
      let g : 11 - c ≡ 23 - (12 + c) = omega arith in
      ap₂ ◌&&◌ (part_zero node 1 11 (c - 1) ∙ ap₂ (λ (x y : ℕ). all_zero (take x (drop y node))) e f)
      (part_zero node 12 11 c ∙ ap (λ (x : ℕ). all_zero (take x (drop (12 + c) node))) g)

  pub unused_keys : all_zero (take (12 - c) (drop c node)) ≡ false → unused_zero node c ≡ false
  unused_keys e = unused_parts ∙ rw e

  pub unused_values : all_zero (take (12 - c) (drop c node)) ≡ true → unused_zero node c ≡ all_zero (take (23 - (12 + c)) (drop (12 + c) node))
  unused_values e = unused_parts ∙ rw e

-- ---- a first look at a leaf

module _ (node : List ℕ) (low high : ℕ) (root : Bool) (f : Findings) where
  pub enter_leaf_unsound : leaf_sound low high (key_words node) ≡ false → enter_leaf node low high root f ≡ bad
  unfolding enter_leaf
  enter_leaf_unsound e = rw e

  module _ (sound : leaf_sound low high (key_words node) ≡ true) where
    pub enter_leaf_root : root ≡ true → enter_leaf node low high root f ≡ leaf f
    unfolding enter_leaf
    enter_leaf_root r = rw (sound, r)

    module _ (inside : root ≡ false) (count : ℕ) (counted : count ≡ length (leaf_pairs node)) where
      pub enter_leaf_empty : count ≡ 0 → enter_leaf node low high root f ≡ bad
      unfolding enter_leaf
      enter_leaf_empty e = rw (sound, inside, ← counted, eq-eqb count 0 e)

      enter_leaf_some : (count ≡ 0 → ⊥) → enter_leaf node low high root f ≡ noted (ltb count 2) Leaf f low 0
      unfolding enter_leaf
      enter_leaf_some p = rw (sound, inside, ← counted, ne_eqb count 0 p)

      pub enter_leaf_few : (count ≡ 0 → ⊥) → count < 2 → enter_leaf node low high root f ≡ noted true Leaf f low 0
      enter_leaf_few p h = enter_leaf_some p ∙ rw (lt-ltb count 2 h)

      pub enter_leaf_enough : 2 ≤ count → enter_leaf node low high root f ≡ leaf f
      unfolding noted look_of
      enter_leaf_enough h = enter_leaf_some (λ e. omega arith) ∙ rw (le-ltb count 2 h)

-- ---- a first look at an internal node

module _ (node : List ℕ) (tagged : Bool) (low run : ℕ) (root : Bool) (f : Findings) (c : ℕ) (counted : c ≡ length (children node)) where
  pub enter_inner_none : c ≡ 0 → enter_inner node tagged low run root f ≡ bad
  unfolding enter_inner
  enter_inner_none e = rw (← counted, eq-eqb c 0 e)

  pub enter_inner_unused : (c ≡ 0 → ⊥) → unused_zero node c ≡ false → enter_inner node tagged low run root f ≡ bad
  unfolding enter_inner
  enter_inner_unused p e = rw (← counted, ne_eqb c 0 p, e)

  module _ (some_child : c ≡ 0 → ⊥) (unused : unused_zero node c ≡ true) where
    enter_inner_children : enter_inner node tagged low run root f
        ≡ pick (inner_sound tagged root c) (noted (tagged || ltb c 2) (Inner c) f low (pick tagged run 0)) bad
    unfolding enter_inner
    enter_inner_children = rw (← counted, ne_eqb c 0 some_child, unused)

    pub enter_tagged_root : tagged ≡ true → root ≡ true → enter_inner node tagged low run root f ≡ bad
    unfolding inner_sound
    enter_tagged_root t r = enter_inner_children ∙ rw (t, r)

    pub enter_tagged_count : tagged ≡ true → (c ≡ 2 → ⊥) → enter_inner node tagged low run root f ≡ bad
    unfolding inner_sound
    enter_tagged_count t p = enter_inner_children ∙ rw (t, ne_eqb c 2 p) (go root)
      where
        go : (b : Bool) → pick (not b && false) (noted true (Inner c) f low run) bad ≡ bad
        go true = refl
        go false = refl

    pub enter_tagged : tagged ≡ true → root ≡ false → c ≡ 2 → enter_inner node tagged low run root f ≡ noted true (Inner c) f low run
    unfolding inner_sound
    enter_tagged t r e = enter_inner_children ∙ rw (t, r, eq-eqb c 2 e)

    pub enter_single_root : tagged ≡ false → c < 2 → root ≡ true → enter_inner node tagged low run root f ≡ bad
    unfolding inner_sound
    enter_single_root t h r = enter_inner_children ∙ rw (t, r, lt-ltb c 2 h)

    pub enter_single : tagged ≡ false → c < 2 → root ≡ false → enter_inner node tagged low run root f ≡ noted true (Inner c) f low 0
    unfolding inner_sound
    enter_single t h r = enter_inner_children ∙ rw (t, r, lt-ltb c 2 h)

    pub enter_several : tagged ≡ false → 2 ≤ c → enter_inner node tagged low run root f ≡ inner c f
    unfolding inner_sound noted look_of
    enter_several t h = enter_inner_children ∙ rw (t, le-ltb c 2 h) (go root)
      where
        go : (b : Bool) → pick (not b || true) (inner c f) bad ≡ inner c f
        go true = refl
        go false = refl

-- ---- a first look at a node

module _ (node : List ℕ) (low high run : ℕ) (root : Bool) (f : Findings) where
  pub enter_kind_leaf : kind_of node ≡ 1 → enter_kind node low high run root f ≡ enter_leaf node low high root f
  unfolding enter_kind
  enter_kind_leaf e = rw (eq-eqb (kind_of node) 1 e)

  pub enter_kind_internal : kind_of node ≡ 2 → enter_kind node low high run root f ≡ enter_inner node false low run root f
  unfolding enter_kind
  enter_kind_internal e = rw (ne_eqb (kind_of node) 1 (λ z. omega arith), eq-eqb (kind_of node) 2 e)

  pub enter_kind_tagged : kind_of node ≡ 3 → enter_kind node low high run root f ≡ enter_inner node true low run root f
  unfolding enter_kind
  enter_kind_tagged e = rw (ne_eqb (kind_of node) 1 (λ z. omega arith), ne_eqb (kind_of node) 2 (λ z. omega arith), eq-eqb (kind_of node) 3 e)

  pub enter_kind_none : (kind_of node ≡ 1 → ⊥) → (kind_of node ≡ 2 → ⊥) → (kind_of node ≡ 3 → ⊥) → enter_kind node low high run root f ≡ bad
  unfolding enter_kind
  enter_kind_none p q r = rw (ne_eqb (kind_of node) 1 p, ne_eqb (kind_of node) 2 q, ne_eqb (kind_of node) 3 r)

-- what was learnt, with node m reached
unfoldable pub reached : Findings → ℕ → Findings
reached f m = record { free = set f.free m false; violated = f.violated; key = f.key; run = f.run }

module _ (card : List ℕ) (n m low high run : ℕ) (root : Bool) (f : Findings) where
  pub enter_zero : m ≡ 0 → enter_node card n m low high run root f ≡ bad
  unfolding enter_node
  enter_zero e = rw (eq-eqb m 0 e)

  pub enter_beyond : (m ≡ 0 → ⊥) → n < m → enter_node card n m low high run root f ≡ bad
  unfolding enter_node
  enter_beyond p h = rw (ne_eqb m 0 p, lt-ltb n m h)

  module _ (some_node : m ≡ 0 → ⊥) (within : m ≤ n) where
    pub enter_again : get_or f.free m false ≡ false → enter_node card n m low high run root f ≡ bad
    unfolding enter_node
    enter_again e = rw (ne_eqb m 0 some_node, le-ltb n m within, e)

    module _ (new : get_or f.free m false ≡ true) where
      pub enter_last_word : (get_or (node_at card m) 23 0 ≡ 0 → ⊥) → enter_node card n m low high run root f ≡ bad
      unfolding enter_node
      enter_last_word p = rw (ne_eqb m 0 some_node, le-ltb n m within, new, ne_eqb (get_or (node_at card m) 23 0) 0 p)

      pub enter_new : get_or (node_at card m) 23 0 ≡ 0 → enter_node card n m low high run root f ≡ enter_kind (node_at card m) low high run root (reached f m)
      unfolding enter_node reached
      enter_new e = rw (ne_eqb m 0 some_node, le-ltb n m within, new, eq-eqb (get_or (node_at card m) 23 0) 0 e)

-- ---- what a look that found children tells

pick_bad : (b : Bool) (x : Look) (c : ℕ) (g : Findings) → pick b bad x ≡ inner c g → (b ≡ false) × (x ≡ inner c g)
pick_bad true x c g e = impossible (cc)
pick_bad false x c g e = (refl, e)

pick_else_bad : (b : Bool) (x : Look) (c : ℕ) (g : Findings) → pick b x bad ≡ inner c g → x ≡ inner c g
pick_else_bad true x c g e = e
pick_else_bad false x c g e = impossible (cc)

look_inner : (entry : Entry) (f : Findings) (c : ℕ) (g : Findings) → look_of (Some entry) f ≡ inner c g → entry ≡ Inner c
unfolding look_of
look_inner Leaf f c g e = impossible (cc)
look_inner (Inner k) f c g e = ap Inner (let z : k ≡ c = cc in z)

noted_inner : (violates : Bool) (entry : Entry) (f : Findings) (key run c : ℕ) (g : Findings) → noted violates entry f key run ≡ inner c g → entry ≡ Inner c
unfolding noted
noted_inner true entry f key run c g e = look_inner entry _ c g (pick_bad f.violated _ c g e).1
noted_inner false entry f key run c g e = look_inner entry f c g e

pub enter_leaf_inner : (node : List ℕ) (low high : ℕ) (root : Bool) (f : Findings) (c : ℕ) (g : Findings) → enter_leaf node low high root f ≡ inner c g → ⊥
unfolding enter_leaf
enter_leaf_inner node low high true f c g e = let q = pick_else_bad (leaf_sound low high (key_words node)) _ c g e in impossible (cc)
enter_leaf_inner node low high false f c g e =
    let q = pick_bad (eqb (length (leaf_pairs node)) 0) _ c g (pick_else_bad (leaf_sound low high (key_words node)) _ c g e) in
    let r = noted_inner (ltb (length (leaf_pairs node)) 2) Leaf f low 0 c g q.1 in
    impossible (cc)

enter_inner_count : (node : List ℕ) (tagged : Bool) (low run : ℕ) (root : Bool) (f : Findings) (c : ℕ) (g : Findings) → enter_inner node tagged low run root f ≡ inner c g
    → (c ≡ length (children node)) × (1 ≤ c)
unfolding enter_inner
enter_inner_count node tagged low run root f c g e =
    let p = pick_bad (eqb (length (children node)) 0) _ c g e in
    let q = pick_else_bad (inner_sound tagged root (length (children node))) _ c g (pick_else_bad (unused_zero node (length (children node))) _ c g p.1) in
    let r = noted_inner (tagged || ltb (length (children node)) 2) (Inner (length (children node))) f low (pick tagged run 0) c g q in
    let s : c ≡ length (children node) = cc in
    let nz : length (children node) ≡ 0 → ⊥ = eqb-false (length (children node)) 0 p.0 in
    (s, omega arith)

enter_kind_count : (node : List ℕ) (low high run : ℕ) (root : Bool) (f : Findings) (c : ℕ) (g : Findings) → enter_kind node low high run root f ≡ inner c g
    → (c ≡ length (children node)) × (1 ≤ c)
unfolding enter_kind
enter_kind_count node low high run root f c g e = go (eqb (kind_of node) 1) (eqb (kind_of node) 2) (eqb (kind_of node) 3) e
  where
    go : (x y z : Bool) → pick x (enter_leaf node low high root f) (pick y (enter_inner node false low run root f) (pick z (enter_inner node true low run root f) bad)) ≡ inner c g
        → (c ≡ length (children node)) × (1 ≤ c)
    go true y z q = absurd (enter_leaf_inner node low high root f c g q)
    go false true z q = enter_inner_count node false low run root f c g q
    go false false z q = enter_inner_count node true low run root f c g (pick_else_bad z _ c g q)

-- node m is on the card, and c is how many children it has
pub record Children (card : List ℕ) (n m c : ℕ) : Type 0 where
  pub one : 1 ≤ m
  pub within : m ≤ n
  pub counted : c ≡ length (children (node_at card m))
  pub some_child : 1 ≤ c

pub enter_children : (card : List ℕ) (n m low high run : ℕ) (root : Bool) (f : Findings) (c : ℕ) (g : Findings)
    → enter_node card n m low high run root f ≡ inner c g → Children card n m c
unfolding enter_node
enter_children card n m low high run root f c g e =
    let p = pick_bad (eqb m 0) _ c g e in
    let q = pick_bad (ltb n m) _ c g p.1 in
    let r = pick_else_bad (eqb (get_or (node_at card m) 23 0) 0) _ c g (pick_else_bad (get_or f.free m false) _ c g q.1) in
    let k = enter_kind_count (node_at card m) low high run root _ c g r in
    let nz : m ≡ 0 → ⊥ = eqb-false m 0 p.0 in
    record { one = omega arith; within = ltb-false n m q.0; counted = k.0; some_child = k.1 }

-- ---- the words of findings

-- all three stored anew
pub found_stored : (free : List Bool) (found : List ℕ) (v key run : ℕ) → 3 ≤ length found
    → findings_of free (set (set (set found 0 v) 1 key) 2 run) ≡ record { free = free; violated = not (eqb v 0); key = key; run = run }
unfolding findings_of
found_stored free [] v key run e = absurd (omega arith)
found_stored free (a ∷ []) v key run e = absurd (omega arith)
found_stored free (a ∷ b ∷ []) v key run e = absurd (omega arith)
found_stored free (a ∷ b ∷ c ∷ found) v key run e = refl

pub stored_length : (found : List ℕ) (v key run : ℕ) → length (set (set (set found 0 v) 1 key) 2 run) ≡ length found
stored_length found v key run = length-set (set (set found 0 v) 1 key) 2 run ∙ length-set (set found 0 v) 1 key ∙ length-set found 0 v

-- the first violation is noted, a second one is refused
module _ (free : List Bool) (found : List ℕ) (entry : Entry) (key run : ℕ) where
  pub noted_first : 3 ≤ length found → get_or found 0 0 ≡ 0
      → look_of (Some entry) (findings_of free (set (set (set found 0 1) 1 key) 2 run)) ≡ noted true entry (findings_of free found) key run
  unfolding noted findings_of
  noted_first l e = ap (look_of (Some entry)) (found_stored free found 1 key run l) ∙ rw (eq-eqb (get_or found 0 0) 0 e)

  pub noted_again : (get_or found 0 0 ≡ 0 → ⊥) → bad ≡ noted true entry (findings_of free found) key run
  unfolding noted findings_of
  noted_again p = rw (ne_eqb (get_or found 0 0) 0 p)

-- ---- the answer for the children as the answer for their parent

module _ (tagged : Bool) (height : ℕ) (f : Findings) (x : Option (ℕ × Findings)) where
  pub raised_none : none ≡ x → none ≡ raised tagged x
  unfolding raised
  raised_none e = ap (raised tagged) e

  pub raised_tagged : tagged ≡ true → some (height, f) ≡ x → some (height, f) ≡ raised tagged x
  unfolding raised
  raised_tagged t e = rw t (ap (raised true) e)

  pub raised_more : tagged ≡ false → some (height, f) ≡ x → some (height + 1, f) ≡ raised tagged x
  unfolding raised
  raised_more t e = rw (t, add-one height) (ap (raised false) e)

-- what the look at an internal node tells
module _ (entry : Entry) (c : ℕ) (e : entry ≡ Inner c) where
  pub look_found : (f : Findings) {l : Look} → look_of (Some entry) f ≡ l → l ≡ inner c f
  unfolding look_of
  look_found f p = sym p ∙ ap (λ (x : Entry). look_of (Some x) f) e

  pub counts_found : (node before after : List ℕ) → EntryCounts (Some entry) node before after → (kind_of node ≡ 1 → ⊥) × (after ≡ before)
  counts_found node before after p = subst (λ (x : Entry). EntryCounts (Some x) node before after) e p

pub is_leaf : (entry : Entry) → ((c : ℕ) → entry ≡ Inner c → ⊥) → entry ≡ Leaf
is_leaf Leaf p = refl
is_leaf (Inner c) p = absurd (p c refl)

-- no check of a child succeeds, and there is a child
pub children_none : (check : ChildCheck) → ((low high m : ℕ) (f : Findings) → check low high m f ≡ none)
    → (height low high : ℕ) (ks ms : List ℕ) (f : Findings) → 1 ≤ length ms → children_check check true height low high ks ms f ≡ none
unfolding children_check
children_none check fails height low high ks [] f h = absurd (omega arith)
children_none check fails height low high ks (m ∷ ms) f h = go (range_end low high ks)
  where
    go : (end : Option ℕ) → bind end (λ to. bind (check low to m f) (λ r. guard true (children_check check false r.0 to high (drop 1 ks) ms r.1))) ≡ none
    go none = refl
    go (some to) = rw (fails low to m f)

module _ (node : List ℕ) (len : length node ≡ 24) (c i : ℕ) (counted : c ≡ length (children node)) where
  pub child_drop : i < c → drop i (children node) ≡ get_or node (12 + i) 0 ∷ drop (i + 1) (children node)
  unfolding children
  child_drop h =
      drop-cons (children node) i 0 (omega arith)
      ∙ ap₂ (λ (x : ℕ) (y : ℕ). x ∷ drop y (children node))
      (ap (λ (l : List ℕ). get_or l i 0) (children_words node c counted) ∙ get_or-take c (drop 12 node) i 0 h ∙ get_or-drop 12 node i 0) (sym (add-one i))

  pub routing_drop : i + 1 < c → drop i (routing_keys node) ≡ get_or node (1 + i) 0 ∷ drop (i + 1) (routing_keys node)
  routing_drop h =
      drop-cons (routing_keys node) i 0 (omega (arith, length_routing node len))
      ∙ ap₂ (λ (x : ℕ) (y : ℕ). x ∷ drop y (routing_keys node))
      (ap (λ (l : List ℕ). get_or l i 0) (routing_words node c counted) ∙ get_or-take (c - 1) (drop 1 node) i 0 (omega arith) ∙ get_or-drop 1 node i 0) (sym (add-one i))

  pub routing_end : c ≤ i + 1 → drop i (routing_keys node) ≡ []
  routing_end h = drop_of_length-le (routing_keys node) {i = i} (omega (arith, length_routing node len))

  -- the end of child i's range
  module _ (low high : ℕ) where
    pub end_last : c ≤ i + 1 → range_end low high (drop i (routing_keys node)) ≡ some high
    unfolding range_end
    end_last h = rw (routing_end h)

    end_key : i + 1 < c → range_end low high (drop i (routing_keys node)) ≡ guard (ltb low (get_or node (1 + i) 0) && ltb (get_or node (1 + i) 0) high) (some (get_or node (1 + i) 0))
    unfolding range_end
    end_key h = rw (routing_drop h)

    pub end_fallen : i + 1 < c → get_or node (1 + i) 0 ≤ low → range_end low high (drop i (routing_keys node)) ≡ none
    end_fallen h l = end_key h ∙ rw (le-ltb low (get_or node (1 + i) 0) l)

    pub end_above : i + 1 < c → low < get_or node (1 + i) 0 → high ≤ get_or node (1 + i) 0 → range_end low high (drop i (routing_keys node)) ≡ none
    end_above h l g = end_key h ∙ rw (lt-ltb low (get_or node (1 + i) 0) l, le-ltb (get_or node (1 + i) 0) high g)

    pub end_within : i + 1 < c → low < get_or node (1 + i) 0 → get_or node (1 + i) 0 < high → range_end low high (drop i (routing_keys node)) ≡ some (get_or node (1 + i) 0)
    end_within h l g = end_key h ∙ rw (lt-ltb low (get_or node (1 + i) 0) l, lt-ltb (get_or node (1 + i) 0) high g)

    end_is_key : (to : ℕ) → i + 1 < c → range_end low high (drop i (routing_keys node)) ≡ some to → to ≡ get_or node (1 + i) 0
    end_is_key to h e =
        let g =
        guard_some (ltb low (get_or node (1 + i) 0) && ltb (get_or node (1 + i) 0) high) (some (get_or node (1 + i) 0)) to (sym (end_key h) ∙ e) in
        let z : to ≡ get_or node (1 + i) 0 = cc in
        z

  -- child i, after the children before it were checked
  module _ (check : ChildCheck) (height low high : ℕ) (f : Findings) (h : i < c) where
    turn : children_check check (eqb i 0) height low high (drop i (routing_keys node)) (drop i (children node)) f
        ≡ bind (range_end low high (drop i (routing_keys node))) (λ to. bind (check low to (get_or node (12 + i) 0) f)
        (λ r. guard (eqb i 0 || eqb r.0 height) (children_check check false r.0 to high (drop 1 (drop i (routing_keys node))) (drop (i + 1) (children node)) r.1)))
    unfolding children_check
    turn = ap (λ (ms : List ℕ). children_check check (eqb i 0) height low high (drop i (routing_keys node)) ms f) (child_drop h)

    pub turn_wrong : range_end low high (drop i (routing_keys node)) ≡ none
        → children_check check (eqb i 0) height low high (drop i (routing_keys node)) (drop i (children node)) f ≡ none
    turn_wrong e = turn ∙ rw e

    module _ (to : ℕ) (end : range_end low high (drop i (routing_keys node)) ≡ some to) where
      pub turn_bad : check low to (get_or node (12 + i) 0) f ≡ none
          → children_check check (eqb i 0) height low high (drop i (routing_keys node)) (drop i (children node)) f ≡ none
      turn_bad e = turn ∙ rw (end, e)

      module _ (its : ℕ) (g : Findings) (good : check low to (get_or node (12 + i) 0) f ≡ some (its, g)) where
        pub turn_uneven : (eqb i 0 || eqb its height) ≡ false
            → children_check check (eqb i 0) height low high (drop i (routing_keys node)) (drop i (children node)) f ≡ none
        turn_uneven e = turn ∙ rw (end, good, e)

        turn_even : (eqb i 0 || eqb its height) ≡ true → children_check check (eqb i 0) height low high (drop i (routing_keys node)) (drop i (children node)) f
            ≡ children_check check false its to high (drop 1 (drop i (routing_keys node))) (drop (i + 1) (children node)) g
        turn_even e = turn ∙ rw (end, good, e)

        -- after the last child it does not matter where a further range would begin
        pub turn_on : (eqb i 0 || eqb its height) ≡ true → children_check check (eqb i 0) height low high (drop i (routing_keys node)) (drop i (children node)) f
            ≡ children_check check (eqb (i + 1) 0) its (get_or node (1 + i) 0) high (drop (i + 1) (routing_keys node)) (drop (i + 1) (children node)) g
        unfolding children_check
        turn_on e = turn_even e ∙ order (i + 1) c more last
          where
            later : eqb (i + 1) 0 ≡ false
            later = ne_eqb (i + 1) 0 (λ z. omega arith)

            more : i + 1 < c → children_check check false its to high (drop 1 (drop i (routing_keys node))) (drop (i + 1) (children node)) g
                ≡ children_check check (eqb (i + 1) 0) its (get_or node (1 + i) 0) high (drop (i + 1) (routing_keys node)) (drop (i + 1) (children node)) g
            more l = rw (later, ← end_is_key low high to l end, drop-drop 1 i (routing_keys node))

            last : c ≤ i + 1 → children_check check false its to high (drop 1 (drop i (routing_keys node))) (drop (i + 1) (children node)) g
                ≡ children_check check (eqb (i + 1) 0) its (get_or node (1 + i) 0) high (drop (i + 1) (routing_keys node)) (drop (i + 1) (children node)) g
            last l = rw (drop_of_length-le (children node) {i = i + 1} (omega arith))

  pub turn_end : (check : ChildCheck) (first : Bool) (height low high : ℕ) (f : Findings) → c ≤ i
      → children_check check first height low high (drop i (routing_keys node)) (drop i (children node)) f ≡ some (height, f)
  unfolding children_check
  turn_end check first height low high f h = rw (drop_of_length-le (children node) {i = i} (omega arith))

-- ---- a node by its levels

module _ (card : List ℕ) (n run : ℕ) (root : Bool) (low high m : ℕ) (f : Findings) where
  pub check_bad : (levels : ℕ) → enter_node card n m low high run root f ≡ bad → node_check levels card n run root low high m f ≡ none
  unfolding node_check on_look
  check_bad zero e = rw e
  check_bad (suc levels) e = rw e

  pub check_leaf : (levels : ℕ) (g : Findings) → enter_node card n m low high run root f ≡ leaf g → node_check levels card n run root low high m f ≡ some (0, g)
  unfolding node_check on_look
  check_leaf zero g e = rw e
  check_leaf (suc levels) g e = rw e

  module _ (levels c : ℕ) (g : Findings) (found : enter_node card n m low high run root f ≡ inner c g) where
    pub check_deep : levels ≡ 0 → node_check levels card n run root low high m f ≡ none
    unfolding node_check on_look raised
    check_deep z =
        let k = enter_children card n m low high run root f c g found in
        rw (z, found) (ap (raised (eqb (kind_of (node_at card m)) 3)) (children_none (λ l h k g. none) (λ l h k g. refl) 0 low high
        (routing_keys (node_at card m)) (children (node_at card m)) g (omega (arith, k.counted, k.some_child))))

    pub check_inner : (levels ≡ 0 → ⊥) → node_check levels card n run root low high m f
        ≡ raised (eqb (kind_of (node_at card m)) 3) (children_check (node_check (levels - 1) card n (run_below c run) false) true 0 low high
        (routing_keys (node_at card m)) (children (node_at card m)) g)
    unfolding node_check on_look
    check_inner p = ap (λ (x : ℕ). node_check x card n run root low high m f) (let z : levels ≡ suc (levels - 1) = omega arith in z) ∙ go (levels - 1)
      where
        go : (l : ℕ) → node_check (suc l) card n run root low high m f
            ≡ raised (eqb (kind_of (node_at card m)) 3) (children_check (node_check l card n (run_below c run) false) true 0 low high (routing_keys (node_at card m)) (children (node_at card m)) g)
        go l = rw found
