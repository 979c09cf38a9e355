-- Laws of the counting by family: one for each branch of the code, and where the totals stand among the lent words.
use mathlib.Core.Path.{◌≡◌, refl, ap, sym, ◌∙◌}
use mathlib.Core.List.{List, [], ◌∷◌, ◌++◌, append-nil}
use mathlib.Core.Bool.{Bool, true, false, ◌&&◌, ◌||◌, not}
use Prim.Native.Nat.{ℕ, zero, suc, ◌+◌, ◌-◌, ◌*◌, ◌^◌, ◌≤◌, ◌<◌}
use native.Mathlib.Omega.{arith}
use lib.ListN.{length, get_or, set, take, drop, replicate, length-append, length-drop, drop_of_length-le}
use lib.Seq.{take_all, length-take-le}
use lib.Dec.{eqb, ltb, leb}
use borrow.Author.Tests.{ltb-true, leb-true, ne_eqb, eq-eqb}
use Rattle.std.specs.Prelude.{Option as Answer, Some, None}
use Rattle.laws.specs.Cases.{pick}
use Rattle.laws.proofs.Cases.{and_true, impossible}
use Rattle.card.specs.Layout.{node_at, kind_of, key_words, value_words, children, slot_pairs, leaf_pairs}
use Rattle.card.proofs.NodeLaws.{length_key_words, length_value_words}
use Rattle.card_family.specs.Families.{family_count, family_size, family_of, counted_in, several_in}
use Rattle.card_family.proofs.FamilyLaws.{one_family, several_none, several_more}
use Rattle.card_check.specs.Check.{member, slot_sound, leaf_sound, Findings, findings_of, look_of, Looks, enter_leaf}
use Rattle.card_check.specs.Check.{enter_inner, noted, inner_sound, unused_zero, bad, leaf, inner}
use Rattle.card_check.specs.Counting.{keys_counted, children_counted, node_counted, EntryCounts}
use Rattle.card_check.specs.declared.Entry.{Entry}
use Rattle.card_check.specs.declared.Entry.TheVariants.{Leaf, Inner}
use Rattle.card_check.proofs.CheckLaws.{key_drop, child_drop, enter_leaf_inner}

-- ---- a leaf, slot by slot from the last on

module _ (node : List ℕ) (len : length node ≡ 24) (i : ℕ) (totals : List ℕ) where
  pub keys_empty : i < 11 → get_or node (1 + i) 0 ≡ 0 → keys_counted (drop i (key_words node)) totals ≡ keys_counted (drop (i + 1) (key_words node)) totals
  unfolding keys_counted
  keys_empty h e = rw (key_drop node len i h, eq-eqb (get_or node (1 + i) 0) 0 e)

  pub keys_more : i < 11 → (get_or node (1 + i) 0 ≡ 0 → ⊥)
      → keys_counted (drop i (key_words node)) totals ≡ counted_in (get_or node (1 + i) 0) (keys_counted (drop (i + 1) (key_words node)) totals)
  unfolding keys_counted
  keys_more h p = rw (key_drop node len i h, ne_eqb (get_or node (1 + i) 0) 0 p)

  pub keys_end : 11 ≤ i → keys_counted (drop i (key_words node)) totals ≡ totals
  unfolding keys_counted
  keys_end h = rw (drop_of_length-le (key_words node) {i = i} (omega (arith, length_key_words node len)))

-- a sound leaf whose range ends with the family of its low end: all its pairs at once
module _ (low high : ℕ) (one : high ≤ (family_of low + 1) * family_size) (totals : List ℕ) (fits : family_of low < length totals) (small : get_or totals (family_of low) 0 < 2 ^ 32) where
  keys_several : (ks vs : List ℕ) → length ks ≡ length vs → leaf_sound low high ks ≡ true → keys_counted ks totals ≡ several_in low (length (slot_pairs ks vs)) totals
  unfolding keys_counted leaf_sound slot_sound
  keys_several [] vs n e = sym (several_none low totals small)
  keys_several (k ∷ ks) [] n e = absurd (omega arith)
  keys_several (zero ∷ ks) (v ∷ vs) n e = keys_several ks vs (omega arith) e
  keys_several (suc k ∷ ks) (v ∷ vs) n e =
      let s = and_true (slot_sound low high (suc k) ks) (leaf_sound low high ks) e in
      let a = and_true (leb low (suc k)) (ltb (suc k) high && not (member (suc k) ks)) (rw (ne_eqb (suc k) 0 (omega arith)) at s.0) in
      let b = and_true (ltb (suc k) high) (not (member (suc k) ks)) a.1 in
      let f = one_family low high (suc k) one (leb-true low (suc k) a.0) (ltb-true (suc k) high b.0) in
      rw (ne_eqb (suc k) 0 (omega arith)) (ap (counted_in (suc k)) (keys_several ks vs (omega arith) s.1) ∙ several_more low totals (suc k) (length (slot_pairs ks vs)) f fits)

  pub leaf_several : (node : List ℕ) → length node ≡ 24 → leaf_sound low high (key_words node) ≡ true → keys_counted (key_words node) totals ≡ several_in low (length (leaf_pairs node)) totals
  unfolding leaf_pairs
  leaf_several node len e = keys_several (key_words node) (value_words node) (length_key_words node len ∙ sym (length_value_words node len)) e

-- ---- the totals among the lent words

module _ (found : List ℕ) (l : length found ≡ 3 + family_count) where
  pub lent_totals : take family_count (drop 3 found) ≡ drop 3 found
  lent_totals = take_all family_count (drop 3 found) (omega (arith, length-drop 3 found))

  pub lent_length : length (take family_count (drop 3 found)) ≡ family_count
  lent_length = ap length lent_totals ∙ omega (arith, length-drop 3 found)

-- the words of findings stay where the totals are stored anew, and conversely
abbrev pub with_totals : List ℕ → List ℕ → List ℕ
with_totals found totals = take 3 found ++ (totals ++ drop family_count (drop 3 found))

pub with_findings : (free : List Bool) (found totals : List ℕ) → length found ≡ 3 + family_count → findings_of free (with_totals found totals) ≡ findings_of free found
unfolding findings_of
with_findings free [] totals l = absurd (omega arith)
with_findings free (a ∷ []) totals l = absurd (omega arith)
with_findings free (a ∷ b ∷ []) totals l = absurd (omega arith)
with_findings free (a ∷ b ∷ c ∷ found) totals l = refl

pub with_totals_lem : (found totals : List ℕ) → length found ≡ 3 + family_count → drop 3 (with_totals found totals) ≡ totals
with_totals_lem [] totals l = absurd (omega arith)
with_totals_lem (a ∷ []) totals l = absurd (omega arith)
with_totals_lem (a ∷ b ∷ []) totals l = absurd (omega arith)
with_totals_lem (a ∷ b ∷ c ∷ found) totals l = rw (drop_of_length-le found {i = family_count} (omega arith)) (append-nil totals)

pub with_length : (found totals : List ℕ) → length found ≡ 3 + family_count → length totals ≡ family_count → length (with_totals found totals) ≡ 3 + family_count
with_length [] totals l e = absurd (omega arith)
with_length (a ∷ []) totals l e = absurd (omega arith)
with_length (a ∷ b ∷ []) totals l e = absurd (omega arith)
with_length (a ∷ b ∷ c ∷ found) totals l e =
    omega (arith, length-append totals (drop family_count found), length-drop family_count found)

pub stored_totals : (found : List ℕ) (v key run : ℕ) → drop 3 (set (set (set found 0 v) 1 key) 2 run) ≡ drop 3 found
stored_totals [] v key run = refl
stored_totals (a ∷ []) v key run = refl
stored_totals (a ∷ b ∷ []) v key run = refl
stored_totals (a ∷ b ∷ c ∷ found) v key run = refl

-- all lent words become 0
pub all_cleared : (found part : List ℕ) → length found ≡ 3 + family_count → part ≡ replicate (length (take 19 found)) 0 → part ++ drop 19 found ≡ replicate 19 0
all_cleared found part l e =
    let n : length (take 19 found) ≡ 19 = length-take-le 19 found (omega arith) in
    rw (e, n, drop_of_length-le found {i = 19} (omega arith))

-- ---- a first look at a node

-- no internal node looks like a leaf
noted_leaf : (violates : Bool) (c : ℕ) (f : Findings) (key run : ℕ) (g : Findings) → noted violates (Inner c) f key run ≡ leaf g → ⊥
unfolding noted look_of
noted_leaf true c f key run g e = go f.violated e
  where
    go : (b : Bool) → pick b bad (inner c (record { free = f.free; violated = true; key = key; run = run })) ≡ leaf g → ⊥
    go true q = impossible (cc)
    go false q = impossible (cc)
noted_leaf false c f key run g e = impossible (cc)

enter_inner_leaf : (node : List ℕ) (tagged : Bool) (low run : ℕ) (root : Bool) (f g : Findings) → enter_inner node tagged low run root f ≡ leaf g → ⊥
unfolding enter_inner
enter_inner_leaf node tagged low run root f g e =
    go (eqb (length (children node)) 0) (unused_zero node (length (children node))) (inner_sound tagged root (length (children node))) e
  where
    go : (x y z : Bool) → pick x bad (pick y (pick z (noted (tagged || ltb (length (children node)) 2) (Inner (length (children node))) f low (pick tagged run 0)) bad) bad) ≡ leaf g → ⊥
    go true y z q = impossible (cc)
    go false false z q = impossible (cc)
    go false true false q = impossible (cc)
    go false true true q = noted_leaf (tagged || ltb (length (children node)) 2) (length (children node)) f low (pick tagged run 0) g q

module _ (node before after : List ℕ) (low : ℕ) (root : Bool) where
  pub counts_leaf : (r : Answer Entry) (high : ℕ) → kind_of node ≡ 1 → Looks r before after (enter_leaf node low high root)
      → ((r ≡ None → ⊥) → drop 3 after ≡ keys_counted (key_words node) (drop 3 before)) → EntryCounts r node (drop 3 before) (drop 3 after)
  unfolding look_of
  counts_leaf None high k looks e = tt
  counts_leaf (Some Leaf) high k looks e = (k, e (λ q. impossible (cc)))
  counts_leaf (Some (Inner c)) high k looks e = absurd (enter_leaf_inner node low high root (findings_of [] before) c (findings_of [] after) (sym (looks [])))

  pub counts_inner : (r : Answer Entry) (tagged : Bool) (run : ℕ) → (kind_of node ≡ 1 → ⊥) → Looks r before after (enter_inner node tagged low run root)
      → drop 3 after ≡ drop 3 before → EntryCounts r node (drop 3 before) (drop 3 after)
  unfolding look_of
  counts_inner None tagged run p looks e = tt
  counts_inner (Some Leaf) tagged run p looks e = absurd (enter_inner_leaf node tagged low run root (findings_of [] before) (findings_of [] after) (sym (looks [])))
  counts_inner (Some (Inner c)) tagged run p looks e = (p, e)

-- ---- a node and all below it

module _ (card : List ℕ) (m : ℕ) (totals : List ℕ) where
  pub counted_leaf : (levels : ℕ) → kind_of (node_at card m) ≡ 1 → node_counted levels card m totals ≡ keys_counted (key_words (node_at card m)) totals
  unfolding node_counted
  counted_leaf zero e = rw (eq-eqb (kind_of (node_at card m)) 1 e)
  counted_leaf (suc levels) e = rw (eq-eqb (kind_of (node_at card m)) 1 e)

  pub leaf_counted : (levels : ℕ) (r : Answer Entry) (after : List ℕ) → r ≡ Some Leaf → EntryCounts r (node_at card m) totals after → after ≡ node_counted levels card m totals
  leaf_counted levels None after e k = impossible (cc)
  leaf_counted levels (Some Leaf) after e k = k.1 ∙ sym (counted_leaf levels k.0)
  leaf_counted levels (Some (Inner c)) after e k = impossible (cc)

  pub counted_inner : (levels : ℕ) → (levels ≡ 0 → ⊥) → (kind_of (node_at card m) ≡ 1 → ⊥)
      → node_counted levels card m totals ≡ children_counted (node_counted (levels - 1) card) (children (node_at card m)) totals
  unfolding node_counted
  counted_inner levels p k = ap (λ (x : ℕ). node_counted x card m totals) (let z : levels ≡ suc (levels - 1) = omega arith in z) ∙ rw (ne_eqb (kind_of (node_at card m)) 1 k)

module _ (node : List ℕ) (len : length node ≡ 24) (c i : ℕ) (counted : c ≡ length (children node)) (count : ℕ → List ℕ → List ℕ) (totals : List ℕ) where
  pub turn_counted : i < c → children_counted count (drop i (children node)) totals ≡ children_counted count (drop (i + 1) (children node)) (count (get_or node (12 + i) 0) totals)
  unfolding children_counted
  turn_counted h = rw (child_drop node len c i counted h)

  pub turn_counted_end : c ≤ i → children_counted count (drop i (children node)) totals ≡ totals
  unfolding children_counted
  turn_counted_end h = rw (drop_of_length-le (children node) {i = i} (omega arith))
