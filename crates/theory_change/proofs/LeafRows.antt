-- Document 01, "The changes": "Pairs in new leaves ascend from slot 0; unused words are 0." A new leaf and what it holds.
use mathlib.Core.Path.{◌≡◌, refl, ap, ap₂, sym, ◌∙◌}
use mathlib.Core.List.{List, [], ◌∷◌, ◌++◌}
use Prim.Native.Nat.{ℕ, zero, suc, ◌+◌, ◌-◌, ◌≤◌, ◌<◌}
use native.Mathlib.Omega.{arith}
use lib.ListN.{length, get_or, take, drop, replicate, length-take, length-drop, length-map, take-append-drop, get_or-map}
use Rattle.card.specs.Layout.{slot_pairs}
use Rattle.card.specs.NodeWords.{NodeWords}
use Rattle.card.specs.Stores.{new_node}
use Rattle.card.proofs.Stores.{HasWords}
use Rattle.laws.specs.Lists.{pad}
use Rattle.laws.proofs.Lists.{length_pad, get_d_pad}
use Rattle.laws.specs.Sorting.{Pairs, pair_keys, pair_values, key_at}
use Rattle.laws.proofs.Totals.{indicator_other, indicator_zero, total_append}
use Rattle.laws.specs.Totals.{total}
use Rattle.laws.proofs.Sorting.{map_take, map_drop}
use Rattle.theory_tree.specs.Pairs.{pairs, forest_pairs, has_key}
use Rattle.theory_tree.proofs.Pairs.{InRange, AllInRange}
use Rattle.theory_tree.specs.Represent.{Represents}
use Rattle.theory_tree.proofs.Sorted.{Rising, rising_cut, rising_le, rising_leaf, slot_pairs_zeros, slot_pairs_cons}
use Rattle.theory_tree.specs.Tree.{Tree, Forest, leaf, one, more}
use Rattle.theory_tree.specs.Violations.{few, violations, forest_violations, AllWidths}
use Rattle.theory_tree.proofs.Violations.{few_none}

-- a leaf whose slots are the pairs, the rest of both rows being 0
abbrev pub new_leaf : ℕ → Pairs → Tree
new_leaf m ps = leaf m (pad 11 (pair_keys ps)) (pad 11 (pair_values ps))

-- "A key word of 0 is an empty slot": no pair that is read from slots has the key 0
pub slot_keys : (ks vs : List ℕ) → total (has_key 0) (slot_pairs ks vs) ≡ 0
slot_keys [] vs = refl
slot_keys (k ∷ ks) [] = refl
slot_keys (zero ∷ ks) (v ∷ vs) = slot_keys ks vs
slot_keys (suc k ∷ ks) (v ∷ vs) = omega (arith, indicator_other 0 (suc k) (omega arith), slot_keys ks vs)

-- as many pairs as slots at most
-- pairs without the key 0, put into slots and read again
slots_read : (n m : ℕ) (ps : Pairs) → total (has_key 0) ps ≡ 0 → slot_pairs (pair_keys ps ++ replicate n 0) (pair_values ps ++ replicate m 0) ≡ ps
slots_read n m [] z = slot_pairs_zeros n m (replicate m 0)
slots_read n m (p ∷ ps) z =
    let d = indicator_zero 0 p.0 (omega arith) in
    let h : 0 < p.0 = omega arith in
    rw (slot_pairs_cons p.0 p.1, slots_read n m ps (omega arith))

-- the pairs of a new leaf; pairs that rise from a positive bound on have no key 0 (rising-below)
pub new_leaf_pairs : (m : ℕ) (ps : Pairs) → total (has_key 0) ps ≡ 0 → pairs (new_leaf m ps) ≡ ps
new_leaf_pairs m ps z = slots_read (11 - length (pair_keys ps)) (11 - length (pair_values ps)) ps z

-- the range of a new leaf
pub new_leaf_range : (m lo hi : ℕ) (ps : Pairs) → total (has_key 0) ps ≡ 0 → Rising lo hi ps → InRange lo hi (new_leaf m ps)
new_leaf_range m lo hi ps z u = rw (new_leaf_pairs m ps z) (rising_leaf lo hi ps u)

-- two pairs or more: no violation
pub new_leaf_settled : (m : ℕ) (ps : Pairs) → total (has_key 0) ps ≡ 0 → 2 ≤ length ps → violations (new_leaf m ps) ≡ 0
new_leaf_settled m ps z h = ap few (ap length (new_leaf_pairs m ps z)) ∙ few_none (length ps) h

-- rows are read with 0 past their end, so a node's words are those of its padded rows too
pub node_words_pad : {c : List ℕ} {m k : ℕ} {a b : List ℕ} → NodeWords c m k a b → NodeWords c m k (pad 11 a) (pad 11 b)
node_words_pad {c} {m} {k} {a} {b} w =
    record {
      on = w.on;
      kind = w.kind;
      low = λ j h. w.low j h ∙ sym (get_d_pad 11 a j h);
      high = λ j h. w.high j h ∙ sym (get_d_pad 11 b j h);
      last = w.last;
    }

pub length_pair_keys : (ps : Pairs) → length (pair_keys ps) ≡ length ps
length_pair_keys ps = length-map ps (λ (p : ℕ × ℕ). p.0)

pub length_pair_values : (ps : Pairs) → length (pair_values ps) ≡ length ps
length_pair_values ps = length-map ps (λ (p : ℕ × ℕ). p.1)

-- the new node of the pairs, once written, is the new leaf
pub new_leaf_represented : (c : List ℕ) (m : ℕ) (ps : Pairs) → length ps ≤ 11 → HasWords c (new_node m 1 (pair_keys ps) (pair_values ps)) → Represents c (new_leaf m ps)
new_leaf_represented c m ps h w = (node_words_pad w, length_pad 11 (pair_keys ps) (omega (arith, length_pair_keys ps)), length_pad 11 (pair_values ps) (omega (arith, length_pair_values ps)))

-- totals over a list of pairs cut after the n-th
total_cut : (w : ℕ × ℕ → ℕ) (n : ℕ) (ps : Pairs) → total w (take n ps) + total w (drop n ps) ≡ total w ps
total_cut w n ps = sym (total_append w (take n ps) (drop n ps)) ∙ ap (total w) (take-append-drop n ps)

-- a part of a mapped list
-- so the rows of the parts are the parts of the rows
module _ (n : ℕ) (ps : Pairs) where
  pub keys_take : take n (pair_keys ps) ≡ pair_keys (take n ps)
  keys_take = map_take (λ p. p.0) n ps

  pub values_take : take n (pair_values ps) ≡ pair_values (take n ps)
  values_take = map_take (λ p. p.1) n ps

  pub keys_drop : drop n (pair_keys ps) ≡ pair_keys (drop n ps)
  keys_drop = map_drop (λ p. p.0) n ps

  pub values_drop : drop n (pair_values ps) ≡ pair_values (drop n ps)
  values_drop = map_drop (λ p. p.1) n ps

  pub key_at_row : get_or (pair_keys ps) n 0 ≡ key_at n ps
  key_at_row = get_or-map (λ (p : ℕ × ℕ). p.0) ps n (0, 0)

-- a range with a key in it is not empty
rising_strict : (lo hi : ℕ) (ps : Pairs) → 0 < length ps → Rising lo hi ps → lo < hi
rising_strict lo hi [] h u = absurd (omega arith)
rising_strict lo hi (p ∷ ps) h u = omega (arith, u.0, rising_le (suc p.0) hi ps u.1)

-- sorted pairs in two new leaves side by side, cut at n: "Between shared leaves the routing key is the right one's smallest."
abbrev pub two_leaves : ℕ → ℕ → ℕ → Pairs → Forest
two_leaves a b n ps = more (new_leaf a (take n ps)) (key_at n ps) (one (new_leaf b (drop n ps)))

module _ (a b n : ℕ) (ps : Pairs) (z : total (has_key 0) ps ≡ 0) where
  left_nonzero : total (has_key 0) (take n ps) ≡ 0
  left_nonzero = omega (arith, total_cut (has_key 0) n ps)

  right_nonzero : total (has_key 0) (drop n ps) ≡ 0
  right_nonzero = omega (arith, total_cut (has_key 0) n ps)

  left_pairs : pairs (new_leaf a (take n ps)) ≡ take n ps
  left_pairs = new_leaf_pairs a (take n ps) left_nonzero

  right_pairs : pairs (new_leaf b (drop n ps)) ≡ drop n ps
  right_pairs = new_leaf_pairs b (drop n ps) right_nonzero

  pub two_leaves_pairs : forest_pairs (two_leaves a b n ps) ≡ ps
  two_leaves_pairs = ap₂ (λ (s t : Pairs). s ++ t) left_pairs right_pairs ∙ take-append-drop n ps

  pub two_leaves_range : (lo hi : ℕ) → 0 < n → n < length ps → Rising lo hi ps → AllInRange lo hi (two_leaves a b n ps)
  two_leaves_range lo hi h h' u =
      let c = rising_cut lo hi n ps u h' in (
        new_leaf_range a lo (key_at n ps) (take n ps) left_nonzero c.0,
        rising_strict lo (key_at n ps) (take n ps) (simp length-take (omega arith)) c.0,
        rising_strict (key_at n ps) hi (drop n ps) (simp length-drop (omega arith)) c.1,
        new_leaf_range b (key_at n ps) hi (drop n ps) right_nonzero c.1,
      )

  -- two pairs or more on each side: no violation
  pub two_leaves_settled : 2 ≤ n → n + 2 ≤ length ps → forest_violations (two_leaves a b n ps) ≡ 0
  two_leaves_settled h h' = omega (arith, new_leaf_settled a (take n ps) left_nonzero (simp length-take (omega arith)), new_leaf_settled b (drop n ps) right_nonzero (simp length-drop (omega arith)))

  pub two_leaves_widths : 2 ≤ n → n + 2 ≤ length ps → AllWidths (two_leaves a b n ps)
  two_leaves_widths h h' = (
    omega (arith, ap length left_pairs, length-take n ps),
    omega (arith, ap length right_pairs, length-drop n ps),
  )
