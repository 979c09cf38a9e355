-- Document 02, W-201: "Walking an unchanged card from 0 lists each pair once, rising". Two lists hold the same pairs, each as
-- often, where all weights have the same totals over them.
use mathlib.Core.Path.{◌≡◌, refl, ap, sym, ◌∙◌}
use mathlib.Core.List.{List, [], ◌∷◌}
use mathlib.Core.Logic.{inl}
use Prim.Native.Nat.{ℕ, zero, suc, ◌+◌, ◌≤◌, ◌<◌}
use native.Mathlib.Omega.{arith}
use lib.ListN.{length}
use Rattle.card.specs.Header.{card_refusal}
use Rattle.card.specs.Layout.{lowest_key, key_limit}
use Rattle.laws.specs.Totals.{total}
use Rattle.theory_check.proofs.Ranges.{well_formed_in_range}
use Rattle.walk_next.specs.Successor.{next_of, on_next, walk_from}
use Rattle.walk_next.specs.Next.{Successor}
use Rattle.walk_next.specs.Next.{Pair, Nothing, Refused}
use Rattle.theory_next.proofs.IsNext.{IsNext}
use Rattle.theory_next.proofs.Lookups.{found_in_range}
use Rattle.theory_next.proofs.Next.{next_right}
use Rattle.theory_next.proofs.TotalsAbove.{above, above_all, above_next, above_last}
use Rattle.theory_tree.proofs.Lookup.{key_once, lookup_same}
use Rattle.theory_tree.specs.Pairs.{pairs, lookup}
use Rattle.theory_tree.proofs.Pairs.{absent}
use Rattle.theory_tree.proofs.Sorted.{Rising, rising_once}
use Rattle.theory_tree.specs.Tree.{Tree}
use Rattle.theory_tree.specs.WellFormed.{WellFormed}

-- the weight that counts pairs
abbrev one : ℕ × ℕ → ℕ
one p = 1

count_length : (ps : List (ℕ × ℕ)) → total one ps ≡ length ps
count_length [] = refl
count_length (p ∷ ps) = omega (arith, count_length ps)

module _ (greatest : ℕ) (c : List ℕ) (t : Tree) (w : WellFormed c t) (e : card_refusal greatest c ≡ 0) where
  -- the next key is a key, from which the walk can go on
  key_below : (after k v : ℕ) → IsNext (pairs t) after (Pair k v) → k < key_limit
  key_below after k v i = (found_in_range lowest_key key_limit k v t (well_formed_in_range w) i.1).1

  -- what is above the number is the next pair and what is above that
  taken : (weight : ℕ × ℕ → ℕ) (after k v : ℕ) → IsNext (pairs t) after (Pair k v) → total (above after weight) (pairs t) ≡ weight (k, v) + total (above k weight) (pairs t)
  taken weight after k v i = above_next weight after k v (pairs t) (key_once lowest_key key_limit k t (well_formed_in_range w)) i

  -- ---- from a number on

  walk_above : (weight : ℕ × ℕ → ℕ) (most after : ℕ) → after < key_limit → total (above after one) (pairs t) ≤ most
      → total weight (walk_from greatest 1 most c after) ≡ total (above after weight) (pairs t)
  unfolding walk_from on_next
  walk_above weight zero after h enough = go (next_of greatest 1 c after) (next_right greatest c t after w e h)
    where
      go : (s : Successor) → IsNext (pairs t) after s → 0 ≡ total (above after weight) (pairs t)
      go (Pair k v) i = absurd (omega (arith, taken one after k v i))
      go Nothing i = sym (above_last weight after (pairs t) i)
      go (Refused r) i = absurd i
  walk_above weight (suc most) after h enough = go (next_of greatest 1 c after) (next_right greatest c t after w e h) (walk_above weight most)
    where
      go : (s : Successor) → IsNext (pairs t) after s → ((k : ℕ) → k < key_limit → total (above k one) (pairs t) ≤ most
          → total weight (walk_from greatest 1 most c k) ≡ total (above k weight) (pairs t))
          → total weight (on_next (walk_from greatest 1 most c) s) ≡ total (above after weight) (pairs t)
      go (Pair k v) i next = ap (λ (x : ℕ). weight (k, v) + x) (next k (key_below after k v i) (omega (arith, taken one after k v i))) ∙ sym (taken weight after k v i)
      go Nothing i next = sym (above_last weight after (pairs t) i)
      go (Refused r) i next = absurd i

  walk_rises_above : (most after : ℕ) → after < key_limit → Rising (suc after) key_limit (walk_from greatest 1 most c after)
  unfolding walk_from on_next
  walk_rises_above zero after h = omega arith
  walk_rises_above (suc most) after h = go (next_of greatest 1 c after) (next_right greatest c t after w e h) (walk_rises_above most)
    where
      go : (s : Successor) → IsNext (pairs t) after s → ((k : ℕ) → k < key_limit → Rising (suc k) key_limit (walk_from greatest 1 most c k))
          → Rising (suc after) key_limit (on_next (walk_from greatest 1 most c) s)
      go (Pair k v) i next = (omega (arith, i.0), next k (key_below after k v i))
      go Nothing i next = omega arith
      go (Refused r) i next = absurd i

  -- ---- from 0

  pub walk_rises : (most : ℕ) → Rising lowest_key key_limit (walk_from greatest 1 most c 0)
  walk_rises most = walk_rises_above most 0 (omega arith)

  module _ (most : ℕ) (enough : length (pairs t) ≤ most) where
    pub walk_lists : (weight : ℕ × ℕ → ℕ) → total weight (walk_from greatest 1 most c 0) ≡ total weight (pairs t)
    walk_lists weight =
        let keyed = absent lowest_key key_limit 0 (inl (omega arith)) t (well_formed_in_range w) in
        walk_above weight most 0 (omega arith) (omega (arith, above_all one (pairs t) keyed, count_length (pairs t))) ∙ above_all weight (pairs t) keyed

    pub walk_lookup : (key : ℕ) → lookup key (walk_from greatest 1 most c 0) ≡ lookup key (pairs t)
    walk_lookup key = lookup_same key (walk_from greatest 1 most c 0) (pairs t) walk_lists (rising_once lowest_key key_limit key (walk_from greatest 1 most c 0) (walk_rises most))

    pub walk_length : length (walk_from greatest 1 most c 0) ≡ length (pairs t)
    walk_length = sym (count_length (walk_from greatest 1 most c 0)) ∙ walk_lists one ∙ count_length (pairs t)
