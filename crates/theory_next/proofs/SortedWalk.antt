-- A walk of the whole table is the table's pairs sorted by key: two lists of the same pairs, both rising, are one.
use mathlib.Core.Path.{◌≡◌, refl, ap, ap₂, sym, ◌∙◌}
use mathlib.Core.List.{List, [], ◌∷◌}
use mathlib.Core.Option.{some-injective}
use Prim.Native.Nat.{ℕ, suc, ◌≤◌}
use native.Mathlib.Omega.{arith}
use lib.ListN.{length}
use Rattle.card.specs.Header.{card_refusal}
use Rattle.card.specs.Layout.{lowest_key, key_limit}
use Rattle.laws.proofs.Cases.{order}
use Rattle.laws.specs.Sorting.{Pairs, sort}
use Rattle.laws.proofs.Sorting.{total_sort}
use Rattle.laws.proofs.Totals.{indicator_same}
use Rattle.laws.specs.Totals.{total}
use Rattle.theory_check.proofs.Ranges.{well_formed_in_range}
use Rattle.walk_next.specs.Successor.{walk_from}
use Rattle.theory_next.proofs.Lookups.{lookup_head}
use Rattle.theory_next.proofs.Walk.{walk_rises, walk_lists}
use Rattle.theory_tree.proofs.Lookup.{key_once, lookup_same}
use Rattle.theory_tree.specs.Pairs.{pairs, lookup, has_key, outside, LeafRange}
use Rattle.theory_tree.proofs.Sorted.{Rising, rising_sort, rising_inside, rising_below, rising_once}
use Rattle.theory_tree.specs.Tree.{Tree}
use Rattle.theory_tree.specs.WellFormed.{WellFormed}

-- ---- rising lists

abbrev Same : Pairs → Pairs → Type 0
Same a b = (w : ℕ × ℕ → ℕ) → total w a ≡ total w b

-- the first key of a rising list is no greater than that of any list with the same pairs
head_le : (lo hi : ℕ) (p q : ℕ × ℕ) (a b : Pairs) → Rising lo hi (q ∷ b) → Same (p ∷ a) (q ∷ b) → q.0 ≤ p.0
head_le lo hi p q a b r s =
    order p.0 q.0
    (λ o. absurd (omega (arith, s (has_key p.0), indicator_same p.0, rising_below q.0 hi p.0 (q ∷ b) o (omega arith, r.1))))
    (λ o. o)

pub rising_same : (lo hi lo' hi' : ℕ) (a b : Pairs) → Rising lo hi a → Rising lo' hi' b → Same a b → a ≡ b
rising_same lo hi lo' hi' [] [] r r' s = refl
rising_same lo hi lo' hi' [] (q ∷ b) r r' s = absurd (omega (arith, s (λ p. 1)))
rising_same lo hi lo' hi' (p ∷ a) [] r r' s = absurd (omega (arith, s (λ p. 1)))
rising_same lo hi lo' hi' (p ∷ a) (q ∷ b) r r' s =
    let key : p.0 ≡ q.0 = omega (arith, head_le lo' hi' p q a b r' s, head_le lo hi q p b a r (λ w. sym (s w))) in
    let found = sym (lookup_head p a) ∙ lookup_same p.0 (p ∷ a) (q ∷ b) s (rising_once lo hi p.0 (p ∷ a) r) ∙ ap (λ (x : ℕ). lookup x (q ∷ b)) key ∙ lookup_head q b in
    let pair : p ≡ q = ap₂ (λ (x y : ℕ). (x, y)) key (some-injective p.1 q.1 found) in
    ap₂ (λ (x : ℕ × ℕ) (l : Pairs). x ∷ l) pair (rising_same (suc p.0) hi (suc q.0) hi' a b r.1 r'.1 (λ w. omega (arith, s w, ap w pair)))

-- ---- the table

module _ (greatest : ℕ) (c : List ℕ) (t : Tree) (w : WellFormed c t) (e : card_refusal greatest c ≡ 0) (most : ℕ) (enough : length (pairs t) ≤ most) where
  -- all keys of the walk are in the range of all keys, so those of the table are
  all_in_range : LeafRange lowest_key key_limit (pairs t)
  all_in_range =
      record {
        inside = sym (walk_lists greatest c t w e most enough (outside lowest_key key_limit)) ∙ rising_inside lowest_key key_limit (walk_from greatest 1 most c 0) (walk_rises greatest c t w e most);
        once = λ k. key_once lowest_key key_limit k t (well_formed_in_range w);
      }

  pub walk_sorted : walk_from greatest 1 most c 0 ≡ sort (pairs t)
  walk_sorted =
      rising_same lowest_key key_limit lowest_key key_limit (walk_from greatest 1 most c 0) (sort (pairs t)) (walk_rises greatest c t w e most)
      (rising_sort lowest_key key_limit (pairs t) (omega arith) all_in_range)
      (λ v. walk_lists greatest c t w e most enough v ∙ sym (total_sort v (pairs t)))
