-- Pairs by rising key, and the leaves that hold them.
use mathlib.Core.Path.{◌≡◌, refl, ◌∙◌}
use mathlib.Core.List.{List, [], ◌∷◌}
use mathlib.Core.Logic.{by_cases}
use Prim.Native.Nat.{ℕ, zero, suc, ◌≤◌, ◌<◌}
use native.Mathlib.Omega.{arith}
use native.Mathlib.Decide.{ℕ_discrete}
use lib.ListN.{length, take, drop, replicate}
use lib.Dec.{ltb}
use borrow.Author.Tests.{ltb-true, ltb-false, lt-ltb, le-ltb}
use Rattle.card.specs.Layout.{slot_pairs}
use Rattle.laws.proofs.Cases.{bool_cases, order}
use Rattle.laws.specs.Sorting.{Pairs, insert_pair, sort, key_at}
use Rattle.laws.proofs.Sorting.{insert_pair_step, sort_nil, sort_cons, total_sort}
use Rattle.laws.proofs.Totals.{indicator_same, indicator_other, indicator_zero, indicator_le, total_le}
use Rattle.laws.specs.Totals.{total}
use Rattle.theory_tree.specs.Pairs.{has_key, outside, LeafRange}

-- the test of a range, in and out
pub outside_none : (lo hi : ℕ) (p : ℕ × ℕ) → lo ≤ p.0 → p.0 < hi → outside lo hi p ≡ 0
outside_none lo hi p l h = rw (le-ltb p.0 lo l, lt-ltb p.0 hi h)

pub outside_zero : (lo hi : ℕ) (p : ℕ × ℕ) → outside lo hi p ≡ 0 → (lo ≤ p.0) × (p.0 < hi)
outside_zero lo hi p e =
    order p.0 lo (λ o. let z : ◌≡◌ {A = ℕ} 1 0 = rw (lt-ltb p.0 lo o) at e in absurd (omega arith))
    (λ o. order p.0 hi (λ o'. (o, o')) (λ o'. let z : ◌≡◌ {A = ℕ} 1 0 = rw (le-ltb p.0 lo o, le-ltb p.0 hi o') at e in absurd (omega arith)))

pub outside_le : (lo lo' hi : ℕ) → lo ≤ lo' → (p : ℕ × ℕ) → outside lo hi p ≤ outside lo' hi p
outside_le lo lo' hi h p =
    order p.0 lo' (λ o. rw (lt-ltb p.0 lo' o) (outside_one lo hi p))
    (λ o. rw (le-ltb p.0 lo' o, le-ltb p.0 lo (omega arith)) (omega arith))
  where
    outside_one : (lo hi : ℕ) (p : ℕ × ℕ) → outside lo hi p ≤ 1
    outside_one lo hi p =
        bool_cases (ltb p.0 lo) (λ e. rw e (omega arith)) (λ e. bool_cases (ltb p.0 hi) (λ e'. rw (e, e') (omega arith)) (λ e'. rw (e, e') (omega arith)))

-- rising strictly from lo on, below hi
abbrev pub Rising : ℕ → ℕ → Pairs → Type 0
Rising lo hi [] = lo ≤ hi
Rising lo hi (p ∷ l) = (lo ≤ p.0) × Rising (suc p.0) hi l

pub rising_insert : (lo hi : ℕ) (p : ℕ × ℕ) (l : Pairs) → lo ≤ p.0 → p.0 < hi → total (has_key p.0) l ≡ 0 → Rising lo hi l → Rising lo hi (insert_pair p l)
unfolding insert_pair
rising_insert lo hi p [] h g n u = (h, g)
rising_insert lo hi p (q ∷ l) h g n u =
    bool_cases (ltb p.0 q.0)
    (λ e. rw (insert_pair_step, e) (h, (ltb-true _ _ e, u.1)))
    (λ e. let o = ltb-false p.0 q.0 e in
    let d = indicator_zero p.0 q.0 (omega arith) in
    rw (insert_pair_step, e) (u.0, rising_insert (suc q.0) hi p l (omega arith) g (omega arith) u.1))

pub rising_sort : (lo hi : ℕ) (l : Pairs) → lo ≤ hi → LeafRange lo hi l → Rising lo hi (sort l)
rising_sort lo hi [] h i = rw sort_nil h
rising_sort lo hi (p ∷ l) h i =
    let o = outside_zero lo hi p (omega (arith, i.inside)) in
    rw (sort_cons p l)
    (rising_insert lo hi p (sort l) o.0 o.1 (total_sort (has_key p.0) l ∙ omega (arith, i.once p.0, indicator_same p.0))
    (rising_sort lo hi l h (record { inside = omega (arith, i.inside); once = λ k. omega (arith, i.once k) })))

-- the n first and the others, around the key of the first other
pub rising_cut : (lo hi n : ℕ) (l : Pairs) → Rising lo hi l → n < length l → Rising lo (key_at n l) (take n l) × Rising (key_at n l) hi (drop n l)
rising_cut lo hi n [] u h = absurd (omega arith)
rising_cut lo hi zero (p ∷ l) u h = (u.0, (omega arith, u.1))
rising_cut lo hi (suc n) (p ∷ l) u h = let r = rising_cut (suc p.0) hi n l u.1 (omega arith) in ((u.0, r.0), r.1)

pub rising_le : (lo hi : ℕ) (l : Pairs) → Rising lo hi l → lo ≤ hi
rising_le lo hi [] u = u
rising_le lo hi (p ∷ l) u = omega (arith, rising_le (suc p.0) hi l u.1, u.0)

-- a rising list is a leaf's
pub rising_inside : (lo hi : ℕ) (l : Pairs) → Rising lo hi l → total (outside lo hi) l ≡ 0
rising_inside lo hi [] u = refl
rising_inside lo hi (p ∷ l) u =
    omega (
      arith,
      outside_none lo hi p u.0 (rising_le _ _ l u.1),
      rising_inside (suc p.0) hi l u.1,
      total_le (outside lo hi) (outside (suc p.0) hi) (outside_le lo (suc p.0) hi (omega (arith, u.0))) l,
    )

pub rising_below : (lo hi k : ℕ) (l : Pairs) → k < lo → Rising lo hi l → total (has_key k) l ≡ 0
rising_below lo hi k [] h u = refl
rising_below lo hi k (p ∷ l) h u = omega (arith, indicator_other k p.0 (omega (arith, u.0)), rising_below (suc p.0) hi k l (omega (arith, u.0)) u.1)

pub rising_once : (lo hi k : ℕ) (l : Pairs) → Rising lo hi l → total (has_key k) l ≤ 1
rising_once lo hi k [] u = omega arith
rising_once lo hi k (p ∷ l) u =
    by_cases (ℕ_discrete k p.0)
    (λ e. omega (arith, indicator_le k p.0, rising_below (suc p.0) hi k l (omega arith) u.1))
    (λ n. omega (arith, indicator_other k p.0 n, rising_once (suc p.0) hi k l u.1))

pub rising_leaf : (lo hi : ℕ) (l : Pairs) → Rising lo hi l → LeafRange lo hi l
rising_leaf lo hi l u = record { inside = rising_inside lo hi l u; once = λ k. rising_once lo hi k l u }

pub slot_pairs_zeros : (n m : ℕ) (vs : List ℕ) → slot_pairs (replicate n 0) vs ≡ []
slot_pairs_zeros zero m vs = refl
slot_pairs_zeros (suc n) m [] = refl
slot_pairs_zeros (suc n) m (v ∷ vs) = slot_pairs_zeros n m vs

pub slot_pairs_cons : (k v : ℕ) (ks vs : List ℕ) → 0 < k → slot_pairs (k ∷ ks) (v ∷ vs) ≡ (k, v) ∷ slot_pairs ks vs
slot_pairs_cons zero v ks vs h = absurd (omega arith)
slot_pairs_cons (suc k) v ks vs h = refl
