-- The test of a leaf's key words says the same as the definition over its pairs: each key once, all in the range.
use mathlib.Core.Path.{◌≡◌, refl, sym}
use mathlib.Core.List.{List, [], ◌∷◌}
use mathlib.Core.Bool.{Bool, true, false, ◌&&◌, ◌||◌, not}
use mathlib.Core.Logic.{by_cases}
use Prim.Native.Nat.{ℕ, zero, suc, ◌≤◌, ◌<◌}
use native.Mathlib.Omega.{arith}
use native.Mathlib.Decide.{ℕ_discrete}
use lib.ListN.{length}
use lib.Dec.{ltb, leb, eqb}
use borrow.Author.Tests.{ltb-true, lt-ltb, leb-true, le-leb, eqb-false, ne_eqb, not-true}
use Rattle.card.specs.Layout.{slot_pairs}
use Rattle.laws.proofs.Cases.{and_true, impossible}
use Rattle.laws.proofs.Totals.{indicator_same, indicator_other, indicator_zero, indicator_le}
use Rattle.laws.specs.Totals.{total}
use Rattle.card_check.specs.Check.{member, leaf_sound, slot_sound}
use Rattle.theory_tree.specs.Pairs.{has_key, LeafRange}
use Rattle.theory_tree.proofs.Sorted.{outside_none, outside_zero}

-- a key that is none of the words is the key of no pair, and conversely
pub member_none : (k : ℕ) (ks vs : List ℕ) → member k ks ≡ false → total (has_key k) (slot_pairs ks vs) ≡ 0
unfolding member
member_none k [] vs e = refl
member_none k (x ∷ ks) [] e = refl
member_none k (x ∷ ks) (v ∷ vs) e = let o = or_false (eqb x k) (member k ks) e in go x o.0 (member_none k ks vs o.1)
  where
    or_false : (a b : Bool) → (a || b) ≡ false → (a ≡ false) × (b ≡ false)
    or_false true b e = impossible (cc)
    or_false false b e = (refl, e)

    go : (x : ℕ) → eqb x k ≡ false → total (has_key k) (slot_pairs ks vs) ≡ 0 → total (has_key k) (slot_pairs (x ∷ ks) (v ∷ vs)) ≡ 0
    go zero o h = h
    go (suc x) o h = omega (arith, indicator_other k (suc x) (λ q. eqb-false (suc x) k o (sym q)))

pub none_member : (k : ℕ) (ks vs : List ℕ) → 0 < k → length ks ≡ length vs → total (has_key k) (slot_pairs ks vs) ≡ 0 → member k ks ≡ false
unfolding member
none_member k [] vs p n e = refl
none_member k (x ∷ ks) [] p n e = absurd (omega arith)
none_member k (zero ∷ ks) (v ∷ vs) p n e = rw (ne_eqb 0 k (omega arith)) (none_member k ks vs p (omega arith) e)
none_member k (suc x ∷ ks) (v ∷ vs) p n e = rw (ne_eqb (suc x) k (indicator_zero k (suc x) (omega arith))) (none_member k ks vs p (omega arith) (omega arith))

module _ (low high : ℕ) where
  leaf_more : (k v : ℕ) (ks vs : List ℕ) → low ≤ k → k < high → member k ks ≡ false → LeafRange low high (slot_pairs ks vs) → LeafRange low high ((k, v) ∷ slot_pairs ks vs)
  leaf_more k v ks vs a b c r =
      record {
        inside = omega (arith, outside_none low high (k, v) a b, r.inside);
        once = λ j. by_cases (ℕ_discrete j k) (λ e. omega (arith, indicator_le j k, member_none j ks vs (rw e c))) (λ d. omega (arith, indicator_other j k d, r.once j));
      }

  pub leaf_range : (ks vs : List ℕ) → leaf_sound low high ks ≡ true → LeafRange low high (slot_pairs ks vs)
  unfolding leaf_sound slot_sound
  leaf_range [] vs e = record { inside = refl; once = λ k. omega arith }
  leaf_range (k ∷ ks) [] e = record { inside = refl; once = λ k. omega arith }
  leaf_range (zero ∷ ks) (v ∷ vs) e = leaf_range ks vs e
  leaf_range (suc k ∷ ks) (v ∷ vs) e =
      let s = and_true (slot_sound low high (suc k) ks) (leaf_sound low high ks) e in
      let a = and_true (leb low (suc k)) (ltb (suc k) high && not (member (suc k) ks)) (rw (ne_eqb (suc k) 0 (omega arith)) at s.0) in
      let b = and_true (ltb (suc k) high) (not (member (suc k) ks)) a.1 in
      leaf_more (suc k) v ks vs (leb-true low (suc k) a.0) (ltb-true (suc k) high b.0) (not-true (member (suc k) ks) b.1) (leaf_range ks vs s.1)

  pub leaf_passes : (ks vs : List ℕ) → length ks ≡ length vs → LeafRange low high (slot_pairs ks vs) → leaf_sound low high ks ≡ true
  unfolding leaf_sound slot_sound
  leaf_passes [] vs n r = refl
  leaf_passes (k ∷ ks) [] n r = absurd (omega arith)
  leaf_passes (zero ∷ ks) (v ∷ vs) n r = leaf_passes ks vs (omega arith) r
  leaf_passes (suc k ∷ ks) (v ∷ vs) n r =
      let o = outside_zero low high (suc k, v) (omega (arith, r.inside)) in
      let z = none_member (suc k) ks vs (omega arith) (omega arith) (omega (arith, r.once (suc k), indicator_same (suc k))) in
      let rest : LeafRange low high (slot_pairs ks vs) = record { inside = omega (arith, r.inside); once = λ j. omega (arith, r.once j) } in
      rw (ne_eqb (suc k) 0 (omega arith), le-leb low (suc k) o.0, lt-ltb (suc k) high o.1, z) (leaf_passes ks vs (omega arith) rest)
