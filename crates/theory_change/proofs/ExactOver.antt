-- Free nodes over a count of the nodes that are reached, whichever trees they stand in: what `Exact` says of one tree, without a card.
use mathlib.Core.Path.{◌≡◌, refl, ap, sym, ◌∙◌}
use mathlib.Core.List.{List}
use mathlib.Core.Bool.{Bool, true, false}
use mathlib.Core.Logic.{◌⊎◌, inl, inr}
use Prim.Native.Nat.{ℕ, ◌+◌, ◌≤◌, ◌<◌}
use native.Mathlib.Omega.{arith}
use lib.ListN.{length, get_or}
use lib.Seq.{ext_get_or}
use Rattle.change_plan.specs.Planning.{without_all, with_all}
use Rattle.theory_change.proofs.Exact.{Freed, freed}
use Rattle.theory_change.proofs.Numbers.{free_bit, Given}
use Rattle.card_free.specs.NodeSet.{capacity, all_nodes, count_true}
use Rattle.card_free.proofs.NodeSetLaws.{length_all, all_zero_lem, all_get, all_above, count_all}
use Rattle.laws.specs.Bits.{bit}
use Rattle.laws.proofs.Bits.{bit_false, bit_zero}
use Rattle.laws.proofs.Cases.{order}
use Rattle.laws.specs.Totals.{indicator, total}

pub record ExactOver (n : ℕ) (free : List Bool) (count : ℕ → ℕ) : Type 0 where
  pub size : length free ≡ capacity
  pub within : (m : ℕ) → 1 ≤ m → m ≤ n → free_bit free m + count m ≡ 1
  pub outside_none : (m : ℕ) → (m ≡ 0) ⊎ (n < m) → (get_or free m false ≡ false) × (count m ≡ 0)

zero_sum : {a b : ℕ} → a ≡ 0 → b ≡ 0 → a + b ≡ 0
zero_sum p q = omega arith

module _ (n : ℕ) (free : List Bool) (count : ℕ → ℕ) (x : ExactOver n free count) where
  -- a node is free or reached, and not both
  pub over_once : (i : ℕ) → free_bit free i + count i ≤ 1
  over_once i =
      order i 1 (λ o. let z = x.outside_none i (inl (omega arith)) in omega (arith, bit_false (get_or free i false) z.0, z.1))
      (λ o. order n i (λ p. let z = x.outside_none i (inr p) in omega (arith, bit_false (get_or free i false) z.0, z.1)) (λ p. omega (arith, x.within i o p)))

  pub over_inside : (i : ℕ) → 0 < count i → (1 ≤ i) × (i ≤ n)
  over_inside i h = order i 1 (λ o. absurd (omega (arith, (x.outside_none i (inl (omega arith))).1))) (λ o. order n i (λ p. absurd (omega (arith, (x.outside_none i (inr p)).1))) (λ p. (o, p)))

  -- a change of one tree: ms were given for it, cut are cut out of it; nothing is asked of the other tree
  pub over_after : (count' : ℕ → ℕ) (ms cut : List ℕ) → n < capacity → Given free ms
      → ((i : ℕ) → count' i + total (indicator i) cut ≡ count i + total (indicator i) ms) → ((i : ℕ) → total (indicator i) cut ≤ count i)
      → ExactOver n (with_all cut (without_all ms free)) count' × (count_true (with_all cut (without_all ms free)) + length ms ≡ count_true free + length cut)
  over_after count' ms cut small g move sub =
      let f : Freed (without_all ms free) cut =
      freed cut (without_all ms free) (λ i. omega (arith, sub i, g.left i, over_once i))
      (λ i o. let b = over_inside i (omega (arith, sub i)) in (b.0, omega (arith, b.1, x.size, g.kept_length))) in (
        record {
          size = f.kept_length ∙ g.kept_length ∙ x.size;
          within = λ m a b. omega (arith, f.now m, g.left m, move m, x.within m a b);
          outside_none = λ m o. let z = x.outside_none m o in (
            bit_zero _ (omega (arith, f.now m, g.left m, sub m, z.1, bit_false (get_or free m false) z.0)),
            omega (arith, move m, sub m, z.1, g.were_free m, bit_false (get_or free m false) z.0),
          );
        },
        omega (arith, f.counted, g.counted),
      )

  -- the free nodes are N less those reached, listed in any order
  pub over_count : (ms : List ℕ) → n < capacity → ((i : ℕ) → total (indicator i) ms ≡ count i) → count_true free + length ms ≡ n
  over_count ms small listed =
      let f : Freed free ms =
      freed ms free (λ i. omega (arith, over_once i, listed i)) (λ i o. let b = over_inside i (omega (arith, listed i)) in (b.0, omega (arith, b.1, x.size))) in
      let out : (i : ℕ) → (i ≡ 0) ⊎ (n < i) → get_or (with_all ms free) i false ≡ false =
      λ i o. let z = x.outside_none i o in bit_zero (get_or (with_all ms free) i false) (f.now i ∙ zero_sum (bit_false (get_or free i false) z.0) (listed i ∙ z.1)) in
      let all : with_all ms free ≡ all_nodes n =
      ext_get_or false (with_all ms free) (all_nodes n) (f.kept_length ∙ x.size ∙ sym (length_all n small))
      (λ i h. order i 1 (λ o. let z : i ≡ 0 = omega arith in out i (inl z) ∙ sym (ap (λ (j : ℕ). get_or (all_nodes n) j false) z ∙ all_zero_lem n))
      (λ o. order n i (λ p. out i (inr p) ∙ sym (all_above n i p))
      (λ p. set_bit (get_or (with_all ms free) i false) (omega (arith, f.now i, x.within i o p, listed i)) ∙ sym (all_get n i o p small)))) in
      omega (arith, f.counted, ap count_true all, count_all n)
    where
      set_bit : (p : Bool) → bit p ≡ 1 → p ≡ true
      set_bit true e = refl
      set_bit false e = absurd (omega arith)
