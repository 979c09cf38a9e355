-- Laws of the records: one for each branch of the code.
use mathlib.Core.Path.{◌≡◌, refl, sym, ◌∙◌}
use mathlib.Core.Bool.{true, false}
use mathlib.Core.List.{List}
use Prim.Native.Nat.{ℕ, ◌+◌, ◌-◌, ◌≤◌, ◌<◌}
use native.Mathlib.Omega.{arith}
use lib.ListN.{length, get_or, take, drop}
use lib.Dec.{eqb}
use borrow.Author.Tests.{le-leb, lt-leb, lt-ltb, le-ltb, eq-eqb, ne_eqb, eqb-true, eqb-false}
use Rattle.laws.proofs.Cases.{order, bool_cases}
use Rattle.call_record.specs.Records.{record_refusal, record_at}

module _ (block : List ℕ) (at : ℕ) where
  pub refusal_past : length block ≤ at → record_refusal block at ≡ 23
  unfolding record_refusal
  refusal_past h = rw (le-leb (length block) at h)

  module _ (inside : at < length block) (size : ℕ) (e : size ≡ get_or block at 0) where
    pub refusal_empty : size ≡ 0 → record_refusal block at ≡ 24
    unfolding record_refusal
    refusal_empty z = rw (lt-leb (length block) at inside, eq-eqb (get_or block at 0) 0 (sym e ∙ z))

    pub refusal_long : (size ≡ 0 → ⊥) → length block - at ≤ size → record_refusal block at ≡ 24
    unfolding record_refusal
    refusal_long d h = rw (lt-leb (length block) at inside, ne_eqb (get_or block at 0) 0 (λ z. d (e ∙ z)), lt-ltb (length block) (at + 1 + get_or block at 0) (omega arith))

    pub refusal_none : (size ≡ 0 → ⊥) → size < length block - at → record_refusal block at ≡ 0
    unfolding record_refusal
    refusal_none d h = rw (lt-leb (length block) at inside, ne_eqb (get_or block at 0) 0 (λ z. d (e ∙ z)), le-ltb (length block) (at + 1 + get_or block at 0) (omega arith))

-- where no refusal is due the record lies inside the block
pub record RecordInside (block : List ℕ) (at : ℕ) : Type 0 where
  pub inside : at < length block
  pub whole : at + 1 + get_or block at 0 ≤ length block

pub record_inside : (block : List ℕ) (at : ℕ) → record_refusal block at ≡ 0 → RecordInside block at
record_inside block at e =
    order at (length block)
    (λ inside. bool_cases (eqb (get_or block at 0) 0)
    (λ z. absurd (omega (arith, e, refusal_empty block at inside (get_or block at 0) refl (eqb_zero z))))
    (λ z. order (get_or block at 0) (length block - at) (λ o. record { inside = inside; whole = omega arith })
    (λ o. absurd (omega (arith, e, refusal_long block at inside (get_or block at 0) refl (λ y. not_zero y z) o)))))
    (λ h. absurd (omega (arith, e, refusal_past block at h)))
  where
    eqb_zero : eqb (get_or block at 0) 0 ≡ true → get_or block at 0 ≡ 0
    eqb_zero z = eqb-true (get_or block at 0) 0 z

    not_zero : get_or block at 0 ≡ 0 → eqb (get_or block at 0) 0 ≡ false → ⊥
    not_zero y z = eqb-false (get_or block at 0) 0 z y

-- the part of the block that a range of numbers names
pub record_part : (block : List ℕ) (at from end : ℕ) → from ≡ at + 1 → end ≡ from + get_or block at 0 → take (end - from) (drop from block) ≡ record_at block at
unfolding record_at
record_part block at from end f e =
    let n : end - from ≡ get_or block at 0 = omega arith in
    rw (n, f) refl
