-- The numbers that a change is given were free.
use mathlib.Core.Path.{◌≡◌, refl, ap, sym, ◌∙◌}
use mathlib.Core.List.{List, [], ◌∷◌}
use mathlib.Core.Bool.{Bool, true, false}
use mathlib.Core.Option.{none, some}
use mathlib.Core.Logic.{◌≢◌, by_cases}
use Prim.Native.Nat.{ℕ, zero, suc, ◌+◌, ◌≤◌, ◌<◌}
use native.Mathlib.Omega.{arith}
use native.Mathlib.Decide.{ℕ_discrete}
use lib.ListN.{length, set, get_or, length-set}
use lib.Seq.{get_or-set_same, get_or-set_other}
use Rattle.change_plan.specs.Planning.{numbers_from, take_numbers, without_all}
use Rattle.card_free.specs.NodeSet.{count_true, next_free}
use Rattle.card_free.proofs.NodeSetLaws.{next_found, next_exists, count_remove}
use Rattle.laws.proofs.Bits.{bit_true}
use Rattle.laws.specs.Totals.{indicator, total}
use Rattle.laws.proofs.Totals.{indicator_same, indicator_other}
use Rattle.std.specs.Prelude.{Option, Some}
use Rattle.laws.specs.Bits.{bit}

-- 1 where node m is free, else 0
abbrev pub free_bit : List Bool → ℕ → ℕ
free_bit free m = bit (get_or free m false)

-- one node no longer free, or free again
pub bit_removed : (free : List Bool) (m i : ℕ) → m < length free → free_bit free m ≡ 1 → free_bit (set free m false) i + indicator i m ≡ free_bit free i
bit_removed free m i h e =
    by_cases (ℕ_discrete i m)
    (λ q. rw (q, get_or-set_same free m false false h, indicator_same m) (sym e))
    (λ q. rw (get_or-set_other free m i false false q, indicator_other i m q) (omega arith))

pub bit_added : (free : List Bool) (m i : ℕ) → m < length free → free_bit free m ≡ 0 → free_bit (set free m true) i ≡ free_bit free i + indicator i m
bit_added free m i h e =
    by_cases (ℕ_discrete i m)
    (λ q. rw (q, get_or-set_same free m true false h, indicator_same m, e))
    (λ q. rw (get_or-set_other free m i true false q, indicator_other i m q) (omega arith))

-- the numbers given were free, each once
pub record Given (free : List Bool) (ms : List ℕ) : Type 0 where
  pub were_free : (i : ℕ) → total (indicator i) ms ≤ free_bit free i
  pub positive : total (indicator 0) ms ≡ 0
  pub left : (i : ℕ) → free_bit (without_all ms free) i + total (indicator i) ms ≡ free_bit free i
  pub counted : count_true (without_all ms free) + length ms ≡ count_true free
  pub kept_length : length (without_all ms free) ≡ length free

numbers_step : (k : ℕ) (free : List Bool) (last m : ℕ) → next_free free last ≡ Some m
    → take_numbers (suc k) free last ≡ elim (take_numbers k (set free m false) m) [ none ↦ none | some ms ↦ some (m ∷ ms) ]
unfolding take_numbers numbers_from
numbers_step k free last m e = ap (λ (x : Option ℕ). numbers_from x (λ m. take_numbers k (set free m false) m)) e

pub numbers_given : (k : ℕ) (free : List Bool) (last : ℕ) → get_or free 0 false ≡ false → k ≤ count_true free → (ms : List ℕ) × (take_numbers k free last ≡ some ms) × (length ms ≡ k) × Given free ms
unfolding take_numbers without_all
numbers_given zero free last z h = ([], refl, refl, record { were_free = λ i. omega arith; positive = refl; left = λ i. omega arith; counted = omega arith; kept_length = refl })
numbers_given (suc k) free last z h = go (next_exists free last z (omega arith)) (λ m. numbers_given k (set free m false) m)
  where
    go : ((m : ℕ) × (next_free free last ≡ Some m))
        → ((m : ℕ) → get_or (set free m false) 0 false ≡ false → k ≤ count_true (set free m false)
        → (ms : List ℕ) × (take_numbers k (set free m false) m ≡ some ms) × (length ms ≡ k) × Given (set free m false) ms)
        → (ms : List ℕ) × (take_numbers (suc k) free last ≡ some ms) × (length ms ≡ suc k) × Given free ms
    go (m, e) ih =
        let f = next_found free last m e in
        let d : 0 ≢ m = omega (arith, f.1) in
        let r = count_remove free m f.2 f.0 in
        let q = ih m (get_or-set_other free m 0 false false d ∙ z) (omega (arith, r, h)) in
        let b : (i : ℕ) → free_bit (set free m false) i + indicator i m ≡ free_bit free i = λ i. bit_removed free m i f.2 (bit_true (get_or free m false) f.0) in (
          m ∷ q.0,
          numbers_step k free last m e ∙ rw q.1,
          ap suc q.2,
          record {
            were_free = λ i. omega (arith, q.3.were_free i, b i);
            positive = omega (arith, q.3.positive, indicator_other 0 m d);
            left = λ i. omega (arith, q.3.left i, b i);
            counted = omega (arith, q.3.counted, r);
            kept_length = q.3.kept_length ∙ simp length-set;
          },
        )
