-- Laws of totals: sums of a weight over a list.
use mathlib.Core.Path.{◌≡◌, refl, ap, sym, ◌∙◌}
use mathlib.Core.List.{List, [], ◌∷◌, ◌++◌}
use mathlib.Core.Bool.{Bool, true, false}
use mathlib.Core.Logic.{◌≢◌, by_cases}
use Prim.Native.Nat.{ℕ, ◌+◌, ◌≤◌}
use native.Mathlib.Omega.{arith}
use native.Mathlib.Decide.{ℕ_discrete}
use lib.Dec.{eqb}
use lib.ListN.{length}
use borrow.Author.Tests.{eq-eqb, ne_eqb}
use Rattle.laws.specs.Cases.{pick}
use Rattle.laws.specs.Totals.{indicator, total}

pub indicator_same : (x : ℕ) → indicator x x ≡ 1
unfolding indicator
indicator_same x = rw (eq-eqb x x refl)

pub indicator_other : (x y : ℕ) → x ≢ y → indicator x y ≡ 0
unfolding indicator
indicator_other x y h = rw (ne_eqb x y h)

pub indicator_zero : (x y : ℕ) → indicator x y ≡ 0 → y ≢ x
indicator_zero x y h e = omega (arith, indicator_same x, ap (indicator x) e)

pub indicator_le : (x y : ℕ) → indicator x y ≤ 1
unfolding indicator
indicator_le x y = go (eqb x y)
  where
    go : (b : Bool) → pick b 1 0 ≤ 1
    go true = omega arith
    go false = omega arith

pub indicator_sym : (i j : ℕ) → indicator i j ≡ indicator j i
indicator_sym i j = by_cases (ℕ_discrete i j) (λ e. rw e) (λ n. indicator_other i j n ∙ sym (indicator_other j i (λ e. n (sym e))))

module _ {A : Type 0} where
  pub total_append : (w : A → ℕ) (xs ys : List A) → total w (xs ++ ys) ≡ total w xs + total w ys
  total_append w [] ys = omega arith
  total_append w (x ∷ xs) ys = omega (arith, total_append w xs ys)

  pub total_length : (l : List A) → total (λ x. 1) l ≡ length l
  total_length [] = refl
  total_length (x ∷ l) = omega (arith, total_length l)

  pub total_le : (w v : A → ℕ) → ((a : A) → w a ≤ v a) → (l : List A) → total w l ≤ total v l
  total_le w v h [] = omega arith
  total_le w v h (x ∷ l) = omega (arith, h x, total_le w v h l)
