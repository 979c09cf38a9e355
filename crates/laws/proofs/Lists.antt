-- Laws of lists of words.
use mathlib.Core.Path.{◌≡◌, refl, ap, sym, ◌∙◌}
use mathlib.Core.List.{List, [], ◌∷◌, ◌++◌}
use mathlib.Core.Bool.{true}
use Prim.Native.Nat.{ℕ, zero, suc, ◌+◌, ◌-◌, ◌≤◌, ◌<◌}
use native.Mathlib.Omega.{arith}
use lib.ListN.{length, get_or, take, drop, replicate, length-append, length-replicate, get_or-replicate, get_or-append, get_or-eq_default}
use lib.Seq.{get_or-append-add}
use lib.Dec.{eqb}
use borrow.Author.Tests.{eqb-true}
use Rattle.laws.proofs.Cases.{order, and_true}
use Rattle.laws.specs.Totals.{indicator, total}
use Rattle.laws.proofs.Totals.{indicator_same}
use Rattle.laws.specs.Lists.{pad, before_zero, all_zero, zero_after}

-- an element of an append, by an index that is known as a number
pub get_d_left : (xs ys : List ℕ) (n i : ℕ) → length xs ≡ n → i < n → get_or (xs ++ ys) i 0 ≡ get_or xs i 0
get_d_left xs ys n i e h = get_or-append xs ys 0 i (omega arith)

pub get_d_right : (xs ys : List ℕ) (n i j : ℕ) → length xs ≡ n → i ≡ n + j → get_or (xs ++ ys) i 0 ≡ get_or ys j 0
get_d_right xs ys n i j e h = ap (λ (a : ℕ). get_or (xs ++ ys) a 0) (omega arith) ∙ get_or-append-add xs ys j 0

pub length_pad : (n : ℕ) (l : List ℕ) → length l ≤ n → length (pad n l) ≡ n
length_pad n l h = simp (length-append, length-replicate) (omega arith)

pub get_d_pad : (n : ℕ) (l : List ℕ) (i : ℕ) → i < n → get_or (pad n l) i 0 ≡ get_or l i 0
get_d_pad n l i h =
    order i (length l) (λ o. get_or-append l _ 0 i o)
    (λ o. get_d_right l _ (length l) i (i - length l) refl (omega arith) ∙ get_or-replicate (n - length l) (i - length l) 0 0 (omega arith) ∙ sym (get_or-eq_default l 0 o))

pub before_zero_length : (l : List ℕ) → length (before_zero l) ≤ length l
before_zero_length [] = omega arith
before_zero_length (zero ∷ l) = omega arith
before_zero_length (suc x ∷ l) = omega (arith, before_zero_length l)

pub before_zero_take : (l : List ℕ) → take (length (before_zero l)) l ≡ before_zero l
before_zero_take [] = refl
before_zero_take (zero ∷ l) = refl
before_zero_take (suc x ∷ l) = ap (λ (r : List ℕ). suc x ∷ r) (before_zero_take l)

pub before_zero_pad : (l : List ℕ) (n : ℕ) → total (indicator 0) l ≡ 0 → before_zero (l ++ replicate n 0) ≡ l
before_zero_pad [] zero h = refl
before_zero_pad [] (suc n) h = refl
before_zero_pad (zero ∷ l) n h = absurd (omega (arith, indicator_same 0))
before_zero_pad (suc x ∷ l) n h = ap (λ (r : List ℕ). suc x ∷ r) (before_zero_pad l n (omega arith))

pub get_d_all_zero : (l : List ℕ) (j : ℕ) → all_zero l ≡ true → get_or l j 0 ≡ 0
get_d_all_zero [] j e = refl
get_d_all_zero (x ∷ l) zero e = eqb-true x 0 (and_true (eqb x 0) (all_zero l) e).0
get_d_all_zero (x ∷ l) (suc j) e = get_d_all_zero l j (and_true (eqb x 0) (all_zero l) e).1

pub get_d_zero_after : (n : ℕ) (l : List ℕ) (j : ℕ) → zero_after n l ≡ true → get_or l j 0 ≡ get_or (take n l) j 0
get_d_zero_after zero l j e = get_d_all_zero l j e
get_d_zero_after (suc n) [] j e = refl
get_d_zero_after (suc n) (x ∷ l) zero e = refl
get_d_zero_after (suc n) (x ∷ l) (suc j) e = get_d_zero_after n l j e

pub all_zero_replicate : (n : ℕ) → all_zero (replicate n 0) ≡ true
all_zero_replicate zero = refl
all_zero_replicate (suc n) = all_zero_replicate n

pub zero_after_pad : (l : List ℕ) (k n : ℕ) → length l ≡ k → zero_after k (l ++ replicate n 0) ≡ true
zero_after_pad [] zero n e = all_zero_replicate n
zero_after_pad [] (suc k) n e = absurd (omega arith)
zero_after_pad (x ∷ l) zero n e = absurd (omega arith)
zero_after_pad (x ∷ l) (suc k) n e = zero_after_pad l k n (omega arith)

-- what follows the element at a seam
pub drop_past : {A : Type 0} (xs : List A) (y : A) (ys : List A) (n : ℕ) → length xs ≡ n → drop (suc n) (xs ++ y ∷ ys) ≡ ys
drop_past [] y ys zero e = refl
drop_past [] y ys (suc n) e = absurd (omega arith)
drop_past (x ∷ xs) y ys zero e = absurd (omega arith)
drop_past (x ∷ xs) y ys (suc n) e = drop_past xs y ys n (omega arith)
