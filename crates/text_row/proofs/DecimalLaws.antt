-- Laws of decimal numbers: how many digits there are, and that `io::decimal` makes them.
use mathlib.Core.Path.{◌≡◌, refl, ap, ◌∙◌}
use mathlib.Core.List.{List, [], ◌∷◌}
use Prim.Native.Nat.{ℕ, zero, suc, ◌+◌, ◌-◌, ◌/◌, ◌%◌, ◌^◌, ◌≤◌, ◌<◌}
use native.Mathlib.Nat.{pow-suc}
use native.Mathlib.Omega.{arith}
use lib.ListN.{length, take, length-append}
use borrow.Author.Tests.{lt-ltb, le-ltb}
use Rattle.io.specs.Digits.{hex_digit_ascii, last_digits, IsDigitCount}
use Rattle.laws.proofs.Cases.{order}
use Rattle.text_row.specs.Lines.{digits_from, digit_count, decimal}

-- ---- powers of ten

power_more : (k more : ℕ) → 10 ^ k ≤ 10 ^ (k + more)
power_more k zero = let e : k + 0 ≡ k = omega arith in rw e (omega arith)
power_more k (suc more) = let e : k + suc more ≡ suc (k + more) = omega arith in rw e (omega (arith, pow-suc 10 (k + more), power_more k more))

power_le : (i k : ℕ) → i ≤ k → 10 ^ i ≤ 10 ^ k
power_le i k h = let e : i + (k - i) ≡ k = omega arith in rw e at (power_more i (k - i))

power_above : (n : ℕ) → n < 10 ^ n
power_above zero = omega arith
power_above (suc n) = omega (arith, pow-suc 10 n, power_above n)

-- ---- the fewest digits

fewest_le : (n a k : ℕ) → IsDigitCount 10 1 n a → 1 ≤ k → n < 10 ^ k → a ≤ k
fewest_le n a k f h l = order k a (λ less. absurd (omega (arith, f.2 (omega arith), power_le k (a - 1) (omega arith)))) (λ not. not)

from_fewest : (more k n : ℕ) → 1 ≤ k → (1 < k → 10 ^ (k - 1) ≤ n) → n < 10 ^ (k + more) → IsDigitCount 10 1 n (digits_from more k n)
unfolding digits_from
from_fewest zero k n h low high = let e : k + 0 ≡ k = omega arith in (h, rw e at high, low)
from_fewest (suc more) k n h low high =
    order n (10 ^ k) (λ l. rw (lt-ltb n (10 ^ k) l) (h, l, low))
    (λ g. rw (le-ltb n (10 ^ k) g)
    (let e : k + suc more ≡ suc k + more = omega arith in
    let s : suc k - 1 ≡ k = omega arith in
    from_fewest more (suc k) n (omega arith) (λ x. rw s g) (rw e at high)))

-- no zero in front
pub count_fewest : (n : ℕ) → IsDigitCount 10 1 n (digit_count n)
unfolding digit_count
count_fewest n = from_fewest n 1 n (omega arith) (λ x. absurd (omega arith)) (omega (arith, power_above n, power_le n (1 + n) (omega arith)))

-- `io::decimal` makes the number's digits
pub made_decimal : (n r : ℕ) (out : List ℕ) → IsDigitCount 10 1 n r → take r out ≡ last_digits 10 r n → take r out ≡ decimal n
unfolding decimal
made_decimal n r out f e =
    let c = count_fewest n in
    let same : r ≡ digit_count n = omega (arith, fewest_le n r (digit_count n) f c.0 c.1, fewest_le n (digit_count n) r c f.0 f.1) in
    e ∙ ap (λ (k : ℕ). last_digits 10 k n) same

-- ---- how long a number is

pub length_digits : (k n : ℕ) → length (last_digits 10 k n) ≡ k
length_digits zero n = refl
length_digits (suc k) n = omega (arith, length-append (last_digits 10 k (n / 10)) (hex_digit_ascii (n % 10) ∷ []), length_digits k (n / 10))

decimal_short : (n k : ℕ) → 1 ≤ k → n < 10 ^ k → length (decimal n) ≤ k
unfolding decimal
decimal_short n k h l = omega (arith, length_digits (digit_count n) n, fewest_le n (digit_count n) k (count_fewest n) h l)

-- a number of 32 bits has at most 10 digits, one of 64 bits at most 20
pub word_short : (n : ℕ) → n < 2 ^ 32 → length (decimal n) ≤ 10
word_short n h = decimal_short n 10 (omega arith) (omega arith)

pub number_short : (n : ℕ) → n < 2 ^ 64 → length (decimal n) ≤ 20
number_short n h = decimal_short n 20 (omega arith) (omega arith)
