-- Laws of the digits of a number to a base.
use mathlib.Core.Path.{◌≡◌, refl, sym, ap, ap₂, ◌∙◌}
use mathlib.Core.Bool.{false}
use Prim.Native.Nat.{ℕ, zero, suc, ◌+◌, ◌-◌, ◌*◌, ◌/◌, ◌%◌, ◌^◌, ◌≤◌, ◌<◌, min, max, zero-le, suc-le-suc}
use native.Mathlib.Nat.{pow-suc, div-div-eq-div-mul, mul_comm, add-zero, add-suc, one-mul, le_of_suc-le-suc, not-suc-le-zero}
use native.Mathlib.Omega.{arith}
use native.Mathlib.Decide.{dec_lt}
use lib.ListN.{length, get_or}
use lib.Dec.{eqb, lit<}
use lib.Bits.{bit_and, bit_or, and_step, or_step, shifted_half, shifted_even}
use lib.Count.{count_trailing_zeros, under}
use lib.Pow.{pow_pos, pow-lt, shl_exact}
use lib.Arith.{mod-mul}
use Rattle.laws.specs.Digits.{digits_of}

-- the digit of n at place i, 0 or 1; place 0 is the lowest
unfoldable pub digit : ℕ → ℕ → ℕ
digit n zero = n % 2
digit n (suc i) = digit (n / 2) i

-- ---- the list of digits

pub length_digits : (k n : ℕ) → length (digits_of k n) ≡ k
unfolding digits_of
length_digits zero n = refl
length_digits (suc k) n = ap suc (length_digits k (n / 2))

pub digits_get : (k n i : ℕ) → i < k → get_or (digits_of k n) i false ≡ eqb (digit n i) 1
unfolding digits_of digit
digits_get zero n i h = absurd (not-suc-le-zero h)
digits_get (suc k) n zero h = refl
digits_get (suc k) n (suc i) h = digits_get k (n / 2) i (le_of_suc-le-suc h)

-- ---- one digit

-- what `(n >> i) % 2` computes
pub digit_shr : (n i : ℕ) → digit n i ≡ n / 2 ^ i % 2
unfolding digit
digit_shr n zero = ap (λ (x : ℕ). x % 2) (let h : n ≡ n / 1 = omega arith in h)
digit_shr n (suc i) =
    digit_shr (n / 2) i
    ∙ ap (λ (x : ℕ). x % 2) (div-div-eq-div-mul n 2 (2 ^ i) ∙ ap (λ (x : ℕ). n / x) (mul_comm 2 (2 ^ i) ∙ sym (pow-suc 2 i)))

pub digit_lt : (n i : ℕ) → digit n i < 2
unfolding digit
digit_lt n zero = omega arith
digit_lt n (suc i) = digit_lt (n / 2) i

pub digit_zero : (i : ℕ) → digit 0 i ≡ 0
unfolding digit
digit_zero zero = refl
digit_zero (suc i) = digit_zero i

-- a number of k digits has none from k on
pub digit_above : (k n i : ℕ) → n < 2 ^ k → k ≤ i → digit n i ≡ 0
unfolding digit
digit_above zero n i h l = ap (λ (x : ℕ). digit x i) (let z : n ≡ 0 = omega arith in z) ∙ digit_zero i
digit_above (suc k) n zero h l = let z : k < 0 = omega arith in absurd (not-suc-le-zero z)
digit_above (suc k) n (suc i) h l = digit_above k (n / 2) i (omega (arith, pow-suc 2 k)) (le_of_suc-le-suc l)

-- ---- `&` and `|`

pub digit_and : (a b i : ℕ) → digit (bit_and a b) i ≡ min (digit a i) (digit b i)
unfolding digit
digit_and a b zero = omega (arith, and_step a b)
digit_and a b (suc i) =
    let h : bit_and a b / 2 ≡ bit_and (a / 2) (b / 2) = omega (arith, and_step a b) in
    ap (λ (x : ℕ). digit x i) h ∙ digit_and (a / 2) (b / 2) i

pub digit_or : (a b i : ℕ) → digit (bit_or a b) i ≡ max (digit a i) (digit b i)
unfolding digit
digit_or a b zero = omega (arith, or_step a b)
digit_or a b (suc i) =
    let h : bit_or a b / 2 ≡ bit_or (a / 2) (b / 2) = omega (arith, or_step a b) in
    ap (λ (x : ℕ). digit x i) h ∙ digit_or (a / 2) (b / 2) i

-- ---- shifts to the left, remainders, complements

-- a number shifted left by k: nothing below k, and the number itself from k on
pub digit_shl_low : (n k i : ℕ) → i < k → digit (n * 2 ^ k) i ≡ 0
unfolding digit
digit_shl_low n zero i h = absurd (not-suc-le-zero h)
digit_shl_low n (suc k) zero h = shifted_even n k
digit_shl_low n (suc k) (suc i) h = ap (λ (x : ℕ). digit x i) (shifted_half n k) ∙ digit_shl_low n k i (le_of_suc-le-suc h)

pub digit_shl_high : (n k i : ℕ) → digit (n * 2 ^ k) (i + k) ≡ digit n i
unfolding digit
digit_shl_high n zero i = ap₂ digit (let h : n * 1 ≡ n = omega arith in h) (add-zero i)
digit_shl_high n (suc k) i = rw add-suc (ap (λ (x : ℕ). digit x (i + k)) (shifted_half n k) ∙ digit_shl_high n k i)

-- the remainder by 2 ^ (k + 1): the lowest digit, and k digits of the rest
mod_half : (n k : ℕ) → n % 2 ^ suc k ≡ (n / 2 % 2 ^ k) * 2 + n % 2
mod_half n k = ap (λ (x : ℕ). n % x) (pow-suc 2 k) ∙ mod-mul n (pow_pos k) (suc-le-suc zero-le)

-- the k low digits alone
pub digit_mod : (n k i : ℕ) → i < k → digit (n % 2 ^ k) i ≡ digit n i
unfolding digit
digit_mod n zero i h = absurd (not-suc-le-zero h)
digit_mod n (suc k) zero h = omega (arith, mod_half n k)
digit_mod n (suc k) (suc i) h =
    let e : n % 2 ^ suc k / 2 ≡ n / 2 % 2 ^ k = omega (arith, mod_half n k) in
    ap (λ (x : ℕ). digit x i) e ∙ digit_mod (n / 2) k i (le_of_suc-le-suc h)

-- the complement in k digits, `!a`
pub digit_not : (k a i : ℕ) → a < 2 ^ k → i < k → digit ((2 ^ k - 1) - a) i ≡ 1 - digit a i
unfolding digit
digit_not zero a i l h = absurd (not-suc-le-zero h)
digit_not (suc k) a zero l h = omega (arith, pow-suc 2 k, pow_pos k)
digit_not (suc k) a (suc i) l h =
    let e : ((2 ^ suc k - 1) - a) / 2 ≡ (2 ^ k - 1) - a / 2 = omega (arith, pow-suc 2 k, pow_pos k) in
    ap (λ (x : ℕ). digit x i) e ∙ digit_not k (a / 2) i (omega (arith, pow-suc 2 k)) (le_of_suc-le-suc h)

-- all k digits set: the complement of 0
pub digit_ones : (k i : ℕ) → i < k → digit (2 ^ k - 1) i ≡ 1
digit_ones k i h =
    let e : 2 ^ k - 1 ≡ (2 ^ k - 1) - 0 = omega arith in
    ap (λ (x : ℕ). digit x i) e ∙ digit_not k 0 i (pow_pos k) h ∙ ap (λ (x : ℕ). 1 - x) (digit_zero i)

-- ---- one digit set or cleared, in a word of `width` digits

half_pow : (k : ℕ) → 2 ^ suc k / 2 ≡ 2 ^ k
half_pow k = omega (arith, pow-suc 2 k)

pub digit_pow_same : (k : ℕ) → digit (2 ^ k) k ≡ 1
unfolding digit
digit_pow_same zero = refl
digit_pow_same (suc k) = ap (λ (x : ℕ). digit x k) (half_pow k) ∙ digit_pow_same k

pub digit_pow_other : (k i : ℕ) → (i ≡ k → ⊥) → digit (2 ^ k) i ≡ 0
unfolding digit
digit_pow_other zero zero p = absurd (p refl)
digit_pow_other zero (suc i) p = digit_zero i
digit_pow_other (suc k) zero p = omega (arith, pow-suc 2 k)
digit_pow_other (suc k) (suc i) p = ap (λ (x : ℕ). digit x i) (half_pow k) ∙ digit_pow_other k i (λ e. p (ap suc e))

-- `1 << k`: no digit is lost
pub one_shl : (width k : ℕ) → k < width → (1 * 2 ^ k) % 2 ^ width ≡ 2 ^ k
one_shl width k h = shl_exact 1 k width (lit< tt) (omega arith) ∙ one-mul (2 ^ k)

-- `n | (1 << k)`
pub digit_set_same : (n k : ℕ) → digit (bit_or n (2 ^ k)) k ≡ 1
digit_set_same n k = omega (arith, digit_or n (2 ^ k) k, digit_pow_same k, digit_lt n k)

pub digit_set_other : (n k i : ℕ) → (i ≡ k → ⊥) → digit (bit_or n (2 ^ k)) i ≡ digit n i
digit_set_other n k i d = omega (arith, digit_or n (2 ^ k) i, digit_pow_other k i d)

-- `n & !(1 << k)`
pub digit_clear_same : (width n k : ℕ) → k < width → digit (bit_and n ((2 ^ width - 1) - 2 ^ k)) k ≡ 0
digit_clear_same width n k h =
    omega (arith, digit_and n ((2 ^ width - 1) - 2 ^ k) k, digit_not width (2 ^ k) k (pow-lt {i = k} {j = width} h) h, digit_pow_same k)

pub digit_clear_other : (width n k i : ℕ) → n < 2 ^ width → k < width → (i ≡ k → ⊥) → digit (bit_and n ((2 ^ width - 1) - 2 ^ k)) i ≡ digit n i
digit_clear_other width n k i f h d = go (dec_lt i width)
  where
    go : Dec (i < width) → digit (bit_and n ((2 ^ width - 1) - 2 ^ k)) i ≡ digit n i
    go (yes l) =
        omega (
          arith,
          digit_and n ((2 ^ width - 1) - 2 ^ k) i,
          digit_not width (2 ^ k) i (pow-lt {i = k} {j = width} h) l,
          digit_pow_other k i d,
          digit_lt n i,
        )
    go (no l) = omega (arith, digit_and n ((2 ^ width - 1) - 2 ^ k) i, digit_above width n i f (omega arith))

-- ---- the mask `MAX << k`: nothing below k, all digits from k on

pub mask_low : (width k i : ℕ) → i < k → k < width → digit (((2 ^ width - 1) * 2 ^ k) % 2 ^ width) i ≡ 0
mask_low width k i l h = digit_mod ((2 ^ width - 1) * 2 ^ k) width i (omega arith) ∙ digit_shl_low (2 ^ width - 1) k i l

pub mask_high : (width k i : ℕ) → k ≤ i → i < width → digit (((2 ^ width - 1) * 2 ^ k) % 2 ^ width) i ≡ 1
mask_high width k i l h =
    let s : i ≡ (i - k) + k = omega arith in
    digit_mod ((2 ^ width - 1) * 2 ^ k) width i h
    ∙ ap (λ (x : ℕ). digit ((2 ^ width - 1) * 2 ^ k) x) s
    ∙ digit_shl_high (2 ^ width - 1) k (i - k)
    ∙ digit_ones width (i - k) (omega arith)

-- ---- trailing zeros: the digits below are clear, and the digit there is set

pub trailing_below : (k n i : ℕ) → i < count_trailing_zeros k n → digit n i ≡ 0
unfolding digit count_trailing_zeros
trailing_below zero n i h = absurd (not-suc-le-zero h)
trailing_below (suc k) n i h = go (λ j l. trailing_below k (n / 2) j l) (n % 2) refl i h
  where
    go : ((j : ℕ) → j < count_trailing_zeros k (n / 2) → digit (n / 2) j ≡ 0)
        → (d : ℕ) → d ≡ n % 2 → (j : ℕ) → j < under d (count_trailing_zeros k (n / 2)) → digit n j ≡ 0
    go ih zero e zero l = sym e
    go ih zero e (suc j) l = ih j (le_of_suc-le-suc l)
    go ih (suc d) e j l = absurd (not-suc-le-zero l)

pub trailing_set : (k n : ℕ) → count_trailing_zeros k n < k → digit n (count_trailing_zeros k n) ≡ 1
unfolding digit count_trailing_zeros
trailing_set zero n h = absurd (not-suc-le-zero h)
trailing_set (suc k) n h = go (λ l. trailing_set k (n / 2) l) (n % 2) refl h
  where
    go : (count_trailing_zeros k (n / 2) < k → digit (n / 2) (count_trailing_zeros k (n / 2)) ≡ 1)
        → (d : ℕ) → d ≡ n % 2 → under d (count_trailing_zeros k (n / 2)) < suc k → digit n (under d (count_trailing_zeros k (n / 2))) ≡ 1
    go ih zero e l = ih (le_of_suc-le-suc l)
    go ih (suc d) e l = omega arith

-- a number of k digits that is not 0 has a set digit among them
pub trailing_lt : (k n : ℕ) → n < 2 ^ k → (n ≡ 0 → ⊥) → count_trailing_zeros k n < k
unfolding count_trailing_zeros
trailing_lt zero n h p = absurd (p (omega arith))
trailing_lt (suc k) n h p = go (λ q. trailing_lt k (n / 2) (omega (arith, pow-suc 2 k)) q) (n % 2) refl
  where
    go : ((n / 2 ≡ 0 → ⊥) → count_trailing_zeros k (n / 2) < k) → (d : ℕ) → d ≡ n % 2 → under d (count_trailing_zeros k (n / 2)) < suc k
    go ih zero e = suc-le-suc (ih (λ z. p (omega arith)))
    go ih (suc d) e = suc-le-suc zero-le
