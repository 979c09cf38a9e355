-- A number and where it ends, told from its text: digits that end at a byte that is none are those of one number.
use mathlib.Core.Path.{◌≡◌, refl, ap, ap₂, sym, ◌∙◌}
use mathlib.Core.List.{List, [], ◌∷◌, ◌++◌}
use Prim.Native.Nat.{ℕ, zero, suc, ◌+◌, ◌/◌, ◌%◌, ◌^◌, ◌≤◌, ◌<◌}
use native.Mathlib.Nat.{pow-suc}
use native.Mathlib.Omega.{arith}
use lib.ListN.{length}
use borrow.Author.Tests.{lt-ltb}
use Rattle.io.specs.Digits.{hex_digit_ascii, last_digits}
use Rattle.text_row.specs.Lines.{digit_count, decimal}
use Rattle.text_row.proofs.DecimalLaws.{count_fewest, length_digits}

-- bytes from that of 0 on; a space and a line feed are below
abbrev Digits : List ℕ → Type 0
Digits [] = Unit {0}
Digits (byte ∷ bytes) = (48 ≤ byte) × Digits bytes

digits_append : (a b : List ℕ) → Digits a → Digits b → Digits (a ++ b)
digits_append [] b p q = q
digits_append (byte ∷ a) b p q = (p.0, digits_append a b p.1 q)

glyph_is : (d : ℕ) → d < 10 → hex_digit_ascii d ≡ 48 + d
glyph_is d h = rw (lt-ltb d 10 h)

digits_all : (k n : ℕ) → Digits (last_digits 10 k n)
digits_all zero n = tt
digits_all (suc k) n = digits_append (last_digits 10 k (n / 10)) (hex_digit_ascii (n % 10) ∷ []) (digits_all k (n / 10)) (omega (arith, glyph_is (n % 10) (omega arith)), tt)

-- two texts that begin with digits and then have the same byte that is none
cut : (mark : ℕ) → mark < 48 → (a b x y : List ℕ) → Digits a → Digits b → a ++ (mark ∷ x) ≡ b ++ (mark ∷ y) → (a ≡ b) × (x ≡ y)
cut mark h [] [] x y p q e = let t : x ≡ y = cc in (refl, t)
cut mark h [] (d ∷ b) x y p q e = let z : mark ≡ d = cc in absurd (omega (arith, q.0))
cut mark h (d ∷ a) [] x y p q e = let z : d ≡ mark = cc in absurd (omega (arith, p.0))
cut mark h (c ∷ a) (d ∷ b) x y p q e =
    let z : c ≡ d = cc in
    let t : a ++ (mark ∷ x) ≡ b ++ (mark ∷ y) = cc in
    let r = cut mark h a b x y p.1 q.1 t in
    (ap₂ (λ (byte : ℕ) (bytes : List ℕ). byte ∷ bytes) z r.0, r.1)

last_same : (a b : List ℕ) (x y : ℕ) → length a ≡ length b → a ++ (x ∷ []) ≡ b ++ (y ∷ []) → (a ≡ b) × (x ≡ y)
last_same [] [] x y l e = let z : x ≡ y = cc in (refl, z)
last_same [] (d ∷ b) x y l e = absurd (omega arith)
last_same (c ∷ a) [] x y l e = absurd (omega arith)
last_same (c ∷ a) (d ∷ b) x y l e =
    let z : c ≡ d = cc in
    let t : a ++ (x ∷ []) ≡ b ++ (y ∷ []) = cc in
    let r = last_same a b x y (omega arith) t in
    (ap₂ (λ (byte : ℕ) (bytes : List ℕ). byte ∷ bytes) z r.0, r.1)

digits_same : (k m n : ℕ) → m < 10 ^ k → n < 10 ^ k → last_digits 10 k m ≡ last_digits 10 k n → m ≡ n
digits_same zero m n p q e = omega arith
digits_same (suc k) m n p q e =
    let r = last_same (last_digits 10 k (m / 10)) (last_digits 10 k (n / 10)) (hex_digit_ascii (m % 10)) (hex_digit_ascii (n % 10)) (length_digits k (m / 10) ∙ sym (length_digits k (n / 10))) e in
    let high : m / 10 ≡ n / 10 = digits_same k (m / 10) (n / 10) (omega (arith, pow-suc 10 k)) (omega (arith, pow-suc 10 k)) r.0 in
    let low : 48 + m % 10 ≡ 48 + n % 10 = sym (glyph_is (m % 10) (omega arith)) ∙ r.1 ∙ glyph_is (n % 10) (omega arith) in
    omega arith

decimal_same : (m n : ℕ) → decimal m ≡ decimal n → m ≡ n
unfolding decimal
decimal_same m n e =
    let k : digit_count m ≡ digit_count n = sym (length_digits (digit_count m) m) ∙ ap length e ∙ length_digits (digit_count n) n in
    digits_same (digit_count n) m n (rw k at (count_fewest m).1) (count_fewest n).1 (rw k at e)

-- a number, a byte that is no digit, and the rest
pub number_told : (mark : ℕ) → mark < 48 → (m n : ℕ) (x y : List ℕ) → decimal m ++ (mark ∷ x) ≡ decimal n ++ (mark ∷ y) → (m ≡ n) × (x ≡ y)
unfolding decimal
number_told mark h m n x y e =
    let r = cut mark h (decimal m) (decimal n) x y (digits_all (digit_count m) m) (digits_all (digit_count n) n) e in
    (decimal_same m n r.0, r.1)
