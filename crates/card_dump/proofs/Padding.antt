-- Laws of eight bytes read as one number: it is 0 exactly when all eight are.
use mathlib.Core.Path.{◌≡◌, refl, ap, ap₂, sym, ◌∙◌}
use mathlib.Core.Bool.{Bool, true, false, ◌&&◌}
use mathlib.Core.List.{List, [], ◌∷◌}
use mathlib.Core.Logic.{◌↔◌}
use Prim.Native.Nat.{ℕ, zero, suc, ◌+◌, ◌-◌, ◌*◌, ◌/◌, ◌%◌, ◌≤◌, ◌<◌}
use native.Mathlib.Omega.{arith}
use lib.ListN.{length, get_or, take, drop, drop_of_length-le, length-drop}
use lib.Dec.{eqb}
use borrow.Author.Tests.{ne_eqb, eqb-true, eqb-false}
use Rattle.std.specs.Simd.{first_chunks}
use lib.Seq.{drop-cons, drop-drop, get_or-drop, get_or-take}
use Rattle.laws.proofs.Cases.{bool_cases, order}
use Rattle.laws.specs.Lists.{all_zero}
use Rattle.laws.proofs.Lists.{get_d_all_zero}
use Rattle.card_dump.proofs.ByteLaws.{zero_here}
use Rattle.card_dump.specs.Dump.{padded_length, word_at, words_for}
use Rattle.card_dump.specs.Padding.{eight_at}

-- all eight are 0
abbrev pub EightZero : List ℕ → ℕ → Type 0
EightZero dump k = (i : ℕ) → i < 8 → get_or dump (8 * k + i) 0 ≡ 0

-- the same byte, its number written in another way
byte_is : (dump : List ℕ) (i j : ℕ) → i ≡ j → get_or dump i 0 ≡ get_or dump j 0
byte_is dump i j = ap (λ (a : ℕ). get_or dump a 0)

module _ (dump : List ℕ) (i : ℕ) where
  of_word_zero : word_at dump i ≡ 0 → (j : ℕ) → j < 4 → get_or dump (4 * i + j) 0 ≡ 0
  unfolding word_at
  of_word_zero e zero h = byte_is dump (4 * i + 0) (4 * i) (omega arith) ∙ omega arith
  of_word_zero e (suc zero) h = omega arith
  of_word_zero e (suc (suc zero)) h = omega arith
  of_word_zero e (suc (suc (suc zero))) h = omega arith
  of_word_zero e (suc (suc (suc (suc j)))) h = absurd (omega arith)

  word_zero : ((j : ℕ) → j < 4 → get_or dump (4 * i + j) 0 ≡ 0) → word_at dump i ≡ 0
  unfolding word_at
  word_zero f = omega (arith, byte_is dump (4 * i) (4 * i + 0) (omega arith), f 0 (omega arith), f 1 (omega arith), f 2 (omega arith), f 3 (omega arith))

module _ (dump : List ℕ) (k : ℕ) where
  bytes_zero : eight_at dump k ≡ 0 → EightZero dump k
  bytes_zero e i h =
      order i 4 (λ low. byte_is dump (8 * k + i) (4 * (2 * k) + i) (omega arith) ∙ of_word_zero dump (2 * k) (omega arith) i low)
      (λ high. byte_is dump (8 * k + i) (4 * (2 * k + 1) + (i - 4)) (omega arith) ∙ of_word_zero dump (2 * k + 1) (omega arith) (i - 4) (omega arith))

  number_zero : EightZero dump k → eight_at dump k ≡ 0
  number_zero f =
      omega (
        arith,
        word_zero dump (2 * k) (λ j h. byte_is dump (4 * (2 * k) + j) (8 * k + j) (omega arith) ∙ f j (omega arith)),
        word_zero dump (2 * k + 1) (λ j h. byte_is dump (4 * (2 * k + 1) + j) (8 * k + (4 + j)) (omega arith) ∙ f (4 + j) (omega arith)),
      )

  -- "0 exactly when all eight are"
  pub eight_exactly : (eight_at dump k ≡ 0) ↔ EightZero dump k
  eight_exactly = (bytes_zero, number_zero)

-- bytes that are 0 are passed by
zeros_on : (dump : List ℕ) (at n : ℕ) → at + n ≤ length dump → ((i : ℕ) → i < n → get_or dump (at + i) 0 ≡ 0) → all_zero (drop at dump) ≡ all_zero (drop (at + n) dump)
zeros_on dump at zero h f = ap (λ (i : ℕ). all_zero (drop i dump)) (let z : at ≡ at + 0 = omega arith in z)
zeros_on dump at (suc n) h f =
    zeros_on dump at n (omega arith) (λ i l. f i (omega arith))
    ∙ zero_here dump (at + n) (omega arith) (f n (omega arith))
    ∙ ap (λ (i : ℕ). all_zero (drop i dump)) (let z : at + n + 1 ≡ at + suc n = omega arith in z)

module _ (dump : List ℕ) (k : ℕ) (room : 8 * k + 8 ≤ length dump) where
  -- eight bytes that are 0 decide nothing
  pub eight_passed : eight_at dump k ≡ 0 → all_zero (drop (8 * k) dump) ≡ all_zero (drop (8 * (k + 1)) dump)
  eight_passed e = zeros_on dump (8 * k) 8 room (bytes_zero dump k e) ∙ ap (λ (i : ℕ). all_zero (drop i dump)) (let z : 8 * k + 8 ≡ 8 * (k + 1) = omega arith in z)

  -- a byte among eight that is not 0 decides
  pub eight_found : (eight_at dump k ≡ 0 → ⊥) → all_zero (drop (8 * k) dump) ≡ false
  eight_found d = bool_cases (all_zero (drop (8 * k) dump)) (λ t. absurd (d (number_zero dump k (λ i h. sym (get_or-drop (8 * k) dump i 0) ∙ get_d_all_zero (drop (8 * k) dump) i t)))) (λ f. f)

-- "its length is always a multiple of 32": a card has 8 + 24 × N words, so its bytes and the dump's are both such a multiple
pub padding_eights : (n : ℕ) → (padded_length (words_for n) - 4 * words_for n) % 32 ≡ 0
unfolding padded_length
padding_eights n = omega arith

-- whether each eight bytes are 0, as that number
abbrev pub zero_eights : List (List ℕ) → Bool
zero_eights [] = true
zero_eights (bytes ∷ more) = eqb (eight_at bytes 0) 0 && zero_eights more

-- eight bytes are the first eight of any that begin with them
eight_first : (bytes : List ℕ) → eight_at (take 8 bytes) 0 ≡ eight_at bytes 0
unfolding word_at
eight_first bytes =
    let at : (i : ℕ) → i < 8 → get_or (take 8 bytes) i 0 ≡ get_or bytes i 0 = λ i h. rw get_or-take refl in
    omega (
      arith,
      at 0 (omega arith),
      at 1 (omega arith),
      at 2 (omega arith),
      at 3 (omega arith),
      at 4 (omega arith),
      at 5 (omega arith),
      at 6 (omega arith),
      at 7 (omega arith),
    )

-- those from an eight on
eights_from : (n k : ℕ) (bytes : List ℕ) → drop k (first_chunks 8 n bytes) ≡ first_chunks 8 (n - k) (drop (8 * k) bytes)
eights_from n zero bytes = ap (λ (m : ℕ). first_chunks 8 m bytes) (let z : n ≡ n - 0 = omega arith in z)
eights_from zero (suc k) bytes = ap (λ (m : ℕ). first_chunks 8 m (drop (8 * suc k) bytes)) (let z : 0 ≡ 0 - suc k = omega arith in z)
eights_from (suc n) (suc k) bytes =
    eights_from n k (drop 8 bytes)
    ∙ ap₂ (λ (m : ℕ) (l : List ℕ). first_chunks 8 m l) (let z : n - k ≡ suc n - suc k = omega arith in z)
    (drop-drop (8 * k) 8 bytes ∙ ap (λ (i : ℕ). drop i bytes) (let z : 8 + 8 * k ≡ 8 * suc k = omega arith in z))

-- all bytes are 0 exactly when each eight are
zero_by_eights : (n : ℕ) (bytes : List ℕ) → length bytes ≡ 8 * n → zero_eights (first_chunks 8 n bytes) ≡ all_zero bytes
zero_by_eights zero [] h = refl
zero_by_eights zero (x ∷ bytes) h = absurd (omega arith)
zero_by_eights (suc n) bytes h =
    let next : zero_eights (first_chunks 8 n (drop 8 bytes)) ≡ all_zero (drop 8 bytes) = zero_by_eights n (drop 8 bytes) (omega (arith, length-drop 8 bytes)) in
    bool_cases (eqb (eight_at bytes 0) 0)
    (λ t. rw (eight_first bytes, t, next) (sym (eight_passed bytes 0 (omega arith) (eqb-true _ _ t))))
    (λ f. rw (eight_first bytes, f) (sym (eight_found bytes 0 (omega arith) (eqb-false _ _ f))))

pub zero_from : (dump : List ℕ) (k : ℕ) → length dump % 8 ≡ 0 → zero_eights (drop k (first_chunks 8 (length dump / 8) dump)) ≡ all_zero (drop (8 * k) dump)
zero_from dump k h =
    ap zero_eights (eights_from (length dump / 8) k dump) ∙ zero_by_eights (length dump / 8 - k) (drop (8 * k) dump) (omega (arith, length-drop (8 * k) dump))

-- an eight that is not 0, and none left
pub eight_stops : (eights : List (List ℕ)) (k : ℕ) → k < length eights → (eight_at (get_or eights k []) 0 ≡ 0 → ⊥) → zero_eights (drop k eights) ≡ false
eight_stops eights k h d = rw (drop-cons eights k [] h, ne_eqb (eight_at (get_or eights k []) 0) 0 d)

pub eights_end : (eights : List (List ℕ)) (k : ℕ) → length eights ≤ k → zero_eights (drop k eights) ≡ true
eights_end eights k h = rw (drop_of_length-le eights {i = k} h)

-- and the padding begins at a multiple of 8
pub padding_start : (n : ℕ) → 8 * (words_for n / 2) ≡ 4 * words_for n
padding_start n = omega arith
