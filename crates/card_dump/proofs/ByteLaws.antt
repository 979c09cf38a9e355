-- Laws of words as bytes and of the lists that the loops build, one store or one word a turn.
use mathlib.Core.Path.{◌≡◌, refl, sym, ap, ap₂, ◌∙◌}
use mathlib.Core.List.{List, [], ◌∷◌, ◌++◌, append_assoc}
use Prim.Native.Nat.{ℕ, zero, suc, ◌+◌, ◌*◌, ◌-◌, ◌<◌}
use native.Mathlib.Numerals.{add-one}
use native.Mathlib.Omega.{arith}
use lib.ListN.{length, get_or, take, drop, set}
use lib.Seq.{drop-cons, drop-drop, get_or-drop, set_at, append_snoc, length-take-le, take-suc, take_at, drop_at}
use borrow.Author.Tests.{eq-eqb}
use Rattle.laws.specs.Lists.{all_zero}
use Rattle.card_dump.specs.Dump.{word_bytes, card_bytes, word_at, dump_words}

-- ---- the padding's test

-- after a 0 the rest decides it
pub zero_here : (dump : List ℕ) (i : ℕ) → i < length dump → get_or dump i 0 ≡ 0 → all_zero (drop i dump) ≡ all_zero (drop (i + 1) dump)
zero_here dump i inside h = rw (add-one i, drop-cons dump i 0 inside, eq-eqb (get_or dump i 0) 0 h)

-- ---- reading

-- a store at n of a list whose first n elements are written already
one_more : (done rest : List ℕ) (n v : ℕ) → length done ≡ n → n < length rest → set (done ++ drop n rest) n v ≡ (done ++ v ∷ []) ++ drop (n + 1) rest
one_more done rest n v e h =
    ap (λ (l : List ℕ). set (done ++ l) n v) (drop-cons rest n 0 h) ∙ set_at done _ _ v n e ∙ sym (append_snoc done v (drop (suc n) rest))
    ∙ ap (λ (k : ℕ). (done ++ v ∷ []) ++ drop k rest) (sym (add-one n))

pub length_dump_words : (n : ℕ) (dump : List ℕ) → length (dump_words n dump) ≡ n
unfolding dump_words
length_dump_words zero dump = refl
length_dump_words (suc n) dump = ap suc (length_dump_words n (drop 4 dump))

-- four bytes further on, each word is the next
word_after : (dump : List ℕ) (i : ℕ) → word_at (drop 4 dump) i ≡ word_at dump (suc i)
unfolding word_at
word_after dump i =
    omega (
      arith,
      at (4 * i) (4 * suc i) (omega arith),
      at (4 * i + 1) (4 * suc i + 1) (omega arith),
      at (4 * i + 2) (4 * suc i + 2) (omega arith),
      at (4 * i + 3) (4 * suc i + 3) (omega arith),
    )
  where
    at : (j k : ℕ) → 4 + j ≡ k → get_or (drop 4 dump) j 0 ≡ get_or dump k 0
    at j k e = get_or-drop 4 dump j 0 ∙ ap (λ (a : ℕ). get_or dump a 0) e

words_more : (n : ℕ) (dump : List ℕ) → dump_words (suc n) dump ≡ dump_words n dump ++ word_at dump n ∷ []
unfolding dump_words
words_more zero dump = refl
words_more (suc n) dump =
    ap (λ (l : List ℕ). word_at dump 0 ∷ l) (words_more n (drop 4 dump))
    ∙ ap (λ (w : ℕ). word_at dump 0 ∷ (dump_words n (drop 4 dump) ++ w ∷ [])) (word_after dump n)

pub get_dump_words : (n : ℕ) (dump : List ℕ) (i : ℕ) → i < n → get_or (dump_words n dump) i 0 ≡ word_at dump i
unfolding dump_words
get_dump_words zero dump i h = absurd (omega arith)
get_dump_words (suc n) dump zero h = refl
get_dump_words (suc n) dump (suc i) h = get_dump_words n (drop 4 dump) i (omega arith) ∙ word_after dump i

-- one word more is read
pub read_more : (dump words : List ℕ) (i : ℕ) → i < length words → set (dump_words i dump ++ drop i words) i (word_at dump i) ≡ dump_words (i + 1) dump ++ drop (i + 1) words
read_more dump words i h =
    one_more (dump_words i dump) words i (word_at dump i) (length_dump_words i dump) h
    ∙ ap (λ (l : List ℕ). l ++ drop (i + 1) words) (sym (words_more i dump) ∙ ap (λ (k : ℕ). dump_words k dump) (sym (add-one i)))

-- ---- writing

pub length_card_bytes : (card : List ℕ) → length (card_bytes card) ≡ 4 * length card
unfolding card_bytes word_bytes
length_card_bytes [] = refl
length_card_bytes (w ∷ card) = omega (arith, length_card_bytes card)

bytes_more : (card : List ℕ) (w : ℕ) → card_bytes (card ++ w ∷ []) ≡ card_bytes card ++ word_bytes w
unfolding card_bytes word_bytes
bytes_more [] w = refl
bytes_more (v ∷ card) w = ap (λ (l : List ℕ). word_bytes v ++ l) (bytes_more card w)

-- one word more is written
module _ (card bytes : List ℕ) (i : ℕ) (inside : i < length card) where
  first_bytes : length (card_bytes (take i card)) ≡ 4 * i
  first_bytes = length_card_bytes (take i card) ∙ ap (λ (k : ℕ). 4 * k) (length-take-le i card (omega arith))

  next_bytes : card_bytes (take (i + 1) card) ≡ card_bytes (take i card) ++ word_bytes (get_or card i 0)
  next_bytes = ap card_bytes (ap (λ (k : ℕ). take k card) (add-one i) ∙ take-suc card i 0 inside) ∙ bytes_more (take i card) (get_or card i 0)

  pub write_more : (written : List ℕ) → written ≡ card_bytes (take i card) ++ drop (4 * i) bytes
      → take (4 * i) written ++ (word_bytes (get_or card i 0) ++ drop (4 * i + 4 - 4 * i) (drop (4 * i) written)) ≡ card_bytes (take (i + 1) card) ++ drop (4 * (i + 1)) bytes
  write_more written e =
      let before : take (4 * i) written ≡ card_bytes (take i card) = ap (take (4 * i)) e ∙ take_at (card_bytes (take i card)) _ (4 * i) first_bytes in
      let after : drop (4 * i + 4 - 4 * i) (drop (4 * i) written) ≡ drop (4 * (i + 1)) bytes =
      ap (drop (4 * i + 4 - 4 * i)) (ap (drop (4 * i)) e ∙ drop_at (card_bytes (take i card)) _ (4 * i) first_bytes) ∙ drop-drop (4 * i + 4 - 4 * i) (4 * i) bytes
      ∙ ap (λ (k : ℕ). drop k bytes) (let z : 4 * i + (4 * i + 4 - 4 * i) ≡ 4 * (i + 1) = omega arith in z) in
      ap₂ (λ (x y : List ℕ). x ++ (word_bytes (get_or card i 0) ++ y)) before after
      ∙ sym (append_assoc (card_bytes (take i card)) (word_bytes (get_or card i 0)) (drop (4 * (i + 1)) bytes))
      ∙ ap (λ (l : List ℕ). l ++ drop (4 * (i + 1)) bytes) (sym next_bytes)
