-- The set of all nodes, made word by word. Assumes nothing.
use mathlib.Core.Path.{◌≡◌, sym, ap, ap₂, ◌∙◌}
use mathlib.Core.Bool.{Bool, true, false}
use mathlib.Core.List.{List, [], ◌∷◌, ◌++◌, append-nil}
use Prim.Native.Nat.{ℕ, suc, ◌+◌, ◌-◌, ◌*◌, ◌%◌, ◌^◌, ◌≤◌, ◌<◌}
use native.Mathlib.Nat.{pow-suc}
use native.Mathlib.Numerals.{add-one}
use native.Mathlib.Omega.{arith}
use native.Mathlib.Decide.{dec_lt}
use lib.ListN.{length, get_or, set, take, drop, replicate, length-append, length-drop, length-replicate, get_or-replicate, get_or-append}
use lib.Seq.{length-take-le, take-suc-set, take_all, take-add, get_or-take, get_or-drop, get_or-append-add, ext_get_or}
use lib.Pow.{pow_pos, shl_exact}
use lib.Dec.{lit<}
use borrow.Author.Tests.{eq-eqb, ne_eqb}
use Rattle.laws.specs.Digits.{digits_of}
use Rattle.laws.proofs.Digits.{digit, length_digits, digits_get, digit_zero, digit_above, digit_ones}
use Rattle.card_free.specs.NodeSet.{word_count, capacity, nodes_of, up_to, all_nodes}
use Rattle.card_free.proofs.NodeSetLaws.{get_falses}
use Rattle.card_free.proofs.Words.{nodes_append}

length_up : (n : ℕ) → n < capacity → length (up_to n) ≡ capacity
unfolding up_to
length_up n h =
    omega (
      arith,
      length-append (replicate (suc n) true) (replicate (capacity - 1 - n) false),
      length-replicate (suc n) true,
      length-replicate (capacity - 1 - n) false,
    )

up_get : (n m : ℕ) → m ≤ n → get_or (up_to n) m false ≡ true
unfolding up_to
up_get n m h =
    get_or-append (replicate (suc n) true) (replicate (capacity - 1 - n) false) false m (omega (arith, length-replicate (suc n) true))
    ∙ get_or-replicate (suc n) m true false (omega arith)

up_above : (n m : ℕ) → n < m → get_or (up_to n) m false ≡ false
unfolding up_to
up_above n m h =
    let s : m ≡ length (replicate (suc n) true) + (m - suc n) = omega (arith, length-replicate (suc n) true) in
    ap (λ (x : ℕ). get_or (replicate (suc n) true ++ replicate (capacity - 1 - n) false) x false) s
    ∙ get_or-append-add (replicate (suc n) true) (replicate (capacity - 1 - n) false) (m - suc n) false
    ∙ get_falses (capacity - 1 - n) (m - suc n)

-- ---- one word

-- a word whose digits are those of nodes 0 to n
word_full : (q n word : ℕ) → q < word_count → n < capacity
    → ((i : ℕ) → i < 32 → 32 * q + i ≤ n → digit word i ≡ 1)
    → ((i : ℕ) → i < 32 → n < 32 * q + i → digit word i ≡ 0)
    → digits_of 32 word ≡ take 32 (drop (32 * q) (up_to n))
word_full q n word h u in_set above =
    ext_get_or false (digits_of 32 word) (take 32 (drop (32 * q) (up_to n)))
    (length_digits 32 word ∙ sym (length-take-le 32 (drop (32 * q) (up_to n)) (omega (arith, length-drop (32 * q) (up_to n), length_up n u))))
    (λ i l. at_place i (omega (arith, length_digits 32 word)) (dec_lt n (32 * q + i)))
  where
    at_place : (i : ℕ) → i < 32 → Dec (n < 32 * q + i) → get_or (digits_of 32 word) i false ≡ get_or (take 32 (drop (32 * q) (up_to n))) i false
    at_place i l (yes a) =
        digits_get 32 word i l
        ∙ ne_eqb (digit word i) 1 (λ e. omega (arith, above i l a))
        ∙ sym (get_or-take 32 (drop (32 * q) (up_to n)) i false l ∙ get_or-drop (32 * q) (up_to n) i false ∙ up_above n (32 * q + i) a)
    at_place i l (no a) =
        digits_get 32 word i l
        ∙ eq-eqb (digit word i) 1 (in_set i l (omega arith))
        ∙ sym (get_or-take 32 (drop (32 * q) (up_to n)) i false l ∙ get_or-drop (32 * q) (up_to n) i false ∙ up_get n (32 * q + i) (omega arith))

pub word_none : (q n : ℕ) → q < word_count → n < capacity → n < 32 * q → digits_of 32 0 ≡ take 32 (drop (32 * q) (up_to n))
word_none q n h u l = word_full q n 0 h u (λ i b a. absurd (omega arith)) (λ i b a. digit_zero i)

pub word_whole : (q n : ℕ) → q < word_count → n < capacity → 32 * q ≤ n → 31 ≤ n - 32 * q
    → digits_of 32 (2 ^ 32 - 1) ≡ take 32 (drop (32 * q) (up_to n))
word_whole q n h u l b = word_full q n (2 ^ 32 - 1) h u (λ i c a. digit_ones 32 i c) (λ i c a. absurd (omega arith))

-- `2 << last`: no digit is lost
pub two_shl : (last : ℕ) → last < 31 → (2 * 2 ^ last) % 2 ^ 32 ≡ 2 ^ suc last
two_shl last h = shl_exact 2 last 32 (lit< tt) (omega arith) ∙ (let e : 2 * 2 ^ last ≡ 2 ^ suc last = omega (arith, pow-suc 2 last) in e)

-- `(2 << last) - 1`
pub word_part : (q n : ℕ) → q < word_count → n < capacity → 32 * q ≤ n → n - 32 * q < 31
    → digits_of 32 ((2 * 2 ^ (n - 32 * q)) % 2 ^ 32 - 1) ≡ take 32 (drop (32 * q) (up_to n))
word_part q n h u l b =
    let last : ℕ = n - 32 * q in
    rw (two_shl (n - 32 * q) b)
    (word_full q n (2 ^ suc last - 1) h u
    (λ i c a. digit_ones (suc last) i (omega arith))
    (λ i c a. digit_above (suc last) (2 ^ suc last - 1) i (omega (arith, pow_pos (suc last))) (omega arith)))

-- ---- word by word

pub filled_next : (words : List ℕ) (n q word : ℕ) → q < length words → digits_of 32 word ≡ take 32 (drop (32 * q) (up_to n))
    → nodes_of (take q words) ≡ take (32 * q) (up_to n)
    → nodes_of (take (q + 1) (set words q word)) ≡ take (32 * (q + 1)) (up_to n)
unfolding nodes_of
filled_next words n q word h digits before =
    let s : 32 * (q + 1) ≡ 32 * q + 32 = omega arith in
    ap nodes_of (ap (λ (x : ℕ). take x (set words q word)) (add-one q) ∙ take-suc-set words q word h)
    ∙ nodes_append (take q words) (word ∷ [])
    ∙ ap₂ (λ (a b : List Bool). a ++ b) before (append-nil (digits_of 32 word) ∙ digits)
    ∙ sym (ap (λ (x : ℕ). take x (up_to n)) s ∙ take-add (32 * q) 32 (up_to n))

pub filled_all : (words : List ℕ) (n q : ℕ) → n < capacity → length words ≡ word_count → q ≡ word_count
    → nodes_of (take q words) ≡ take (32 * q) (up_to n)
    → set (nodes_of words) 0 false ≡ all_nodes n
unfolding up_to all_nodes
filled_all words n q u l e all =
    ap (λ (bits : List Bool). set bits 0 false)
    (ap nodes_of (sym (take_all q words (omega arith))) ∙ all ∙ take_all (32 * q) (up_to n) (omega (arith, length_up n u)))
