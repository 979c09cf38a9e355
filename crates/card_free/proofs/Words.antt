-- The words that hold a set of nodes: what a load, a store and a count of one word mean for the list of Bools. Assumes nothing.
use mathlib.Core.Path.{◌≡◌, refl, sym, ap, ap₂, ◌∙◌}
use mathlib.Core.Bool.{Bool, true, false}
use mathlib.Core.List.{List, [], ◌∷◌, ◌++◌, map, append_assoc}
use Prim.Native.Nat.{ℕ, zero, suc, ◌+◌, ◌-◌, ◌*◌, ◌/◌, ◌%◌, ◌^◌, ◌≤◌, ◌<◌}
use native.Mathlib.Nat.{not-suc-le-zero, pow-suc}
use native.Mathlib.Omega.{arith}
use native.Mathlib.Decide.{ℕ_discrete, dec_lt}
use lib.ListN.{length, get_or, set, length-set, get_or-append}
use lib.Seq.{get_or-append-add, get_or-set_same, get_or-set_other, ext_get_or}
use lib.Dec.{eqb}
use lib.Bits.{bit_and, bit_or}
use lib.Count.{ones, ones_step}
use borrow.Author.Tests.{eq-eqb, ne_eqb}
use Rattle.std.specs.List.{sum}
use Rattle.std.proofs.lemmas.List.Sums.{sum_by-cons}
use Rattle.laws.proofs.Digits.{digit, length_digits, digits_get, digit_shr, one_shl, digit_set_same, digit_set_other, digit_clear_same, digit_clear_other}
use Rattle.laws.specs.Digits.{digits_of}
use Rattle.card_free.specs.NodeSet.{nodes_of, count_true}
use Rattle.card_free.proofs.NodeSetLaws.{length_nodes, count_append}

-- the digit of node m's word at node m's place
unfoldable pub bit_at : List ℕ → ℕ → Bool
bit_at words m = eqb (digit (get_or words (m / 32) 0) (m % 32)) 1

-- a node's place in the list is its digit in its word
pub nodes_get : (words : List ℕ) (m : ℕ) → m < 32 * length words → get_or (nodes_of words) m false ≡ bit_at words m
unfolding nodes_of bit_at
nodes_get [] m h = let z : m < 0 = omega arith in absurd (not-suc-le-zero z)
nodes_get (word ∷ words) m h = go (dec_lt m 32) (λ l. nodes_get words (m - 32) l)
  where
    go : Dec (m < 32) → (m - 32 < 32 * length words → get_or (nodes_of words) (m - 32) false ≡ bit_at words (m - 32))
        → get_or (digits_of 32 word ++ nodes_of words) m false ≡ eqb (digit (get_or (word ∷ words) (m / 32) 0) (m % 32)) 1
    go (yes l) ih =
        let q : m / 32 ≡ 0 = omega arith in
        let r : m % 32 ≡ m = omega arith in
        get_or-append (digits_of 32 word) (nodes_of words) false m (omega (arith, length_digits 32 word))
        ∙ digits_get 32 word m l ∙ rw (q, r)
    go (no l) ih =
        let g : 32 ≤ m = omega arith in
        let q : m / 32 ≡ suc ((m - 32) / 32) = omega arith in
        let r : m % 32 ≡ (m - 32) % 32 = omega arith in
        let s : m ≡ length (digits_of 32 word) + (m - 32) = omega (arith, length_digits 32 word) in
        ap (λ (x : ℕ). get_or (digits_of 32 word ++ nodes_of words) x false) s
        ∙ get_or-append-add (digits_of 32 word) (nodes_of words) (m - 32) false
        ∙ ih (omega arith) ∙ rw (q, r)

-- `(word >> (m % 32)) % 2 == 1`
pub node_tested : (words : List ℕ) (m : ℕ) → m < 32 * length words → eqb (get_or words (m / 32) 0 / 2 ^ (m % 32) % 2) 1 ≡ get_or (nodes_of words) m false
unfolding bit_at
node_tested words m h = sym (nodes_get words m h ∙ ap (λ (d : ℕ). eqb d 1) (digit_shr (get_or words (m / 32) 0) (m % 32)))

-- ---- one node put in or taken out

-- the word of node m is stored anew, with the digit b at the node's place and the others as they were
nodes_set : (words : List ℕ) (m word : ℕ) (b : Bool) → m < 32 * length words
    → eqb (digit word (m % 32)) 1 ≡ b
    → ((i : ℕ) → (i ≡ m % 32 → ⊥) → digit word i ≡ digit (get_or words (m / 32) 0) i)
    → nodes_of (set words (m / 32) word) ≡ set (nodes_of words) m b
unfolding bit_at
nodes_set words m word b h same other =
    ext_get_or false (nodes_of stored) (set (nodes_of words) m b)
    (length_nodes stored ∙ ap (λ (x : ℕ). 32 * x) (length-set words (m / 32) word) ∙ sym (length_nodes words) ∙ sym (length-set (nodes_of words) m b))
    (λ k l. at_place k (omega (arith, length_nodes stored, length-set words (m / 32) word)))
  where
    stored : List ℕ
    stored = set words (m / 32) word

    in_word : (k : ℕ) → (k ≡ m → ⊥) → Dec (k / 32 ≡ m / 32) → bit_at stored k ≡ bit_at words k
    in_word k d (yes e) =
        let p : get_or stored (k / 32) 0 ≡ word = ap (λ (x : ℕ). get_or stored x 0) e ∙ get_or-set_same words (m / 32) word 0 (omega arith) in
        let q : digit word (k % 32) ≡ digit (get_or words (k / 32) 0) (k % 32) = other (k % 32) (λ z. d (omega arith)) ∙ ap (λ (x : ℕ). digit (get_or words x 0) (k % 32)) (sym e) in
        rw (p, q)
    in_word k d (no n) = ap (λ (x : ℕ). eqb (digit x (k % 32)) 1) (get_or-set_other words (m / 32) (k / 32) word 0 n)

    by_case : (k : ℕ) → k < 32 * length words → Dec (k ≡ m) → bit_at stored k ≡ get_or (set (nodes_of words) m b) k false
    by_case k l (yes e) =
        let p : get_or stored (m / 32) 0 ≡ word = get_or-set_same words (m / 32) word 0 (omega arith) in
        ap (bit_at stored) e ∙ rw p same
        ∙ sym (ap (λ (x : ℕ). get_or (set (nodes_of words) m b) x false) e ∙ get_or-set_same (nodes_of words) m b false (omega (arith, length_nodes words)))
    by_case k l (no n) =
        in_word k n (ℕ_discrete (k / 32) (m / 32)) ∙ sym (nodes_get words k l) ∙ sym (get_or-set_other (nodes_of words) m k b false n)

    at_place : (k : ℕ) → k < 32 * length words → get_or (nodes_of stored) k false ≡ get_or (set (nodes_of words) m b) k false
    at_place k l = nodes_get stored k (omega (arith, length-set words (m / 32) word)) ∙ by_case k l (ℕ_discrete k m)

-- `word | (1 << (m % 32))`
pub node_added : (words : List ℕ) (m : ℕ) → m < 32 * length words
    → nodes_of (set words (m / 32) (bit_or (get_or words (m / 32) 0) ((1 * 2 ^ (m % 32)) % 2 ^ 32))) ≡ set (nodes_of words) m true
node_added words m h =
    let k : ℕ = m % 32 in
    let word : ℕ = get_or words (m / 32) 0 in
    rw (one_shl 32 (m % 32) (omega arith))
    (nodes_set words m (bit_or word (2 ^ k)) true h
    (eq-eqb (digit (bit_or word (2 ^ k)) k) 1 (digit_set_same word k))
    (λ i d. digit_set_other word k i d))

-- `word & !(1 << (m % 32))`
pub node_removed : (words : List ℕ) (m : ℕ) → m < 32 * length words → get_or words (m / 32) 0 < 2 ^ 32
    → nodes_of (set words (m / 32) (bit_and (get_or words (m / 32) 0) ((2 ^ 32 - 1) - (1 * 2 ^ (m % 32)) % 2 ^ 32))) ≡ set (nodes_of words) m false
node_removed words m h fits =
    let k : ℕ = m % 32 in
    let word : ℕ = get_or words (m / 32) 0 in
    let l : m % 32 < 32 = omega arith in
    rw (one_shl 32 (m % 32) l)
    (nodes_set words m (bit_and word ((2 ^ 32 - 1) - 2 ^ k)) false h
    (ne_eqb (digit (bit_and word ((2 ^ 32 - 1) - 2 ^ k)) k) 1 (λ e. omega (arith, digit_clear_same 32 word k l)))
    (λ i d. digit_clear_other 32 word k i fits l d))

-- ---- the count, word by word

digit_count_lem : (d : ℕ) (bits : List Bool) → d < 2 → count_true (eqb d 1 ∷ bits) ≡ d + count_true bits
unfolding count_true
digit_count_lem zero bits h = omega arith
digit_count_lem (suc zero) bits h = omega arith
digit_count_lem (suc (suc d)) bits h = let z : d < 0 = omega arith in absurd (not-suc-le-zero z)

count_digits : (k n : ℕ) → n < 2 ^ k → count_true (digits_of k n) ≡ ones n
unfolding count_true digits_of ones
count_digits zero n h = ap ones (let z : 0 ≡ n = omega arith in z)
count_digits (suc k) n h =
    digit_count_lem (n % 2) (digits_of k (n / 2)) (omega arith)
    ∙ ap (λ (x : ℕ). n % 2 + x) (count_digits k (n / 2) (omega (arith, pow-suc 2 k)))
    ∙ sym (ones_step n)

pub nodes_append : (a b : List ℕ) → nodes_of (a ++ b) ≡ nodes_of a ++ nodes_of b
unfolding nodes_of
nodes_append [] b = refl
nodes_append (word ∷ a) b = ap (λ (x : List Bool). digits_of 32 word ++ x) (nodes_append a b) ∙ sym (append_assoc (digits_of 32 word) (nodes_of a) (nodes_of b))

-- the sum of the words' ones
pub count_words : (words : List ℕ) → ((i : ℕ) → get_or words i 0 < 2 ^ 32) → sum (map ones words) ≡ count_true (nodes_of words)
unfolding nodes_of count_true
count_words [] fits = refl
count_words (word ∷ words) fits =
    sum_by-cons (λ x. x) (ones word) (map ones words)
    ∙ ap₂ (λ (a b : ℕ). a + b) (sym (count_digits 32 word (fits 0))) (count_words words (λ i. fits (suc i)))
    ∙ sym (count_append (digits_of 32 word) (nodes_of words))
