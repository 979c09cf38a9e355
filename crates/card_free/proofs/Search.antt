-- The search for the first free node, word by word. Assumes nothing.
use mathlib.Core.Path.{◌≡◌, refl, sym, ap, ◌∙◌}
use mathlib.Core.Bool.{Bool, true, false}
use mathlib.Core.List.{List, [], ◌∷◌}
use Prim.Native.Nat.{ℕ, zero, suc, ◌+◌, ◌-◌, ◌*◌, ◌/◌, ◌%◌, ◌^◌, ◌≤◌, ◌<◌, zero-le, suc-le-suc}
use native.Mathlib.Nat.{le_of_suc-le-suc, not-suc-le-zero}
use native.Mathlib.Omega.{arith}
use native.Mathlib.Decide.{dec_lt}
use lib.ListN.{length, get_or, drop, length-drop}
use lib.Seq.{get_or-drop}
use lib.Bits.{bit_and}
use lib.Count.{count_trailing_zeros}
use borrow.Author.Tests.{eq-eqb, ne_eqb}
use Rattle.std.specs.Prelude.{Option, Some, None}
use Rattle.laws.proofs.Digits.{digit, digit_zero, digit_lt, digit_and, digit_ones, mask_low, mask_high, trailing_below, trailing_set, trailing_lt}
use Rattle.card_free.specs.NodeSet.{nodes_of, first_true, first_from}
use Rattle.card_free.proofs.NodeSetLaws.{length_nodes}
use Rattle.card_free.proofs.Words.{bit_at, nodes_get}

-- ---- the first true, told by the places before it

first_at : (bits : List Bool) (a m : ℕ) → m < length bits → get_or bits m false ≡ true → ((i : ℕ) → i < m → get_or bits i false ≡ false)
    → first_true bits a ≡ Some (a + m)
unfolding first_true
first_at [] a m h t f = absurd (not-suc-le-zero h)
first_at (true ∷ bits) a zero h t f = ap Some (let z : a ≡ a + 0 = omega arith in z)
first_at (true ∷ bits) a (suc m) h t f =
    let z : ◌≡◌ {A = Bool} true false = f zero (suc-le-suc zero-le) in
    let y : ◌≡◌ {A = Option ℕ} (Some a) (Some (a + suc m)) = cc in
    y
first_at (false ∷ bits) a zero h t f = let y : ◌≡◌ {A = Option ℕ} (first_true bits (suc a)) (Some (a + 0)) = cc in y
first_at (false ∷ bits) a (suc m) h t f =
    first_at bits (suc a) m (le_of_suc-le-suc h) t (λ i l. f (suc i) (suc-le-suc l))
    ∙ ap Some (let z : suc a + m ≡ a + suc m = omega arith in z)

first_none : (bits : List Bool) (a : ℕ) → ((i : ℕ) → i < length bits → get_or bits i false ≡ false) → first_true bits a ≡ None
unfolding first_true
first_none [] a f = refl
first_none (true ∷ bits) a f =
    let z : ◌≡◌ {A = Bool} true false = f zero (suc-le-suc zero-le) in
    let y : ◌≡◌ {A = Option ℕ} (Some a) None = cc in
    y
first_none (false ∷ bits) a f = first_none bits (suc a) (λ i l. f (suc i) (suc-le-suc l))

from_at : (bits : List Bool) (a m : ℕ) → a ≤ m → m < length bits → get_or bits m false ≡ true
    → ((i : ℕ) → a ≤ i → i < m → get_or bits i false ≡ false)
    → first_from bits a ≡ Some m
unfolding first_from
from_at bits a m l h t f =
    let s : a + (m - a) ≡ m = omega arith in
    first_at (drop a bits) a (m - a) (omega (arith, length-drop a bits))
    (get_or-drop a bits (m - a) false ∙ rw s t)
    (λ i j. get_or-drop a bits i false ∙ f (a + i) (omega arith) (omega arith))
    ∙ rw s

from_none : (bits : List Bool) (a : ℕ) → ((i : ℕ) → a ≤ i → i < length bits → get_or bits i false ≡ false) → first_from bits a ≡ None
unfolding first_from
from_none bits a f =
    first_none (drop a bits) a (λ i j. get_or-drop a bits i false ∙ f (a + i) (omega arith) (omega (arith, length-drop a bits)))

-- ---- the invariant of the loop over the words: `Mask` and `Passed`

-- word is word q of the set without its digits for nodes before a
pub record Masked (words : List ℕ) (a q word : ℕ) : Type 0 where
  pub low : (i : ℕ) → 32 * q + i < a → digit word i ≡ 0
  pub high : (i : ℕ) → i < 32 → a ≤ 32 * q + i → digit word i ≡ digit (get_or words q 0) i

-- no node from a on is free in the words before q
unfoldable pub Passed : List ℕ → ℕ → ℕ → Type 0
Passed words a q = (k : ℕ) → a ≤ k → k < 32 * q → bit_at words k ≡ false

-- mask keeps the digits of word q for the nodes from a on, and no others
pub record Mask (a q mask : ℕ) : Type 0 where
  pub low : (i : ℕ) → 32 * q + i < a → digit mask i ≡ 0
  pub high : (i : ℕ) → i < 32 → a ≤ 32 * q + i → digit mask i ≡ 1

pub mask_start : (a : ℕ) → Mask a (a / 32) (((2 ^ 32 - 1) * 2 ^ (a % 32)) % 2 ^ 32)
mask_start a = record { low = λ i l. mask_low 32 (a % 32) i (omega arith) (omega arith); high = λ i h l. mask_high 32 (a % 32) i (omega arith) h }

pub mask_next : (a q : ℕ) → a ≤ 32 * q → Mask a q (2 ^ 32 - 1)
mask_next a q h = record { low = λ i l. absurd (omega arith); high = λ i l g. digit_ones 32 i l }

pub masked : (words : List ℕ) (a q mask : ℕ) → Mask a q mask → Masked words a q (bit_and (get_or words q 0) mask)
masked words a q mask m =
    let word : ℕ = get_or words q 0 in
    record {
      low = λ i l. omega (arith, digit_and word mask i, m.low i l);
      high = λ i h l. omega (arith, digit_and word mask i, m.high i h l, digit_lt word i);
    }

pub passed_start : (words : List ℕ) (a : ℕ) → Passed words a (a / 32)
unfolding Passed
passed_start words a k l h = absurd (omega arith)

-- where the masked word has 0 at node k's digit, the node is not free
masked_clear : (words : List ℕ) (a q word k : ℕ) → Masked words a q word → a ≤ k → 32 * q ≤ k → k < 32 * (q + 1) → digit word (k % 32) ≡ 0
    → bit_at words k ≡ false
unfolding bit_at
masked_clear words a q word k m l b u z =
    let s : k / 32 ≡ q = omega arith in
    let d : digit word (k % 32) ≡ digit (get_or words q 0) (k % 32) = m.high (k % 32) (omega arith) (omega arith) in
    rw s (ne_eqb (digit (get_or words q 0) (k % 32)) 1 (λ x. omega arith))

-- a word that is 0 has no free node from a on
pub passed_next : (words : List ℕ) (a q word : ℕ) → Masked words a q word → word ≡ 0 → Passed words a q → Passed words a (q + 1)
unfolding Passed
passed_next words a q word m e p k l h = go (dec_lt k (32 * q))
  where
    go : Dec (k < 32 * q) → bit_at words k ≡ false
    go (yes b) = p k l b
    go (no b) = masked_clear words a q word k m l (omega arith) (omega arith) (ap (λ (x : ℕ). digit x (k % 32)) e ∙ digit_zero (k % 32))

pub search_found : (words : List ℕ) (a q word : ℕ) → q < length words → a < 32 * (q + 1) → word < 2 ^ 32 → (word ≡ 0 → ⊥)
    → Masked words a q word → Passed words a q
    → first_from (nodes_of words) a ≡ Some (q * 32 + count_trailing_zeros 32 word)
unfolding Passed bit_at
search_found words a q word h b fits n m p =
    let tl : count_trailing_zeros 32 word < 32 = trailing_lt 32 word fits n in
    let ts : digit word (count_trailing_zeros 32 word) ≡ 1 = trailing_set 32 word tl in
    let ge : a ≤ 32 * q + count_trailing_zeros 32 word = reach ts (dec_lt (32 * q + count_trailing_zeros 32 word) a) in
    from_at (nodes_of words) a (q * 32 + count_trailing_zeros 32 word) (omega arith) (omega (arith, length_nodes words))
    (nodes_get words (q * 32 + count_trailing_zeros 32 word) (omega arith) ∙ at_found tl ts ge)
    (λ k l u. nodes_get words k (omega arith) ∙ before k l u tl (dec_lt k (32 * q)))
  where
    reach : digit word (count_trailing_zeros 32 word) ≡ 1 → Dec (32 * q + count_trailing_zeros 32 word < a) → a ≤ 32 * q + count_trailing_zeros 32 word
    reach ts (yes l) = let z : digit word (count_trailing_zeros 32 word) ≡ 0 = m.low (count_trailing_zeros 32 word) l in absurd (omega arith)
    reach ts (no l) = omega arith

    at_found : count_trailing_zeros 32 word < 32 → digit word (count_trailing_zeros 32 word) ≡ 1 → a ≤ 32 * q + count_trailing_zeros 32 word
        → bit_at words (q * 32 + count_trailing_zeros 32 word) ≡ true
    at_found tl ts ge =
        let s : (q * 32 + count_trailing_zeros 32 word) / 32 ≡ q = omega arith in
        let r : (q * 32 + count_trailing_zeros 32 word) % 32 ≡ count_trailing_zeros 32 word = omega arith in
        rw (s, r) (eq-eqb (digit (get_or words q 0) (count_trailing_zeros 32 word)) 1 (sym (m.high (count_trailing_zeros 32 word) tl ge) ∙ ts))

    before : (k : ℕ) → a ≤ k → k < q * 32 + count_trailing_zeros 32 word → count_trailing_zeros 32 word < 32 → Dec (k < 32 * q) → bit_at words k ≡ false
    before k l u tl (yes b) = p k l b
    before k l u tl (no b) =
        masked_clear words a q word k m l (omega arith) (omega arith) (trailing_below 32 word (k % 32) (omega arith))

pub search_none : (words : List ℕ) (a q : ℕ) → length words ≤ q → Passed words a q → first_from (nodes_of words) a ≡ None
unfolding Passed
search_none words a q h p =
    from_none (nodes_of words) a (λ k l u. nodes_get words k (omega (arith, length_nodes words)) ∙ p k l (omega (arith, length_nodes words)))
