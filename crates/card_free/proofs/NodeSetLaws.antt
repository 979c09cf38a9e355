-- Laws of a set of nodes as a list of Bools: what is found, how the count changes, and the set of all nodes. Assumes nothing.
use mathlib.Core.Path.{◌≡◌, refl, sym, ap, ◌∙◌}
use mathlib.Core.Bool.{Bool, true, false}
use mathlib.Core.List.{List, [], ◌∷◌, ◌++◌}
use Prim.Native.Nat.{ℕ, zero, suc, ◌+◌, ◌-◌, ◌*◌, ◌≤◌, ◌<◌}
use native.Mathlib.Nat.{le_of_suc-le-suc, not-suc-le-zero}
use native.Mathlib.Omega.{arith}
use lib.ListN.{length, get_or, set, drop, replicate, length-drop, length-append, drop_of_length-le, length-replicate, get_or-replicate, get_or-append}
use lib.Seq.{get_or-append-add, get_or-drop}
use Rattle.std.specs.Prelude.{Option, Some, None}
use Rattle.std.specs.Option.{option_or}
use Rattle.laws.specs.Digits.{digits_of}
use Rattle.laws.proofs.Digits.{length_digits}
use Rattle.laws.proofs.Cases.{impossible}
use Rattle.card_free.specs.NodeSet.{capacity, nodes_of, all_nodes, count_true, first_true, first_from, next_free}

pub length_nodes : (words : List ℕ) → length (nodes_of words) ≡ 32 * length words
unfolding nodes_of
length_nodes [] = refl
length_nodes (word ∷ words) = omega (arith, length-append (digits_of 32 word) (nodes_of words), length_digits 32 word, length_nodes words)

-- ---- what a search finds

first_found : (bits : List Bool) (a m : ℕ) → first_true bits a ≡ Some m → (get_or bits (m - a) false ≡ true) × (a ≤ m) × (m < a + length bits)
unfolding first_true
first_found [] a m e = impossible (cc)
first_found (true ∷ bits) a m e =
    let s : a ≡ m = cc in
    let z : m - a ≡ 0 = omega arith in
    (rw z, omega arith, omega arith)
first_found (false ∷ bits) a m e =
    let h = first_found bits (suc a) m e in
    let s : m - a ≡ suc (m - suc a) = omega arith in
    (rw s h.0, omega arith, omega arith)

pub from_found : (bits : List Bool) (a m : ℕ) → first_from bits a ≡ Some m → (get_or bits m false ≡ true) × (a ≤ m) × (m < length bits)
unfolding first_from
from_found bits a m e =
    let h = first_found (drop a bits) a m e in
    let s : a + (m - a) ≡ m = omega arith in
    (rw (← s) (sym (get_or-drop a bits (m - a) false) ∙ h.0), omega arith, omega (arith, length-drop a bits))

-- the next free node is free, is not 0, and is a place of the list
pub next_found : (bits : List Bool) (last m : ℕ) → next_free bits last ≡ Some m → (get_or bits m false ≡ true) × (1 ≤ m) × (m < length bits)
unfolding next_free
next_found bits last m e = go (first_from bits (last + 1)) refl e
  where
    go : (first : Option ℕ) → first_from bits (last + 1) ≡ first → option_or first (first_from bits 1) ≡ Some m
        → (get_or bits m false ≡ true) × (1 ≤ m) × (m < length bits)
    go (Some k) f e = let h = from_found bits (last + 1) m (f ∙ e) in (h.0, omega arith, h.2)
    go None f e = from_found bits 1 m e

first_exists : (bits : List Bool) (a : ℕ) → 0 < count_true bits → (m : ℕ) × (first_true bits a ≡ Some m)
unfolding first_true count_true
first_exists [] a h = absurd (not-suc-le-zero h)
first_exists (true ∷ bits) a h = (a, refl)
first_exists (false ∷ bits) a h = first_exists bits (suc a) h

-- while a node is free there is a next one
pub next_exists : (bits : List Bool) (last : ℕ) → get_or bits 0 false ≡ false → 0 < count_true bits → (m : ℕ) × (next_free bits last ≡ Some m)
unfolding next_free first_from count_true
next_exists bits last z h = go (first_from bits (last + 1)) (round bits z h)
  where
    round : (bits : List Bool) → get_or bits 0 false ≡ false → 0 < count_true bits → (m : ℕ) × (first_from bits 1 ≡ Some m)
    round [] z h = absurd (not-suc-le-zero h)
    round (true ∷ rest) z h = impossible (cc)
    round (false ∷ rest) z h = first_exists rest 1 h

    go : (first : Option ℕ) → (m : ℕ) × (first_from bits 1 ≡ Some m) → (m : ℕ) × (option_or first (first_from bits 1) ≡ Some m)
    go (Some k) f = (k, refl)
    go None f = f

-- the two ways that a search goes
pub next_after : (bits : List Bool) (last m : ℕ) → first_from bits (last + 1) ≡ Some m → next_free bits last ≡ Some m
unfolding next_free
next_after bits last m e = rw e

pub next_round : (bits : List Bool) (last : ℕ) → first_from bits (last + 1) ≡ None → next_free bits last ≡ first_from bits 1
unfolding next_free
next_round bits last e = rw e

-- a search past the end of the list finds nothing
pub from_past : (bits : List Bool) (a : ℕ) → length bits ≤ a → first_from bits a ≡ None
unfolding first_from first_true
from_past bits a h = rw (drop_of_length-le bits {i = a} h)

-- ---- how many

pub count_append : (a b : List Bool) → count_true (a ++ b) ≡ count_true a + count_true b
unfolding count_true
count_append [] b = omega arith
count_append (true ∷ a) b = omega (arith, count_append a b)
count_append (false ∷ a) b = count_append a b

-- a store in place m changes the count by what it puts there and what it takes away
count_set : (bits : List Bool) (m : ℕ) (b : Bool) → m < length bits
    → count_true (set bits m b) + count_true (get_or bits m false ∷ []) ≡ count_true bits + count_true (b ∷ [])
count_set [] m b h = absurd (not-suc-le-zero h)
count_set (a ∷ bits) zero b h = omega (arith, count_append (b ∷ []) bits, count_append (a ∷ []) bits)
count_set (a ∷ bits) (suc m) b h =
    omega (arith, count_set bits m b (le_of_suc-le-suc h), count_append (a ∷ []) bits, count_append (a ∷ []) (set bits m b))

pub count_add : (bits : List Bool) (m : ℕ) → m < length bits → get_or bits m false ≡ false → count_true (set bits m true) ≡ suc (count_true bits)
unfolding count_true
count_add bits m h e = omega (arith, count_set bits m true h, ap (λ (b : Bool). count_true (b ∷ [])) e)

pub count_remove : (bits : List Bool) (m : ℕ) → m < length bits → get_or bits m false ≡ true → suc (count_true (set bits m false)) ≡ count_true bits
unfolding count_true
count_remove bits m h e = omega (arith, count_set bits m false h, ap (λ (b : Bool). count_true (b ∷ [])) e)

-- ---- the set of all nodes

pub get_falses : (k i : ℕ) → get_or (replicate k false) i false ≡ false
get_falses zero i = refl
get_falses (suc k) zero = refl
get_falses (suc k) (suc i) = get_falses k i

pub length_all : (n : ℕ) → n < capacity → length (all_nodes n) ≡ capacity
unfolding all_nodes
length_all n h =
    omega (
      arith,
      length-append (replicate n true) (replicate (capacity - 1 - n) false),
      length-replicate n true,
      length-replicate (capacity - 1 - n) false,
    )

pub all_zero_lem : (n : ℕ) → get_or (all_nodes n) 0 false ≡ false
unfolding all_nodes
all_zero_lem n = refl

pub all_get : (n m : ℕ) → 1 ≤ m → m ≤ n → n < capacity → get_or (all_nodes n) m false ≡ true
unfolding all_nodes
all_get n zero l h u = absurd (not-suc-le-zero l)
all_get n (suc m) l h u =
    get_or-append (replicate n true) (replicate (capacity - 1 - n) false) false m (omega (arith, length-replicate n true))
    ∙ get_or-replicate n m true false (omega arith)

pub all_above : (n m : ℕ) → n < m → get_or (all_nodes n) m false ≡ false
unfolding all_nodes
all_above n zero h = absurd (not-suc-le-zero h)
all_above n (suc m) h =
    let s : m ≡ length (replicate n true) + (m - n) = omega (arith, length-replicate n true) in
    ap (λ (x : ℕ). get_or (replicate n true ++ replicate (capacity - 1 - n) false) x false) s
    ∙ get_or-append-add (replicate n true) (replicate (capacity - 1 - n) false) (m - n) false
    ∙ get_falses (capacity - 1 - n) (m - n)

count_trues : (n : ℕ) → count_true (replicate n true) ≡ n
unfolding count_true
count_trues zero = refl
count_trues (suc n) = ap suc (count_trues n)

count_falses : (n : ℕ) → count_true (replicate n false) ≡ 0
unfolding count_true
count_falses zero = refl
count_falses (suc n) = count_falses n

pub count_all : (n : ℕ) → count_true (all_nodes n) ≡ n
unfolding all_nodes count_true
count_all n =
    omega (arith, count_append (replicate n true) (replicate (capacity - 1 - n) false), count_trues n, count_falses (capacity - 1 - n))
