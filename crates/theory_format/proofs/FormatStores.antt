-- Document 01: formatting is "0 in word 0, then every word from 1 to the last in rising order (root node 1, an empty leaf, all
-- else 0), then 1 in word 0". Each of these stores by its number, and the words that they put on the card.
use mathlib.Core.Path.{◌≡◌, refl}
use mathlib.Core.Option.{some}
use Prim.Native.Nat.{ℕ, zero, suc, ◌≤◌, ◌<◌}
use native.Mathlib.Omega.{arith}
use borrow.Author.Tests.{lt-ltb, le-ltb, ne_eqb, eq-eqb}
use Rattle.card.specs.Stores.{Store}
use Rattle.laws.proofs.Cases.{order}
use Rattle.state.specs.Steps.{formatted_word, format_store}

pub first_store : (n len : ℕ) → format_store n len 0 ≡ some (0, 0)
unfolding format_store
first_store n len = refl

pub rising_store : (n len made : ℕ) → 1 ≤ made → made < len → format_store n len made ≡ some (made, formatted_word n made)
unfolding format_store
rising_store n len made low high = rw (ne_eqb made 0 (omega arith), lt-ltb made len high)

pub last_store : (n len : ℕ) → 0 < len → format_store n len len ≡ some (0, 1)
unfolding format_store
last_store n len some_words = rw (ne_eqb len 0 (omega arith), le-ltb len len (omega arith), eq-eqb len len refl)

-- "root node 1, an empty leaf, all else 0"
pub header_words : (n : ℕ)
    → (formatted_word n 1 ≡ n) × (formatted_word n 2 ≡ 8) × (formatted_word n 3 ≡ 24) × (formatted_word n 4 ≡ 1) × (formatted_word n 5 ≡ 0) × (formatted_word n 6 ≡ 0) × (formatted_word n 7 ≡ 0)
unfolding formatted_word
header_words n = (refl, refl, refl, refl, refl, refl, refl)

pub leaf_kind : (n : ℕ) → formatted_word n 8 ≡ 1
unfolding formatted_word
leaf_kind n = refl

pub other_words : (n i : ℕ) → 8 < i → formatted_word n i ≡ 0
unfolding formatted_word
other_words n i past = rw (ne_eqb i 1 (omega arith), ne_eqb i 2 (omega arith), ne_eqb i 3 (omega arith), ne_eqb i 4 (omega arith), ne_eqb i 8 (omega arith))

-- a store for each word of the card, and one
pub some_store : (n len made : ℕ) → 0 < len → made ≤ len → (s : Store) × (format_store n len made ≡ some s)
some_store n len zero some_words h = ((0, 0), first_store n len)
some_store n len (suc made) some_words h =
    order (suc made) len (λ o. ((suc made, formatted_word n (suc made)), rising_store n len (suc made) (omega arith) o))
    (λ o. let e : suc made ≡ len = omega arith in ((0, 1), rw e (last_store n len some_words)))
