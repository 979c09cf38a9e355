-- The card after so many stores of formatting, and what each of its words is then.
use mathlib.Core.Path.{◌≡◌, refl, ◌∙◌}
use mathlib.Core.List.{List}
use mathlib.Core.Option.{Option, none, some}
use mathlib.Core.Logic.{by_cases}
use Prim.Native.Nat.{ℕ, zero, suc, ◌≤◌, ◌<◌}
use native.Mathlib.Omega.{arith}
use native.Mathlib.Decide.{ℕ_discrete}
use lib.ListN.{length, set, get_or, length-set}
use lib.Seq.{get_or-set_same, get_or-set_other}
use Rattle.card.specs.Stores.{Store}
use Rattle.theory_format.proofs.FormatStores.{first_store, rising_store, last_store}
use Rattle.state.specs.Steps.{formatted_word, format_store}

-- a store, where there is one
abbrev pub stored : Option Store → List ℕ → List ℕ
stored none card = card
stored (some s) card = set card s.0 s.1

-- its place
abbrev pub place_of : Option Store → ℕ
place_of none = 0
place_of (some s) = s.0

-- the card c after so many stores of formatting it for n nodes
unfoldable pub format_card : ℕ → List ℕ → ℕ → List ℕ
format_card n c zero = c
format_card n c (suc made) = stored (format_store n (length c) made) (format_card n c made)

pub format_untouched : (n : ℕ) (c : List ℕ) → format_card n c 0 ≡ c
unfolding format_card
format_untouched n c = refl

-- one store more
pub format_next : (n : ℕ) (c : List ℕ) (made : ℕ) (s : Store) → format_store n (length c) made ≡ some s → format_card n c (suc made) ≡ set (format_card n c made) s.0 s.1
unfolding format_card
format_next n c made s e = rw e

length_stored : (s : Option Store) (card : List ℕ) → length (stored s card) ≡ length card
length_stored none card = refl
length_stored (some s) card = simp length-set

pub format_length : (n : ℕ) (c : List ℕ) (made : ℕ) → length (format_card n c made) ≡ length c
unfolding format_card
format_length n c zero = refl
format_length n c (suc made) = length_stored (format_store n (length c) made) (format_card n c made) ∙ format_length n c made

-- After the first store and before the last: word 0 is 0, the words up to the last one stored are formatted, the rest are as
-- they were.
pub record Unfinished (n : ℕ) (c : List ℕ) (made : ℕ) (card : List ℕ) : Type 0 where
  pub mark : get_or card 0 0 ≡ 0
  pub written : (i : ℕ) → 1 ≤ i → i < made → get_or card i 0 ≡ formatted_word n i
  pub kept : (i : ℕ) → made ≤ i → get_or card i 0 ≡ get_or c i 0

first_stored_lem : (n : ℕ) (c : List ℕ) → 0 < length c → Unfinished n c 1 (set c 0 0)
first_stored_lem n c h =
    record {
      mark = get_or-set_same c 0 0 0 h;
      written = λ i low high. absurd (omega arith);
      kept = λ i past. get_or-set_other c 0 i 0 0 (omega arith);
    }

next_stored : (n : ℕ) (c : List ℕ) (made : ℕ) (card : List ℕ) → 1 ≤ made → made < length card → Unfinished n c made card → Unfinished n c (suc made) (set card made (formatted_word n made))
next_stored n c made card low high u =
    record {
      mark = get_or-set_other card made 0 (formatted_word n made) 0 (omega arith) ∙ u.mark;
      written = λ i a b. by_cases (ℕ_discrete i made)
          (λ e. rw e (get_or-set_same card made (formatted_word n made) 0 high))
          (λ d. get_or-set_other card made i (formatted_word n made) 0 d ∙ u.written i a (omega arith));
      kept = λ i past. get_or-set_other card made i (formatted_word n made) 0 (omega arith) ∙ u.kept i (omega arith);
    }

pub format_unfinished : (n : ℕ) (c : List ℕ) (made : ℕ) → 1 ≤ made → made ≤ length c → Unfinished n c made (format_card n c made)
format_unfinished n c zero low high = absurd (omega arith)
format_unfinished n c (suc zero) low high = rw (format_next n c 0 (0, 0) (first_store n (length c)), format_untouched n c) (first_stored_lem n c (omega arith))
format_unfinished n c (suc (suc made)) low high =
    rw (format_next n c (suc made) (suc made, formatted_word n (suc made)) (rising_store n (length c) (suc made) (omega arith) (omega arith)))
    (next_stored n c (suc made) (format_card n c (suc made)) (omega arith) (omega (arith, format_length n c (suc made))) (format_unfinished n c (suc made) (omega arith) (omega arith)))

-- After the last store: word 0 is 1 and all others are formatted.
pub record Finished (n len : ℕ) (card : List ℕ) : Type 0 where
  pub size : length card ≡ len
  pub mark : get_or card 0 0 ≡ 1
  pub written : (i : ℕ) → 1 ≤ i → i < len → get_or card i 0 ≡ formatted_word n i

-- "8 + 24 × N + 1 stores": as many as the card has words, and one
pub format_finished : (n : ℕ) (c : List ℕ) → 0 < length c → Finished n (length c) (format_card n c (suc (length c)))
format_finished n c some_words =
    let len = format_length n c (length c) in
    let u = format_unfinished n c (length c) (omega arith) (omega arith) in
    rw (format_next n c (length c) (0, 1) (last_store n (length c) some_words)) (record {
      size = simp length-set len;
      mark = get_or-set_same (format_card n c (length c)) 0 1 0 (omega arith);
      written = λ i a b. get_or-set_other (format_card n c (length c)) 0 i 1 0 (omega arith) ∙ u.written i a b;
    })
