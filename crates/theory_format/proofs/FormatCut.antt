-- Formatting cut: "Cut before its first store, it leaves the card alone; before its last store, opening refuses with 2." The first
-- is `format_untouched`.
use mathlib.Core.Path.{◌≡◌}
use mathlib.Core.List.{List}
use mathlib.Core.Logic.{◌≢◌}
use Prim.Native.Nat.{ℕ, ◌≤◌}
use native.Mathlib.Omega.{arith}
use lib.ListN.{length, get_or}
use borrow.Author.Tests.{ne_eqb}
use Rattle.card.specs.Header.{card_refusal, Sized}
use Rattle.card.proofs.HeaderLaws.{sized_nodes, wrong_word0}
use Rattle.theory_format.proofs.FormatCard.{format_card, format_length, format_unfinished}
use Rattle.state.specs.Steps.{no_beginning}
use Rattle.call_open.specs.Opening.{open_of}

-- "2: word 0 not 1"
unmarked_refused : (greatest : ℕ) (card : List ℕ) (n : ℕ) → Sized greatest (length card) n → get_or card 0 0 ≢ 1 → open_of greatest card ≡ no_beginning 2
unfolding open_of card_refusal
unmarked_refused greatest card n s wrong = rw (sized_nodes greatest (length card) n s, ne_eqb n 0 (omega (arith, s.least)), wrong_word0 card n wrong)

pub cut_refused : (greatest : ℕ) (c : List ℕ) (n made : ℕ) → Sized greatest (length c) n → 1 ≤ made → made ≤ length c → open_of greatest (format_card n c made) ≡ no_beginning 2
cut_refused greatest c n made s low high =
    let u = format_unfinished n c made low high in
    unmarked_refused greatest (format_card n c made) n (rw (format_length n c made) s) (omega (arith, u.mark))
