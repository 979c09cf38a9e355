-- Document 01, "Dumps and the list program": what a dump is, when one is refused, and what reading and writing one
-- answer and store. A dump is a list of bytes, a card a list of words.
use Rattle.std.specs.Prelude.{Bool, false, ◌||◌, not, List, [], ◌∷◌, ◌++◌, ℕ, zero, suc, ◌+◌, ◌*◌, ◌/◌, ◌%◌, length, get_or, drop, eqb, ltb}
use Rattle.laws.specs.Cases.{pick}
use Rattle.laws.specs.Lists.{pad, all_zero}
use Rattle.card.specs.Layout.{least_nodes, limited}
use Rattle.card.specs.Header.{card_refusal}
use Rattle.card_dump.specs.Answer.{Answer}
use Rattle.card_dump.specs.Answer.{Length, Refused}

-- ---- a dump

-- the bytes of a word, "low byte first"
unfoldable pub word_bytes : ℕ → List ℕ
word_bytes w = w % 256 ∷ w / 256 % 256 ∷ w / 65536 % 256 ∷ w / 16777216 % 256 ∷ []

-- "the card's words as bytes"
unfoldable pub card_bytes : List ℕ → List ℕ
card_bytes [] = []
card_bytes (w ∷ card) = word_bytes w ++ card_bytes card

-- the length in bytes of the dump of so many words: "padded .. to a multiple of 512"
unfoldable pub padded_length : ℕ → ℕ
padded_length words = (4 * words + 511) / 512 * 512

-- "A dump is the card's words as bytes, low byte first, padded with zero bytes to a multiple of 512."
unfoldable pub dump_of : List ℕ → List ℕ
dump_of card = pad (padded_length (length card)) (card_bytes card)

-- word i of a dump, "low byte first"
unfoldable pub word_at : List ℕ → ℕ → ℕ
word_at dump i = get_or dump (4 * i) 0 + 256 * get_or dump (4 * i + 1) 0 + 65536 * get_or dump (4 * i + 2) 0 + 16777216 * get_or dump (4 * i + 3) 0

-- so many words of a dump, from word 0 on
unfoldable pub dump_words : ℕ → List ℕ → List ℕ
dump_words zero dump = []
dump_words (suc n) dump = word_at dump 0 ∷ dump_words n (drop 4 dump)

-- ---- refusals

-- "With N nodes (4 to 600) it has exactly 8 + 24 × N words."
abbrev pub words_for : ℕ → ℕ
words_for n = 8 + 24 * n

-- "57,856": the dump's length for the greatest N
abbrev pub greatest_dump : ℕ → ℕ
greatest_dump greatest = padded_length (words_for (limited greatest))

-- N as a dump says it: "word 1"
abbrev pub dump_nodes : List ℕ → ℕ
dump_nodes dump = word_at dump 1

-- "Refusal 11: length 0, not a multiple of 512, or above 57,856; word 1 not 4 to 600; padded length for that N not the
-- dump's; a padding byte not 0."
unfoldable pub faults : ℕ → List ℕ → List Bool
faults greatest dump =
    eqb (length dump) 0
    ∷ not (eqb (length dump % 512) 0)
    ∷ ltb (greatest_dump greatest) (length dump)
    ∷ ltb (dump_nodes dump) least_nodes
    ∷ ltb (limited greatest) (dump_nodes dump)
    ∷ not (eqb (padded_length (words_for (dump_nodes dump))) (length dump))
    ∷ not (all_zero (drop (4 * words_for (dump_nodes dump)) dump))
    ∷ []

-- one of the tests holds
abbrev pub any : List Bool → Bool
any [] = false
any (t ∷ ts) = t || any ts

-- refusal 11 is due
unfoldable pub damaged : ℕ → List ℕ → Bool
damaged greatest dump = any (faults greatest dump)

-- "The answer is the result's length in words or bytes"; "12: lent slice shorter than the result"
unfoldable pub fitting_length : ℕ → ℕ → Answer
fitting_length size lent = pick (ltb lent size) (Refused 12) (Length size)

-- "those of the lent slice beyond it are untouched"; "A refusal .. stores nothing"
abbrev pub lent_after : Answer → List ℕ → List ℕ → List ℕ
lent_after (Length size) result lent = result ++ drop size lent
lent_after (Refused r) result lent = lent

-- ---- "Reading a dump checks 11, 12"

-- the answer, where so many words are lent
unfoldable pub read_answer : ℕ → List ℕ → ℕ → Answer
read_answer greatest dump lent = pick (damaged greatest dump) (Refused 11) (fitting_length (words_for (dump_nodes dump)) lent)

-- the lent words afterwards
unfoldable pub read_over : ℕ → List ℕ → List ℕ → List ℕ
read_over greatest dump words = lent_after (read_answer greatest dump (length words)) (dump_words (words_for (dump_nodes dump)) dump) words

-- ---- "writing one checks 1, 2, 3, 12"

-- the answer, where so many bytes are lent
unfoldable pub write_answer : ℕ → List ℕ → ℕ → Answer
write_answer greatest card lent = pick (eqb (card_refusal greatest card) 0) (fitting_length (padded_length (length card)) lent) (Refused (card_refusal greatest card))

-- the lent bytes afterwards
unfoldable pub write_over : ℕ → List ℕ → List ℕ → List ℕ
write_over greatest card bytes = lent_after (write_answer greatest card (length bytes)) (dump_of card) bytes
