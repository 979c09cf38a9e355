-- Document 01, "Dumps and the list program" and the rows 11 and 12 of "Refusal by place": "Reading a dump checks 11, 12; writing one
-- checks 1, 2, 3, 12." Nothing is assumed of any word or byte, save where a card is read back.
use Rattle.std.specs.Prelude.{◌≡◌, List, ℕ, ◌+◌, ◌*◌, ◌/◌, ◌%◌, ◌^◌, ◌≤◌, ◌<◌, length, get_or, take}
use Rattle.card.specs.Layout.{least_nodes, limited}
use Rattle.card.specs.Replies.{Reply, refusal, long}
use Rattle.card_dump.specs.Dump.{words_for}
use Rattle.demands.specs.Way.{nodes_on}
use Rattle.demands.specs.Refusals.{Rows, ByRows, end, row, card_rows}

-- "A dump is the card's words as bytes, low byte first": the word of the four bytes from number 4 × i on, and byte j of a word
abbrev pub word_of : List ℕ → ℕ → ℕ
word_of bytes i = get_or bytes (4 * i) 0 + 256 * get_or bytes (4 * i + 1) 0 + 256 ^ 2 * get_or bytes (4 * i + 2) 0 + 256 ^ 3 * get_or bytes (4 * i + 3) 0

abbrev pub byte_of : ℕ → ℕ → ℕ
byte_of word j = word / 256 ^ j % 256

-- "padded with zero bytes to a multiple of 512"
abbrev pub block_length : ℕ
block_length = 512

-- the least such multiple in which the four bytes of each of so many words have room
pub record PaddedLength (words size : ℕ) : Type 0 where
  pub in_blocks : size % block_length ≡ 0
  pub covers : 4 * words ≤ size
  pub least : (other : ℕ) → other % block_length ≡ 0 → 4 * words ≤ other → size ≤ other

-- N as a dump tells it, and how many words it then holds
abbrev pub nodes_in : List ℕ → ℕ
nodes_in dump = word_of dump 1

abbrev pub words_in : List ℕ → ℕ
words_in dump = words_for (nodes_in dump)

-- "Refusal 11: length 0, not a multiple of 512, or above 57,856; word 1 not 4 to 600; padded length for that N not the dump's; a
-- padding byte not 0."
pub data Damaged (greatest : ℕ) (dump : List ℕ) : Type 0 where
  empty : length dump ≡ 0 → Damaged greatest dump
  no_multiple : (length dump % block_length ≡ 0 → ⊥) → Damaged greatest dump
  too_long : (most : ℕ) → PaddedLength (words_for (limited greatest)) most → most < length dump → Damaged greatest dump
  bad_nodes : ((least_nodes ≤ nodes_in dump) × (nodes_in dump ≤ limited greatest) → ⊥) → Damaged greatest dump
  other_length : (PaddedLength (words_in dump) (length dump) → ⊥) → Damaged greatest dump
  not_zero : (i : ℕ) → 4 * words_in dump ≤ i → i < length dump → (get_or dump i 0 ≡ 0 → ⊥) → Damaged greatest dump

-- "12: lent slice shorter than the result", where so many words or bytes are lent
abbrev pub read_rows : ℕ → List ℕ → ℕ → Rows
read_rows greatest dump lent = row 11 (Damaged greatest dump) (row 12 (lent < words_in dump) end)

abbrev pub write_rows : ℕ → List ℕ → ℕ → Rows
write_rows greatest card lent = card_rows greatest card (nodes_on card) (row 12 ((size : ℕ) × PaddedLength (length card) size × (lent < size)) end)

-- What a call gives back: its reply, and the lent slice as it is afterwards.
module _ (lent : List ℕ) (result : Reply × List ℕ) where
  -- "A refusal gives its number, stores nothing"
  pub record RefusesDump (number : ℕ) : Type 0 where
    pub number_given : result.0 ≡ refusal number
    pub nothing_stored : result.1 ≡ lent

  -- "The answer is the result's length in words or bytes; those of the lent slice beyond it are untouched."
  pub record GivesResult (size : ℕ) : Type 0 where
    pub length_given : result.0 ≡ long size
    pub as_long : length result.1 ≡ length lent
    pub untouched : (i : ℕ) → size ≤ i → get_or result.1 i 0 ≡ get_or lent i 0

  pub record Reads (dump : List ℕ) : Type 0 where
    pub gives : GivesResult (words_in dump)
    pub words : (i : ℕ) → i < words_in dump → get_or result.1 i 0 ≡ word_of dump i

  pub record Writes (card : List ℕ) : Type 0 where
    pub size : ℕ
    pub padded : PaddedLength (length card) size
    pub gives : GivesResult size
    pub bytes : (i j : ℕ) → i < length card → j < 4 → get_or result.1 (4 * i + j) 0 ≡ byte_of (get_or card i 0) j
    pub zeros : (i : ℕ) → 4 * length card ≤ i → i < size → get_or result.1 i 0 ≡ 0

-- Reading takes a dump's bytes and the lent words, writing a card's words and the lent bytes; what is read or written stays as it
-- is, since neither call gives it back.
pub record Dumps (greatest : ℕ) (read write : List ℕ → List ℕ → Reply × List ℕ) : Type 0 where
  pub reads : (dump lent : List ℕ) → ByRows (read_rows greatest dump (length lent)) (RefusesDump lent (read dump lent)) (Reads lent (read dump lent) dump)
  pub writes : (card lent : List ℕ) → ByRows (write_rows greatest card (length lent)) (RefusesDump lent (write card lent)) (Writes lent (write card lent) card)
  -- what was written is never refused 11,
  pub undamaged : (card lent : List ℕ) (size : ℕ) → (write card lent).0 ≡ long size → Damaged greatest (take size (write card lent).1) → ⊥
  -- and a card of 32-bit words is read back from it, over any slice that is not shorter
  pub read_back : (card lent words : List ℕ) (size : ℕ) → ((i : ℕ) → get_or card i 0 < 2 ^ 32) → (write card lent).0 ≡ long size → length card ≤ length words
      → ((read (take size (write card lent).1) words).0 ≡ long (length card)) × (take (length card) (read (take size (write card lent).1) words).1 ≡ card)
