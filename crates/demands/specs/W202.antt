-- Document 02, W-202, "Padding check on big dumps": "However padding is tested now, test it eight bytes at a time, as one 64-bit
-- number proved 0 exactly when all eight are; its length is always a multiple of 32. Answers and refusals remain what they were."
use Rattle.std.specs.Prelude.{◌≡◌, List, ◌↔◌, ℕ, ◌+◌, ◌-◌, ◌*◌, ◌%◌, ◌^◌, ◌≤◌, ◌<◌, length, get_or, drop}
use Rattle.card.specs.Layout.{least_nodes, greatest_nodes, limited}
use Rattle.card.specs.Replies.{Reply, refusal, long}
use Rattle.card_dump.specs.Dump.{padded_length, words_for, dump_nodes}
use Rattle.demands.specs.Refusals.{Rows, ByRows, end, row}

-- the padding of a dump with N nodes: what makes the bytes of its 8 + 24 × N words a multiple of 512
abbrev pub padding_length : ℕ → ℕ
padding_length n = padded_length (words_for n) - 4 * words_for n

-- and of a dump, whose word 1 is N: what stands after those bytes
abbrev pub padding : List ℕ → List ℕ
padding dump = drop (4 * words_for (dump_nodes dump)) dump

-- Eight bytes as one number: those from number 8 × k on.
module _ (greatest : ℕ) (eight : List ℕ → ℕ → ℕ) where
  -- "Refusal 11: length 0, not a multiple of 512, or above 57,856; word 1 not 4 to 600; padded length for that N not the dump's; a
  -- padding byte not 0", the last of them by eights
  pub record WholeDump (dump : List ℕ) : Type 0 where
    pub not_empty : length dump ≡ 0 → ⊥
    pub in_blocks : length dump % 512 ≡ 0
    pub not_long : length dump ≤ padded_length (words_for (limited greatest))
    pub least : least_nodes ≤ dump_nodes dump
    pub most : dump_nodes dump ≤ limited greatest
    pub padded : padded_length (words_for (dump_nodes dump)) ≡ length dump
    pub zeros : (k : ℕ) → 4 * words_for (dump_nodes dump) ≤ 8 * k → 8 * k < length dump → eight dump k ≡ 0

  -- "Reading a dump checks 11, 12", where so many words are lent
  abbrev pub read_rows_by_eights : List ℕ → ℕ → Rows
  read_rows_by_eights dump lent = row 11 (WholeDump dump → ⊥) (row 12 (lent < words_for (dump_nodes dump)) end)

pub record W202 (greatest : ℕ) (eight : List ℕ → ℕ → ℕ) (read : List ℕ → ℕ → Reply) : Type 0 where
  -- "one 64-bit number", of bytes
  pub sixty_four : (dump : List ℕ) (k : ℕ) → ((i : ℕ) → get_or dump i 0 < 256) → eight dump k < 2 ^ 64
  pub exactly : (dump : List ℕ) (k : ℕ) → (eight dump k ≡ 0) ↔ ((i : ℕ) → i < 8 → get_or dump (8 * k + i) 0 ≡ 0)
  -- "its length is always a multiple of 32"
  pub in_eights : (n : ℕ) → least_nodes ≤ n → n ≤ greatest_nodes → padding_length n % 32 ≡ 0
  pub as_long : (dump : List ℕ) → WholeDump greatest eight dump → length (padding dump) ≡ padding_length (dump_nodes dump)
  -- "Answers and refusals remain what they were."
  pub reads : (dump : List ℕ) (lent : ℕ) → ByRows (read_rows_by_eights greatest eight dump lent) (λ r. read dump lent ≡ refusal r) (read dump lent ≡ long (words_for (dump_nodes dump)))
