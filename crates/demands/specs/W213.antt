-- Document 02, W-213, "Fetch the dose record".
use Rattle.std.specs.Prelude.{◌≡◌, List, [], ◌⊎◌, ◌↔◌, ℕ, ◌+◌, ◌≤◌, ◌<◌, length, get_or, take, drop}
use Rattle.card.specs.Replies.{Reply, refusal, holds, absent, fetched}
use Rattle.demands.specs.Table.{Table}
use Rattle.demands.specs.Refusals.{Rows, ByRows, find_rows, end, row}

-- "23: offset at or past the block's end. 24: length 0 or record running past the end."
abbrev pub record_rows : List ℕ → ℕ → Rows
record_rows block at = row 23 (length block ≤ at) (row 24 ((get_or block at 0 ≡ 0) ⊎ (length block < at + 1 + get_or block at 0)) end)

-- what the two questions answer: the part of the block that is handed back, and the reply
module _ (part : List ℕ) (reply : Reply) where
  -- "Where there is no record the part is empty, and a second question .. tells "found", "absent" or the refusal."
  pub record NoRecord (why : Reply) : Type 0 where
    pub told : reply ≡ why
    pub empty : part ≡ []

  -- "A value is an offset in a lent byte block: one length byte from 1 to 255, then that many record bytes. The found record is
  -- handed back as that part of the lent block, without the length byte"
  pub record IsRecord (block : List ℕ) (at : ℕ) : Type 0 where
    pub told : reply ≡ fetched
    pub whole : at + 1 + get_or block at 0 ≤ length block
    pub those_bytes : part ≡ take (get_or block at 0) (drop (at + 1) block)
    pub as_many : length part ≡ get_or block at 0
    pub least : 1 ≤ length part
    -- a byte is below 256
    pub most : ((i : ℕ) → get_or block i 0 < 256) → length part ≤ 255

  -- the value found is the offset; "Both after a find that succeeded."
  abbrev pub AtOffset : List ℕ → ℕ → Type 0
  AtOffset block at = ByRows (record_rows block at) (λ r. NoRecord (refusal r)) (IsRecord block at)

  -- by the reply of a find that is not refused
  abbrev pub ByFind : List ℕ → Reply → Type 0
  ByFind block found = ((found ≡ absent) × NoRecord absent) ⊎ ((at : ℕ) × (found ≡ holds at) × AtOffset block at)

-- For every card, key and block. Nothing lent is written: neither question gives a card or a block back.
pub record W213 (greatest : ℕ) (T : Table) (part : List ℕ → ℕ → List ℕ → List ℕ) (reply : List ℕ → ℕ → List ℕ → Reply) : Type 0 where
  -- the find's own refusals, 1, 2, 3, 6 and 9, come first
  pub answers : (c : List ℕ) (key : ℕ) (block : List ℕ) → ByRows (find_rows greatest c key)
      (λ r. (T.find c key ≡ refusal r) × NoRecord (part c key block) (reply c key block) (refusal r)) (ByFind (part c key block) (reply c key block) block (T.find c key))
  -- the two questions agree: "found" exactly where the part is not empty
  pub found_exactly : (c : List ℕ) (key : ℕ) (block : List ℕ) → (reply c key block ≡ fetched) ↔ (1 ≤ length (part c key block))
  pub absent_exactly : (c : List ℕ) (key : ℕ) (block : List ℕ) → (reply c key block ≡ absent) ↔ (T.find c key ≡ absent)
