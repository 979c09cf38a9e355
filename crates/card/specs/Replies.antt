-- The answers of the calls as numbers. "A refusal gives its number": 1 to 12 are document 01's, and 13 is document 02's (W-204). The other answers have no number
-- there; they are numbered from 64 on, here and nowhere else, and so they stand in the C header.
use Rattle.std.specs.Prelude.{ℕ}

-- what an answer has no use for is 0
pub record Reply : Type 0 where
  pub code : ℕ
  pub value : ℕ
  pub key : ℕ
  pub depth : ℕ

-- an answer that is its number alone
abbrev pub plain : ℕ → Reply
plain code = record { code = code; value = 0; key = 0; depth = 0 }

-- one with a value beside it
abbrev pub valued : ℕ → ℕ → Reply
valued code value = record { code = code; value = value; key = 0; depth = 0 }

-- the same answer with a depth beside it (document 02, W-203): how many internal nodes the look-up passed
abbrev pub with_depth : ℕ → Reply → Reply
with_depth depth r = record { code = r.code; value = r.value; key = r.key; depth = depth }

-- "or gives its number"
abbrev pub refusal : ℕ → Reply
refusal number = plain number

-- the value held under a key
abbrev pub holds : ℕ → Reply
holds value = valued 64 value

-- "absent"
abbrev pub absent : Reply
absent = plain 65

-- a step stored one word, in this place of the card
abbrev pub stored : ℕ → Reply
stored place = valued 66 place

-- "ready"
abbrev pub ready : Reply
ready = plain 67

-- opening handed back an idle state
abbrev pub idle : Reply
idle = plain 68

-- a call or a repair is in progress
abbrev pub started : Reply
started = plain 69

-- "The answer is the result's length in words or bytes"
abbrev pub long : ℕ → Reply
long length = valued 70 length

-- the state block lent has another length than a state's words
abbrev pub no_state : Reply
no_state = plain 71

-- document 02, W-201: a pair, and "none"
abbrev pub next : ℕ → ℕ → Reply
next key value = record { code = 72; value = value; key = key; depth = 0 }

abbrev pub nothing : Reply
nothing = plain 73

-- document 02, W-213: there is a record
abbrev pub fetched : Reply
fetched = plain 74

-- document 02, W-204: what a family holds
abbrev pub totalled : ℕ → Reply
totalled pairs = valued 75 pairs
