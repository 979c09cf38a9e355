-- Document 02, W-213: "A value is an offset in a lent byte block: one length byte from 1 to 255, then that many record bytes."
use Rattle.std.specs.Prelude.{◌||◌, List, [], ℕ, ◌+◌, length, get_or, take, drop, eqb, ltb, leb}
use Rattle.laws.specs.Cases.{pick}
use Rattle.card.specs.Replies.{Reply, refusal, absent, fetched}
use Rattle.call_find.specs.Find.{find_of}
use Rattle.call_find.specs.Found.{Found as Look}
use Rattle.call_find.specs.Found.{Value, Absent as NotHeld, Refused as NoLook}
use Rattle.call_record.specs.Fetched.{Fetched}
use Rattle.call_record.specs.Fetched.{Found, Absent, Refused}

-- "23: offset at or past the block's end. 24: length 0 or record running past the end"; 0 where neither is due
unfoldable pub record_refusal : List ℕ → ℕ → ℕ
record_refusal block at = pick (leb (length block) at) 23 (pick (eqb (get_or block at 0) 0 || ltb (length block) (at + 1 + get_or block at 0)) 24 0)

-- "that part of the lent block, without the length byte"
unfoldable pub record_at : List ℕ → ℕ → List ℕ
record_at block at = take (get_or block at 0) (drop (at + 1) block)

-- ---- the record, by what the find answers: "Where there is no record the part is empty"

unfoldable pub record_for : List ℕ → Look → List ℕ
record_for block (Value at) = pick (eqb (record_refusal block at) 0) (record_at block at) []
record_for block NotHeld = []
record_for block (NoLook r) = []

unfoldable pub record_of : ℕ → ℕ → List ℕ → ℕ → List ℕ → List ℕ
record_of greatest line card key block = record_for block (find_of greatest line card key)

-- ---- "a second question over the same inputs tells "found", "absent" or the refusal"

unfoldable pub fetched_at : List ℕ → ℕ → Fetched
fetched_at block at = pick (eqb (record_refusal block at) 0) Found (Refused (record_refusal block at))

-- 23 and 24 come "after a find that succeeded"
unfoldable pub fetched_for : List ℕ → Look → Fetched
fetched_for block (Value at) = fetched_at block at
fetched_for block NotHeld = Absent
fetched_for block (NoLook r) = Refused r

unfoldable pub fetch_of : ℕ → ℕ → List ℕ → ℕ → List ℕ → Fetched
fetch_of greatest line card key block = fetched_for block (find_of greatest line card key)

-- ---- its answer as numbers

unfoldable pub fetch_reply : Fetched → Reply
fetch_reply Found = fetched
fetch_reply Absent = absent
fetch_reply (Refused r) = refusal r
