-- Document 01, "Dumps and the list program": "opens and repairs it in memory, and prints .. N, free nodes, internal levels,
-- pairs. Then key and value". Document 02, W-201: "Walking an unchanged card from 0 lists each pair once, rising, as `list` now
-- does, 3 before 7 in its sample." W-204: "`list` adds a line `family F n` for each family with n above 0".
use Rattle.std.specs.Prelude.{List, [], ◌∷◌, ℕ, ◌+◌, ◌*◌, length, set, eqb, ltb}
use Rattle.std.proofs.Math.Option.{Option, none, some}
use Rattle.laws.specs.Cases.{pick}
use Rattle.card.specs.Layout.{greatest_nodes}
use Rattle.card.specs.Header.{nodes_of_length}
use Rattle.card_free.specs.NodeSet.{count_true}
use Rattle.card_check.specs.Check.{Findings, table_check}
use Rattle.card_check.specs.Counting.{table_counted}
use Rattle.call_open.specs.Opening.{open_of}
use Rattle.call_repair.specs.Repairing.{opened_card}
use Rattle.state.specs.Begun.{Begun}
use Rattle.state.specs.Begun.{Idle, Started, Refused}
use Rattle.walk_next.specs.Successor.{walk_from}
use Rattle.card_dump.specs.Dump.{dump_words, read_answer}
use Rattle.card_dump.specs.Answer.{Answer}
use Rattle.card_dump.specs.Answer.{Length, Refused as ReadRefused}

-- no card has more pairs than 11 for each of its nodes
abbrev pub most_pairs : ℕ
most_pairs = 11 * greatest_nodes

-- ---- what is listed

-- "First line: N, free nodes, internal levels, pairs. Then key and value", and between them what each family holds, a total for each of 16
pub record Listing : Type 0 where
  pub nodes : ℕ
  pub free : ℕ
  pub levels : ℕ
  pub families : List ℕ
  pub pairs : List (ℕ × ℕ)

-- "Refused, it prints `refused ` and the number only."
pub data Listed : Type 0 where
  refused : ℕ → Listed
  listed : Listing → Listed

-- a table that was checked; "4: table not sound". The totals are those that the check counts
unfoldable pub list_checked : ℕ → List ℕ → ℕ → Option (ℕ × Findings) → Listed
list_checked greatest card n none = refused 4
list_checked greatest card n (some r) =
    listed (record { nodes = n; free = count_true r.1.free; levels = r.0; families = table_counted card; pairs = walk_from greatest 1 most_pairs card 0 })

unfoldable pub list_table : ℕ → List ℕ → ℕ → Listed
list_table greatest card n = pick (eqb n 0) (refused 1) (list_checked greatest card n (table_check card n))

-- "opens and repairs it in memory"
unfoldable pub list_begun : ℕ → List ℕ → Begun → Listed
list_begun greatest card (Refused r) = refused r
list_begun greatest card Idle = list_table greatest (opened_card greatest card).card (nodes_of_length greatest (length card))
list_begun greatest card Started = list_table greatest (opened_card greatest card).card (nodes_of_length greatest (length card))

-- a card: opened, repaired, and its table read
unfoldable pub list_card : ℕ → List ℕ → Listed
list_card greatest card = list_begun greatest card (open_of greatest card).begun

unfoldable pub list_read : ℕ → List ℕ → Answer → Listed
list_read greatest dump (ReadRefused r) = refused r
list_read greatest dump (Length size) = list_card greatest (dump_words size dump)

-- a dump of a card up to some greatest N, read into so many words: "Reading a dump checks 11, 12"
unfoldable pub list_dump : ℕ → List ℕ → ℕ → Listed
list_dump greatest dump lent = list_read greatest dump (read_answer greatest dump lent)

-- ---- how the pairs are stored: key, value, key, value .., as many as a lent slice has room for

-- where the next pair goes, and the words
pub record Laid : Type 0 where
  pub at : ℕ
  pub words : List ℕ

abbrev pub laid : ℕ → List ℕ → Laid
laid at words = record { at = at; words = words }

unfoldable pub lay_pair : ℕ × ℕ → Laid → Laid
lay_pair p l = pick (ltb (l.at + 1) (length l.words)) (laid (l.at + 2) (set (set l.words l.at p.0) (l.at + 1) p.1)) l

unfoldable pub lay_pairs : List (ℕ × ℕ) → Laid → Laid
lay_pairs [] l = l
lay_pairs (p ∷ ps) l = lay_pairs ps (lay_pair p l)

-- the words of a listing in a lent slice
unfoldable pub lay_listed : Listed → List ℕ → Laid
lay_listed (refused r) words = laid 0 words
lay_listed (listed l) words = lay_pairs l.pairs (laid 0 words)
