-- Document 02, W-209: what stands in the way of a new number. "For each line on the card it prints `held V`, `slot`, or `split J free
-- F need M`, M being j + 5."
use Rattle.std.specs.Prelude.{Bool, List, ℕ, length, eqb, Option, Some, None}
use Rattle.laws.specs.Cases.{pick}
use Rattle.card.specs.Header.{nodes_of_length}
use Rattle.card.specs.Layout.{node_at}
use Rattle.card_free.specs.NodeSet.{count_true}
use Rattle.state.specs.Begun.{Begun}
use Rattle.state.specs.Begun.{Idle, Started, Refused as BegunRefused}
use Rattle.call_change.specs.Updates.{landing, insert_reason, split_need, held, slot, full, Reason as InLeaf}
use Rattle.call_open.specs.Opening.{open_of}
use Rattle.call_repair.specs.Repairing.{opened_card}
use Rattle.card_dump.specs.Dump.{dump_words, read_answer}
use Rattle.card_dump.specs.Answer.{Answer}
use Rattle.card_dump.specs.Answer.{Length, Refused as ReadRefused}
use Rattle.reason.specs.Reason.{Reason}
use Rattle.reason.specs.Reason.{Refused, NoKey, Held, Slot, Split}
use Rattle.walk.specs.declared.Landing.{Landing}

-- by what an insert finds in its leaf, below so many 11-child nodes without a break, with so many nodes free. "M being j + 5": what
-- the split needs is part of the reason
unfoldable pub reason_for : InLeaf → ℕ → ℕ → Reason
reason_for (held v) run free = Held v
reason_for (slot i) run free = Slot
reason_for full run free = Split run free (split_need run)

-- in the leaf that the key leads to; "9: on the way down"
unfoldable pub reason_landed : List ℕ → List Bool → ℕ → Option Landing → Reason
reason_landed card free key None = Refused 9
reason_landed card free key (Some l) = reason_for (insert_reason (node_at card l.node) key) l.run (count_true free)

-- on a card with these free nodes; a key of 0 is no key
unfoldable pub reason_on : ℕ → List ℕ → List Bool → ℕ → Reason
reason_on greatest card free key =
    pick (eqb (nodes_of_length greatest (length card)) 0) (Refused 1)
    (pick (eqb key 0) NoKey (reason_landed card free key (landing card (nodes_of_length greatest (length card)) key)))

-- "opens and repairs it"; "refusals print first, as `list` prints them"
unfoldable pub reason_begun : ℕ → List ℕ → ℕ → Begun → Reason
reason_begun greatest card key (BegunRefused r) = Refused r
reason_begun greatest card key Idle = reason_on greatest (opened_card greatest card).card (opened_card greatest card).memory.free key
reason_begun greatest card key Started = reason_on greatest (opened_card greatest card).card (opened_card greatest card).memory.free key

unfoldable pub reason_of : ℕ → List ℕ → ℕ → Reason
reason_of greatest card key = reason_begun greatest card key (open_of greatest card).begun

-- "A program reads a dump from standard input": of a card up to some greatest N, into so many words
unfoldable pub reason_read : ℕ → List ℕ → ℕ → Answer → Reason
reason_read greatest dump key (ReadRefused r) = Refused r
reason_read greatest dump key (Length size) = reason_of greatest (dump_words size dump) key

unfoldable pub reason_in_dump : ℕ → List ℕ → ℕ → ℕ → Reason
reason_in_dump greatest dump lent key = reason_read greatest dump key (read_answer greatest dump lent)
