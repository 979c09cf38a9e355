-- Document 01: starting to format and starting an update, with their refusals in the order of "Refusal by place".
use Rattle.std.specs.Prelude.{Bool, true, false, List, ℕ, length, set, eqb, Option, Some, None}
use Rattle.laws.specs.Cases.{pick}
use Rattle.card.specs.Header.{nodes_of_length, header_refusal}
use Rattle.card.specs.Layout.{formatted_root}
use Rattle.card.specs.Lines.{has_line, seen}
use Rattle.walk.specs.Descent.{way, leaf_of, depth_of}
use Rattle.card_family.specs.Families.{no_totals}
use Rattle.card_free.specs.NodeSet.{all_nodes, count_true}
use Rattle.call_change.specs.Updates.{landing, start_room}
use Rattle.state.specs.Memory.{Memory, resting}
use Rattle.state.specs.declared.Doing.{Doing}
use Rattle.state.specs.declared.Doing.TheVariants.{Formatting, Inserting, Deleting}
use Rattle.state.specs.declared.Phase.TheVariants.{NotBegun}
use Rattle.state.specs.Begun.{Started, Refused as BegunRefused}
use Rattle.state.specs.Steps.{is_idle, Handed, no_beginning}
use Rattle.walk.specs.declared.Landing.{Landing}

-- STARTING TO FORMAT. "Formatting needs no earlier state"; while it goes on the free nodes are those of the table it makes, and the
-- root of that table is taken for the node given last (document 02, W-205); the totals are "0 while formatting" (W-204)
unfoldable pub format_of : ℕ → List ℕ → Handed
format_of greatest card =
    pick (eqb (nodes_of_length greatest (length card)) 0) (no_beginning 1)
    (record {
      begun = Started;
      memory = resting (nodes_of_length greatest (length card))
          (set (all_nodes (nodes_of_length greatest (length card))) formatted_root false) formatted_root no_totals (Formatting 0);
    })

-- STARTING AN UPDATE. "Starting an update stores nothing." Refusals 1, 2, 3, 7, 18, 6, 9, and 8 for an insert.
unfoldable pub start_refused : ℕ → Memory → Handed
start_refused r m = record { begun = BegunRefused r; memory = m }

-- the internal nodes on the key's way are kept for the final answer: "when the call began" (document 02, W-203)
unfoldable pub start_accepted : Memory → Doing → ℕ → Handed
start_accepted m doing depth =
    record { begun = Started; memory = record { nodes = m.nodes; free = m.free; last = m.last; doing = doing; rest = m.rest; cut = m.cut; depth = depth; totals = m.totals } }

-- those on the way of a key in a line's table, for a state of so many nodes
abbrev pub start_depth : ℕ → List ℕ → Memory → ℕ → ℕ
start_depth line card m key = depth_of (leaf_of (way (seen line card) m.nodes key))

-- "9: node number 0 or above N, kind not 1 to 3, no children, or more than 10 internal nodes"
unfoldable pub start_landed : Memory → Doing → ℕ → Bool → Option Landing → Handed
start_landed m doing depth room None = start_refused 9 m
start_landed m doing depth room (Some l) = pick room (start_accepted m doing depth) (start_refused 8 m)

-- "18: line number not one the card has, just before 6" (document 02, W-207); "8: key absent, leaf full, free nodes fewer than j + 5"; an
-- update that is no insert always has room
unfoldable pub start_checked : ℕ → List ℕ → Memory → ℕ → Doing → (Option Landing → Bool) → Handed
start_checked line card m key doing room =
    pick (is_idle m.doing)
    (pick (has_line card line)
    (pick (eqb key 0) (start_refused 6 m)
    (start_landed m doing (start_depth line card m key) (room (landing (seen line card) m.nodes key)) (landing (seen line card) m.nodes key)))
    (start_refused 18 m))
    (start_refused 7 m)

unfoldable pub start_of : ℕ → ℕ → List ℕ → Memory → ℕ → Doing → (Option Landing → Bool) → Handed
start_of greatest line card m key doing room =
    pick (eqb (nodes_of_length greatest (length card)) 0) (start_refused 1 m)
    (pick (eqb (nodes_of_length greatest (length card)) m.nodes)
    (pick (eqb (header_refusal card m.nodes) 0) (start_checked line card m key doing room) (start_refused (header_refusal card m.nodes) m))
    (start_refused 1 m))

-- "8: .. free nodes fewer than j + 5": "Steps and refusal 8 go by these bits"
abbrev pub room_of : Memory → ℕ
room_of m = count_true m.free

unfoldable pub insert_of : ℕ → ℕ → List ℕ → Memory → ℕ → ℕ → Handed
insert_of greatest line card m key value = start_of greatest line card m key (Inserting key value NotBegun) (start_room (seen line card) key (room_of m))

unfoldable pub delete_of : ℕ → ℕ → List ℕ → Memory → ℕ → Handed
delete_of greatest line card m key = start_of greatest line card m key (Deleting key NotBegun 0) (λ l. true)
