-- Document 01: "Opening stores nothing, works out the free nodes, and hands back an idle state, or one with the repair in progress".
use Rattle.std.specs.Prelude.{List, ℕ, ◌+◌, length, eqb, ltb}
use Rattle.std.proofs.Math.Option.{Option, none, some}
use Rattle.laws.specs.Cases.{pick}
use Rattle.card.specs.Header.{nodes_of_length, card_refusal}
use Rattle.card.specs.Layout.{search_start}
use Rattle.card_free.specs.NodeSet.{count_true}
use Rattle.card_check.specs.Check.{Findings, table_check}
use Rattle.card_check.specs.Counting.{table_counted}
use Rattle.state.specs.Memory.{resting}
use Rattle.state.specs.Steps.{Handed, no_beginning}
use Rattle.state.specs.declared.Doing.TheVariants.{Idle, Repairing}
use Rattle.state.specs.Begun.{Idle as OpenedIdle, Started}

-- "5: free nodes fewer than 3 plus the 11-child nodes without a break straight above a tagged node"; "an idle state, or one
-- with the repair in progress"; `last` is taken for the node given last, and these are the totals
unfoldable pub open_sound : ℕ → ℕ → List ℕ → Findings → Handed
open_sound n last totals f =
    pick (ltb (count_true f.free) (3 + f.run)) (no_beginning 5)
    (pick f.violated
    (record { begun = Started; memory = resting n f.free last totals (Repairing f.key) })
    (record { begun = OpenedIdle; memory = resting n f.free last totals Idle }))

-- "4: table not sound"
unfoldable pub open_checked : ℕ → ℕ → List ℕ → Option (ℕ × Findings) → Handed
open_checked n last totals none = no_beginning 4
open_checked n last totals (some r) = open_sound n last totals r.1

-- 1, 2, 3; "after opening, [the search] begins at the node following the root's" (document 02, W-205); the totals are "rebuilt at
-- opening" (W-204)
unfoldable pub open_of : ℕ → List ℕ → Handed
open_of greatest card =
    pick (eqb (card_refusal greatest card) 0)
    (open_checked (nodes_of_length greatest (length card)) (search_start card) (table_counted card) (table_check card (nodes_of_length greatest (length card))))
    (no_beginning (card_refusal greatest card))
