-- The refusal that a start is due, as a number. These are definitions; StartLaws says that they are those of Starts.
use Rattle.std.specs.Prelude.{List, Bool, true, ℕ, length, get_or, eqb, Option, Some, None}
use Rattle.card.specs.Header.{nodes_of_length, header_refusal}
use Rattle.card.specs.Layout.{depth_limit}
use Rattle.card.specs.Lines.{has_line, root_of, seen}
use Rattle.walk.specs.Descent.{root_position, Way, way_from}
use Rattle.laws.specs.Cases.{pick}
use Rattle.state.specs.Steps.{Handed, is_idle}
use Rattle.state.specs.Memory.{Memory}
use Rattle.call_change.specs.Updates.{landing, start_room}
use Rattle.call_start.specs.Starts.{start_refused, start_accepted, start_depth}
use Rattle.state.specs.declared.Doing.{Doing}
use Rattle.walk.specs.declared.Landing.{Landing}

-- the refusals 1, 2, 3, 7, 18 and 6 of starting an update, in this order, for a state of so many nodes that is idle or not; 0 where
-- none is due
unfoldable pub start_refusal : ℕ → ℕ → List ℕ → ℕ → Bool → ℕ → ℕ
start_refusal greatest line card nodes idle key =
    pick (eqb (nodes_of_length greatest (length card)) 0) 1
    (pick (eqb (nodes_of_length greatest (length card)) nodes)
    (pick (eqb (header_refusal card nodes) 0) (pick idle (pick (has_line card line) (pick (eqb key 0) 6 0) 18) 7) (header_refusal card nodes)) 1)

-- a key's way down from a line's root
abbrev pub line_way : ℕ → List ℕ → ℕ → ℕ → Way
line_way line card n key = way_from card n key depth_limit (root_position (get_or card (root_of line) 0))

-- the room that an update needs which may split its leaf, or one which never does
abbrev pub room_where : Bool → List ℕ → ℕ → ℕ → Option Landing → Bool
room_where splits card key room l = pick splits (start_room card key room l) true

-- 9 and 8, and 0 where neither is due
unfoldable pub landing_refusal : Bool → Option Landing → ℕ
landing_refusal room None = 9
landing_refusal room (Some l) = pick room 0 8

-- the early ones, for a state
abbrev pub early_refusal : ℕ → ℕ → List ℕ → Memory → ℕ → ℕ
early_refusal greatest line card m key = start_refusal greatest line card m.nodes (is_idle m.doing) key

-- all of them, in their order
abbrev pub due_refusal : ℕ → ℕ → List ℕ → Memory → ℕ → (Option Landing → Bool) → ℕ
due_refusal greatest line card m key room =
    pick (eqb (early_refusal greatest line card m key) 0)
    (landing_refusal (room (landing (seen line card) m.nodes key)) (landing (seen line card) m.nodes key)) (early_refusal greatest line card m key)

-- the internal nodes on the key's way; none where an early refusal is due, or 9
abbrev pub due_depth : ℕ → ℕ → List ℕ → Memory → ℕ → ℕ
due_depth greatest line card m key = pick (eqb (early_refusal greatest line card m key) 0) (start_depth line card m key) 0

-- what starting an update hands back, by the refusal that is due and that number
abbrev pub begun_by : ℕ → ℕ → Memory → Doing → Handed
begun_by refusal depth m doing = pick (eqb refusal 0) (start_accepted m doing depth) (start_refused refusal m)
