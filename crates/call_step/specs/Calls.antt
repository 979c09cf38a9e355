-- Document 01: the steps, with their refusals in the order of "Refusal by place".
use Rattle.std.specs.Prelude.{Bool, List, [], ◌∷◌, ℕ, ◌+◌, ◌*◌, length, get_or, set, drop, eqb}
use Rattle.laws.specs.Cases.{pick}
use Rattle.card.specs.Layout.{depth_limit}
use Rattle.card.specs.Header.{nodes_of_length, header_refusal}
use Rattle.card.specs.Lines.{seen, on_line}
use Rattle.card.specs.Stores.{Store}
use Rattle.change_plan.specs.Planning.{Preparation, refused, balanced, prepared}
use Rattle.call_change.specs.Updates.{FirstChange, next_change}
use Rattle.state.specs.Memory.{Memory, advanced}
use Rattle.state.specs.declared.Doing.{Doing}
use Rattle.state.specs.declared.Task.{Task}
use Rattle.state.specs.declared.Held.{Held}
use Rattle.state.specs.declared.Held.TheVariants.{Nothing, Formatting, Task as HeldTask}
use Rattle.state.specs.Answer.{Answer}
use Rattle.state.specs.Answer.{Stored, Ready, Absent, Value, Refused}
use Rattle.state.specs.Steps.{held_by, Step, step_refused, step_final, format_store, step_format, step_store}

-- STEPS.
-- the state with a change planned
unfoldable pub planning : Memory → Doing → List Bool → ℕ → List ℕ → Memory
planning m doing free last cut = record { nodes = m.nodes; free = free; last = last; doing = doing; rest = []; cut = cut; depth = m.depth; totals = m.totals }

-- a step where no change is in hand: refused, the final answer, or the first store of the change prepared, which has one
unfoldable pub step_prepared : List ℕ → Memory → Doing → Answer → Preparation → Step
step_prepared card m doing final refused = step_refused 9 card m
step_prepared card m doing final balanced = step_final final card m
step_prepared card m doing final (prepared stores free last cut) =
    step_store card m (get_or stores 0 (0, 0)) (advanced (planning m doing free last cut) (drop 1 stores))

-- the first step of a change
unfoldable pub step_begin : List ℕ → Memory → FirstChange → Step
step_begin card m f = step_prepared card m f.doing f.final f.preparation

-- a store of the change in hand, or the next change
unfoldable pub step_task : List ℕ → Memory → Task → List Store → Step
step_task card m task [] = step_begin card m (next_change card m.nodes m.free m.last m.doing task)
step_task card m task (s ∷ rest) = step_store card m s (advanced m rest)

-- document 02, W-207: a step of a line's own table, on the card that has the line. Its store stands in the card's word for it, and its
-- answer names that word.
unfoldable pub placed_on : ℕ → List ℕ → Step → Answer → Step
placed_on line card s (Stored place) =
    record { answer = Stored (on_line line place); card = set card (on_line line place) (get_or s.card place 0); memory = s.memory }
placed_on line card s Ready = record { answer = Ready; card = card; memory = s.memory }
placed_on line card s Absent = record { answer = Absent; card = card; memory = s.memory }
placed_on line card s (Value v) = record { answer = Value v; card = card; memory = s.memory }
placed_on line card s (Refused r) = record { answer = Refused r; card = card; memory = s.memory }

unfoldable pub on_card : ℕ → List ℕ → Step → Step
on_card line card s = placed_on line card s s.answer

-- "all but formatting": 2 and 3, and then what is due
unfoldable pub step_checked : List ℕ → Memory → Step → Step
step_checked card m due = pick (eqb (header_refusal card m.nodes) 0) due (step_refused (header_refusal card m.nodes) card m)

-- by what the state holds, and the line that it is held for: "10: state idle", and "Formatting steps check only 1."
unfoldable pub step_held : ℕ → List ℕ → Memory → Held → Step
step_held line card m Nothing = step_checked card m (step_refused 10 card m)
step_held line card m (Formatting made) = step_format card m made (format_store m.nodes (length card) made)
step_held line card m (HeldTask task) = step_checked card m (on_card line card (step_task (seen line card) m task m.rest))

-- "1: length not 8 + 24 × N, N 4 to 600; or N not the state's"
unfoldable pub step_of : ℕ → ℕ → List ℕ → Memory → Step
step_of greatest line card m =
    pick (eqb (nodes_of_length greatest (length card)) 0) (step_refused 1 card m)
    (pick (eqb (nodes_of_length greatest (length card)) m.nodes) (step_held line card m (held_by m.doing)) (step_refused 1 card m))

-- how many steps a repair takes at most: 73 stores for each level that a way can have, and the final answer
abbrev pub repair_steps : ℕ
repair_steps = 73 * depth_limit + 1
