-- Document 01: a store of formatting and of the change in hand, and what a step and a start hand back.
use Rattle.std.specs.Prelude.{Bool, true, false, List, ℕ, suc, length, set, eqb, ltb}
use Rattle.std.proofs.Math.Option.{Option, none, some}
use Rattle.laws.specs.Cases.{pick}
use Rattle.card.specs.Layout.{root_place, formatted_root}
use Rattle.card.specs.Stores.{Store}
use Rattle.state.specs.Memory.{Memory, no_memory, idled}
use Rattle.state.specs.declared.Doing.{Doing}
use Rattle.state.specs.declared.Doing.TheVariants.{Idle, Formatting, Inserting, Deleting, Repairing}
use Rattle.state.specs.declared.Phase.TheVariants.{NotBegun, InHand, Decided}
use Rattle.state.specs.Answer.{Answer}
use Rattle.state.specs.Answer.{Stored, Ready, Refused}
use Rattle.state.specs.declared.Answer.TheVariants.{Ready as AnswerReady, Absent as AnswerAbsent, Value as AnswerValue}
use Rattle.state.specs.declared.Task.TheVariants.{PutIn, TakeOut, Repair}
use Rattle.state.specs.declared.Held.{Held}
use Rattle.state.specs.declared.Held.TheVariants.{Nothing, Formatting as HeldFormatting, Task as HeldTask}
use Rattle.state.specs.Begun.{Begun}
use Rattle.state.specs.Begun.{Refused as BegunRefused}

unfoldable pub is_idle : Doing → Bool
is_idle Idle = true
is_idle (Formatting made) = false
is_idle (Inserting key value phase) = false
is_idle (Deleting key phase value) = false
is_idle (Repairing key) = false

-- what a state holds that is doing this: an insert or a delete has its first change to make, and then, as opening's repair has from
-- the start, the repairs on its key's way, after which it answers
unfoldable pub held_by : Doing → Held
held_by Idle = Nothing
held_by (Formatting made) = HeldFormatting made
held_by (Inserting key value NotBegun) = HeldTask (PutIn key value)
held_by (Inserting key value InHand) = HeldTask (Repair key AnswerAbsent)
held_by (Inserting key value Decided) = HeldTask (Repair key AnswerAbsent)
held_by (Deleting key NotBegun value) = HeldTask (TakeOut key)
held_by (Deleting key InHand value) = HeldTask (Repair key (AnswerValue value))
held_by (Deleting key Decided value) = HeldTask (Repair key (AnswerValue value))
held_by (Repairing key) = HeldTask (Repair key AnswerReady)

-- What opening and starting hand back: the answer and the state.
pub record Handed : Type 0 where
  pub begun : Begun
  pub memory : Memory

unfoldable pub no_beginning : ℕ → Handed
no_beginning r = record { begun = BegunRefused r; memory = no_memory }

-- What a step leaves: its answer, the card and the state handed back.
pub record Step : Type 0 where
  pub answer : Answer
  pub card : List ℕ
  pub memory : Memory

-- "A refusal gives its number, stores nothing and hands the state back unchanged."
unfoldable pub step_refused : ℕ → List ℕ → Memory → Step
step_refused r card m = record { answer = Refused r; card = card; memory = m }

-- "or gives the final answer and makes the state idle"
unfoldable pub step_final : Answer → List ℕ → Memory → Step
step_final a card m = record { answer = a; card = card; memory = idled m }

-- word i of a formatted card with n nodes, but the mark: "root node 1, an empty leaf, all else 0"
unfoldable pub formatted_word : ℕ → ℕ → ℕ
formatted_word n i =
    pick (eqb i 1) n (pick (eqb i 2) 8 (pick (eqb i 3) 24 (pick (eqb i root_place) formatted_root (pick (eqb i 8) 1 0))))

-- "0 in word 0, then every word from 1 to the last in rising order .., then 1 in word 0": the store after so many
unfoldable pub format_store : ℕ → ℕ → ℕ → Option Store
format_store n len made =
    pick (eqb made 0) (some (0, 0)) (pick (ltb made len) (some (made, formatted_word n made)) (pick (eqb made len) (some (0, 1)) none))

unfoldable pub formatting_from : Memory → ℕ → Memory
formatting_from m made = record { nodes = m.nodes; free = m.free; last = m.last; doing = Formatting made; rest = m.rest; cut = m.cut; depth = m.depth; totals = m.totals }

unfoldable pub step_format : List ℕ → Memory → ℕ → Option Store → Step
step_format card m made none = step_final Ready card m
step_format card m made (some s) = record { answer = Stored s.0; card = set card s.0 s.1; memory = formatting_from m (suc made) }

-- one store; "or its store is outside the card": refused, the state is handed back, and stored, the next one is
unfoldable pub step_store : List ℕ → Memory → Store → Memory → Step
step_store card m s next =
    pick (ltb s.0 (length card)) (record { answer = Stored s.0; card = set card s.0 s.1; memory = next }) (step_refused 9 card m)
