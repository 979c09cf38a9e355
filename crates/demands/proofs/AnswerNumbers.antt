-- Refusals have numbers below 64, so that the number of an answer tells which answer it is.
use mathlib.Core.Bool.{Bool, true, false}
use mathlib.Core.List.{List, [], ◌∷◌}
use mathlib.Core.Path.{◌≡◌, refl}
use mathlib.Core.Option.{Option as Maybe, none, some}
use Prim.Native.Nat.{ℕ, ◌+◌, ◌<◌}
use native.Mathlib.Omega.{arith}
use lib.ListN.{length, get_or}
use lib.Dec.{eqb, ltb}
use Rattle.card.specs.Lines.{has_line, seen}
use Rattle.card.specs.Header.{nodes_of_length, header_refusal, card_refusal, must}
use Rattle.card_free.specs.NodeSet.{count_true}
use Rattle.walk.specs.Descent.{slot_of, way, leaf_of}
use Rattle.call_find.specs.Find.{found_in, found_at, find_of, find_in}
use Rattle.call_find.specs.Found.{Found}
use Rattle.call_find.specs.Found.{Value as FoundValue, Absent as FoundAbsent, Refused as FoundRefused}
use Rattle.card.specs.Layout.{node_at, search_start}
use Rattle.laws.proofs.Cases.{bool_cases}
use Rattle.call_open.specs.Opening.{open_sound, open_checked, open_of}
use Rattle.card_check.specs.Check.{Findings, table_check}
use Rattle.card_check.specs.Counting.{table_counted}
use Rattle.call_start.specs.Starts.{start_refused, start_accepted, start_depth, start_landed, start_checked, start_of}
use Rattle.state.specs.Memory.{Memory, advanced}
use Rattle.state.specs.Steps.{held_by, Step, is_idle, no_beginning, step_refused, step_final, step_format, step_store}
use Rattle.state.specs.Begun.{Begun}
use Rattle.state.specs.Begun.{Idle as OpenedIdle, Started, Refused as BegunRefused}
use Rattle.state.specs.declared.Doing.{Doing}
use Rattle.call_change.specs.Updates.{landing}
use Rattle.call_step.specs.Calls.{step_prepared, step_begin, step_task, placed_on, on_card, step_checked, step_held, step_of}
use Rattle.call_step.proofs.StepMemory.{Ends, next_ends}
use Rattle.change_plan.specs.Planning.{Preparation, refused, balanced, prepared}
use Rattle.card.specs.Stores.{Store}
use Rattle.state.proofs.Tasks.{task_of}
use Rattle.state.specs.Answer.{Answer}
use Rattle.state.specs.Answer.{Stored, Ready, Absent, Value, Refused}
use Rattle.state.specs.declared.Held.{Held}
use Rattle.state.specs.declared.Held.TheVariants.{Nothing, Formatting, Task as HeldTask}
use Rattle.state.specs.declared.Task.{Task}
use Rattle.std.specs.Prelude.{Option, Some, None}
use Rattle.walk.specs.declared.Landing.{Landing}
use Rattle.walk.specs.declared.Reached.{Reached}

abbrev pub SmallBegun : Begun → Type 0
SmallBegun OpenedIdle = Unit
SmallBegun Started = Unit
SmallBegun (BegunRefused r) = r < 64

must_small : (c : List ℕ) (i v r next : ℕ) → r < 64 → next < 64 → must c i v r next < 64
must_small c i v r next a b = bool_cases (eqb (get_or c i 0) v) (λ q. rw q b) (λ q. rw q a)

header_small : (c : List ℕ) (n : ℕ) → header_refusal c n < 64
unfolding header_refusal
header_small c n =
    must_small c 0 1 2 _ (omega arith)
    (must_small c 1 n 3 _ (omega arith) (must_small c 2 8 3 _ (omega arith) (must_small c 3 24 3 _ (omega arith)
    (must_small c 5 0 3 _ (omega arith) (must_small c 6 0 3 _ (omega arith) (must_small c 7 0 3 0 (omega arith) (omega arith)))))))

pub card_small : (greatest : ℕ) (c : List ℕ) → card_refusal greatest c < 64
unfolding card_refusal
card_small greatest c = bool_cases (eqb (nodes_of_length greatest (length c)) 0) (λ q. rw q (omega arith)) (λ q. rw q (header_small c (nodes_of_length greatest (length c))))

sound_small : (n last : ℕ) (totals : List ℕ) (f : Findings) → SmallBegun (open_sound n last totals f).begun
unfolding open_sound no_beginning
sound_small n last totals f = bool_cases (ltb (count_true f.free) (3 + f.run)) (λ a. rw a (omega arith)) (λ a. bool_cases f.violated (λ v. rw (a, v) tt) (λ v. rw (a, v) tt))

checked_small : (n last : ℕ) (totals : List ℕ) (x : Maybe (ℕ × Findings)) → SmallBegun (open_checked n last totals x).begun
unfolding open_checked no_beginning
checked_small n last totals none = omega arith
checked_small n last totals (some r) = sound_small n last totals r.1

pub open_small : (greatest : ℕ) (c : List ℕ) → SmallBegun (open_of greatest c).begun
unfolding open_of no_beginning
open_small greatest c =
    bool_cases (eqb (card_refusal greatest c) 0)
    (λ q. rw q (checked_small (nodes_of_length greatest (length c)) (search_start c) (table_counted c) (table_check c (nodes_of_length greatest (length c)))))
    (λ q. rw q (card_small greatest c))

landed_small : (m : Memory) (doing : Doing) (depth : ℕ) (room : Bool) (l : Option Landing) → SmallBegun (start_landed m doing depth room l).begun
unfolding start_landed start_refused start_accepted
landed_small m doing depth room None = omega arith
landed_small m doing depth true (Some l) = tt
landed_small m doing depth false (Some l) = omega arith

pub start_small : (greatest : ℕ) (c : List ℕ) (m : Memory) (key : ℕ) (doing : Doing) (room : Option Landing → Bool) → SmallBegun (start_of greatest 1 c m key doing room).begun
unfolding start_of start_checked start_refused has_line
start_small greatest c m key doing room =
    bool_cases (eqb (nodes_of_length greatest (length c)) 0) (λ q. rw q (omega arith)) (λ q.
    bool_cases (eqb (nodes_of_length greatest (length c)) m.nodes) (λ q₁.
    bool_cases (eqb (header_refusal c m.nodes) 0) (λ q₂.
    bool_cases (is_idle m.doing) (λ q₃.
    bool_cases (eqb key 0) (λ q₄. rw (q, q₁, q₂, q₃, q₄) (omega arith))
    (λ q₄. rw (q, q₁, q₂, q₃, q₄) (landed_small m doing (start_depth 1 c m key) (room (landing (seen 1 c) m.nodes key)) (landing (seen 1 c) m.nodes key))))
    (λ q₃. rw (q, q₁, q₂, q₃) (omega arith))) (λ q₂. rw (q, q₁, q₂) (header_small c m.nodes))) (λ q₁. rw (q, q₁) (omega arith)))

abbrev pub SmallFound : Found → Type 0
SmallFound (FoundValue v) = Unit
SmallFound FoundAbsent = Unit
SmallFound (FoundRefused r) = r < 64

in_small : (words : List ℕ) (s : Option ℕ) → SmallFound (found_in words s)
unfolding found_in
in_small words (Some i) = tt
in_small words None = tt

at_small : (c : List ℕ) (key : ℕ) (x : Option Reached) → SmallFound (found_at c key x)
unfolding found_at
at_small c key None = omega arith
at_small c key (Some l) = in_small (node_at c l.node) (slot_of (node_at c l.node) key)

pub find_small : (greatest line : ℕ) (c : List ℕ) (key : ℕ) → SmallFound (find_of greatest line c key)
unfolding find_of find_in
find_small greatest line c key =
    bool_cases (eqb (card_refusal greatest c) 0)
    (λ q. bool_cases (has_line c line)
    (λ l. bool_cases (eqb key 0) (λ z. rw (q, l, z) (omega arith)) (λ z. rw (q, l, z) (at_small (seen line c) key (leaf_of (way (seen line c) (nodes_of_length greatest (length c)) key)))))
    (λ l. rw (q, l) (omega arith)))
    (λ q. rw q (card_small greatest c))

-- ---- a step's

abbrev pub SmallAnswer : Answer → Type 0
SmallAnswer (Stored place) = Unit
SmallAnswer Ready = Unit
SmallAnswer Absent = Unit
SmallAnswer (Value v) = Unit
SmallAnswer (Refused r) = r < 64

ends_small : (a : Answer) → Ends a → SmallAnswer a
unfolding Ends
ends_small (Stored place) e = tt
ends_small Ready e = tt
ends_small Absent e = tt
ends_small (Value v) e = tt
ends_small (Refused r) e = absurd e

module _ (greatest : ℕ) (c : List ℕ) (m : Memory) where
  store_small : (s : Store) (next : Memory) → SmallAnswer (step_store c m s next).answer
  unfolding step_store step_refused
  store_small s next = bool_cases (ltb s.0 (length c)) (λ q. rw q tt) (λ q. rw q (omega arith))

  prepared_small : (doing : Doing) (final : Answer) (p : Preparation) → SmallAnswer final → SmallAnswer (step_prepared c m doing final p).answer
  unfolding step_prepared step_refused step_final
  prepared_small doing final refused h = omega arith
  prepared_small doing final balanced h = h
  prepared_small doing final (prepared ss free last out) h = store_small _ _

  task_small : (task : Task) (rest : List Store) → held_by m.doing ≡ HeldTask task → SmallAnswer (step_task c m task rest).answer
  unfolding step_task step_begin
  task_small task [] e = prepared_small _ _ _ (ends_small _ (next_ends greatest c m.nodes m.free m.last m.doing task (task_of m.doing task e)))
  task_small task (s ∷ rest) e = store_small s (advanced m rest)

placed_small : (c : List ℕ) (s : Step) → SmallAnswer s.answer → SmallAnswer (on_card 1 c s).answer
unfolding on_card placed_on
placed_small c s h = go s.answer h
  where
    go : (a : Answer) → SmallAnswer a → SmallAnswer (placed_on 1 c s a).answer
    go (Stored place) h = tt
    go Ready h = tt
    go Absent h = tt
    go (Value v) h = tt
    go (Refused r) h = h

module _ (greatest : ℕ) (c : List ℕ) (m : Memory) where
  checked_step_small : (due : Step) → SmallAnswer due.answer → SmallAnswer (step_checked c m due).answer
  unfolding step_checked step_refused
  checked_step_small due h = bool_cases (eqb (header_refusal c m.nodes) 0) (λ q. rw q h) (λ q. rw q (header_small c m.nodes))

  format_small : (made : ℕ) (o : Maybe Store) → SmallAnswer (step_format c m made o).answer
  unfolding step_format step_final
  format_small made none = tt
  format_small made (some s) = tt

  held_small : (held : Held) → held_by m.doing ≡ held → SmallAnswer (step_held 1 c m held).answer
  unfolding step_held step_refused
  held_small Nothing e = checked_step_small _ (omega arith)
  held_small (Formatting made) e = format_small made _
  held_small (HeldTask task) e = checked_step_small _ (placed_small c _ (task_small greatest (seen 1 c) m task m.rest e))

  pub step_small : SmallAnswer (step_of greatest 1 c m).answer
  unfolding step_of step_refused
  step_small =
      bool_cases (eqb (nodes_of_length greatest (length c)) 0) (λ q. rw q (omega arith))
      (λ q. bool_cases (eqb (nodes_of_length greatest (length c)) m.nodes) (λ q₁. rw (q, q₁) (held_small (held_by m.doing) refl)) (λ q₁. rw (q, q₁) (omega arith)))
