-- What holds of a card, its state and the book, at every moment.
use mathlib.Core.Path.{◌≡◌}
use mathlib.Core.List.{List, [], ◌∷◌}
use mathlib.Core.Bool.{Bool, true}
use mathlib.Core.Option.{Option, none, some}
use Prim.Native.Nat.{ℕ, suc, ◌+◌, ◌*◌, ◌≤◌, ◌<◌}
use lib.ListN.{length}
use Rattle.card.specs.Layout.{lowest_key, key_limit}
use Rattle.card.specs.Header.{Sized, Formatted}
use Rattle.card.specs.Stores.{Store}
use Rattle.theory_change.proofs.Line.{Line, Partition, size, Apart}
use Rattle.theory_change.proofs.Plays.{Openable, Changing}
use Rattle.theory_change.proofs.Repaired.{Mendable}
use Rattle.theory_change.proofs.Rewritten.{Sound}
use Rattle.card_family.proofs.FamilyLaws.{Totals}
use Rattle.demands.specs.Way.{leaf_full}
use Rattle.demands.proofs.Finishing.{update_stores_at}
use Rattle.demands.specs.Book.{Update, Outcome, Told, Hand, Book, book, feed, put, remove, goes_on, an_insert, a_delete, empty, holding}
use Rattle.demands.proofs.BookLaws.{Changes, Same, dictionary_answer}
use Rattle.demands.specs.Events.{World}
use Rattle.demands.specs.RationTable.{ration_table}
use Rattle.state.specs.Memory.{Memory}
use Rattle.call_change.specs.Updates.{landing, start_room}
use Rattle.state.specs.declared.Doing.{Doing}
use Rattle.state.specs.declared.Doing.TheVariants.{Idle, Inserting, Deleting, Repairing}
use Rattle.state.specs.declared.Phase.{Phase}
use Rattle.state.specs.declared.Phase.TheVariants.{NotBegun, InHand, Decided}
use Rattle.state.proofs.Tasks.{Underway}
use Rattle.state.specs.Answer.{Answer}
use Rattle.state.specs.Answer.{Ready, Absent, Value}
use Rattle.demands.proofs.Shapes.{after_shape}
use Rattle.theory_shapes.proofs.Bare.{bare}
use Rattle.theory_shapes.proofs.Whole.{Heads}
use Rattle.theory_tree.specs.Pairs.{pairs, lookup}
use Rattle.theory_tree.specs.Represent.{Holds}
use Rattle.theory_tree.specs.Height.{Height}
use Rattle.theory_tree.specs.Tree.{Tree}
use Rattle.theory_tree.specs.Violations.{table_violations}

-- a card with n nodes that holds the tree
pub record Table (greatest : ℕ) (c : List ℕ) (n : ℕ) (t : Tree) : Type 0 where
  pub sized : Sized greatest (length c) n
  pub header : Formatted c n
  pub holds : Holds c t
  pub sound : Sound t

-- work whose first change was planned, and whether that is in hand or made: the key it follows, its final answer, and its update,
-- which opening's repair has not
pub data Job : Phase → Doing → ℕ → Answer → Option Update → Type 0 where
  job_repair : {phase : Phase} {key : ℕ} → Job phase (Repairing key) key Ready none
  job_insert : {phase : Phase} {key value : ℕ} → Underway phase → Job phase (Inserting key value phase) key Absent (some (put key value))
  job_delete : {phase : Phase} {key value : ℕ} → Underway phase → Job phase (Deleting key phase value) key (Value value) (some (remove key))

-- the book has entered the update, if there is one: its deciding step was counted
pub data Entered : Option Update → Hand → Type 0 where
  no_update : Entered none empty
  updated : {u : Update} {deciding count : ℕ} → deciding ≤ count → Entered (some u) (holding u deciding count)

-- what the book is told of an update's start, and the hand that it then takes up
abbrev pub told_of : Update → List ℕ → Outcome → Told
told_of (put key value) c o = an_insert key value o (leaf_full c key)
told_of (remove key) c o = a_delete key o

abbrev pub taken_up : Told → Hand
taken_up t = (feed t (book [] empty)).in_hand

-- steps enough from the start of an update of the tree to its final answer: 73 stores for its first change, 73 for each level
pub record UpdateSteps (t : Tree) (steps : ℕ) : Type 0 where
  pub height : ℕ
  pub level : Height height t
  pub enough : update_stores_at height + 1 ≤ steps

-- What is being done, by the state and the book's hand, and the final answer due to it.
pub data Stage (c : List ℕ) (line : Line) (t goal : Tree) (steps : ℕ) : Memory → Hand → Answer → Type 0 where
  -- nothing is being done, and no answer is due: any will do
  stage_idle : {free : List Bool} {last depth : ℕ} {due : Answer} {totals : List ℕ} → table_violations t ≡ 0 → size t + 3 ≤ line.limit → Partition line free t → bare t ≡ goal
      → Stage c line t goal steps (record { nodes = line.nodes; free = free; last = last; doing = Idle; rest = []; cut = []; depth = depth; totals = totals }) empty due
  -- started: nothing is planned yet
  stage_put : {free : List Bool} {last depth key value : ℕ} {totals : List ℕ} (room : ℕ) → table_violations t ≡ 0 → size t + 3 ≤ line.limit → Partition line free t → lowest_key ≤ key
      → key < key_limit → start_room c key room (landing c line.nodes key) ≡ true → size t + room ≤ line.limit → UpdateSteps t steps → after_shape (put key value) (bare t) ≡ goal
      → Stage c line t goal steps (record { nodes = line.nodes; free = free; last = last; doing = Inserting key value NotBegun; rest = []; cut = []; depth = depth; totals = totals })
      (taken_up (told_of (put key value) c goes_on)) (dictionary_answer (lookup key (pairs t)))
  stage_remove : {free : List Bool} {last depth key : ℕ} {totals : List ℕ} → table_violations t ≡ 0 → size t + 3 ≤ line.limit → Partition line free t
      → lowest_key ≤ key → key < key_limit → UpdateSteps t steps → after_shape (remove key) (bare t) ≡ goal
      → Stage c line t goal steps (record { nodes = line.nodes; free = free; last = last; doing = Deleting key NotBegun 0; rest = []; cut = []; depth = depth; totals = totals })
      (taken_up (told_of (remove key) c goes_on)) (dictionary_answer (lookup key (pairs t)))
  -- the first change of an update, whose last store enters it
  stage_first : {free : List Bool} {last depth key : ℕ} {doing : Doing} {due : Answer} {u : Update}
      {deciding count : ℕ} {cut : List ℕ} {s : Store} {rest : List Store} {totals : List ℕ} → Job InHand doing key due (some u)
      → (p : Changing c line key t (s ∷ rest) free cut) → Changes u (pairs t) (pairs p.next)
      → count + suc (length rest) ≡ deciding → suc (length rest) + (73 * p.level + 1) ≤ steps → Heads p.level (bare p.next) goal
      → Stage c line t goal steps (record { nodes = line.nodes; free = free; last = last; doing = doing; rest = s ∷ rest; cut = cut; depth = depth; totals = totals }) (holding u deciding count) due
  -- between two changes of a repair
  stage_between : {free : List Bool} {last depth key : ℕ} {doing : Doing} {due : Answer} {u : Option Update} {h : Hand} {totals : List ℕ} → Job Decided doing key
      due u → Entered u h → (deep : ℕ) → Mendable key line.limit t deep → Partition line free t → 73 * deep + 1 ≤ steps → Heads deep (bare t) goal
      → Stage c line t goal steps (record { nodes = line.nodes; free = free; last = last; doing = doing; rest = []; cut = []; depth = depth; totals = totals }) h due
  -- within a change of a repair, which keeps the pairs
  stage_within : {free : List Bool} {last depth key : ℕ} {doing : Doing} {due : Answer} {u : Option Update} {h : Hand} {cut : List ℕ} {s : Store}
      {rest : List Store} {totals : List ℕ} → Job Decided doing key due u → Entered u h → (p : Changing c line key t (s ∷ rest) free cut)
      → Same (pairs p.next) (pairs t) → suc (length rest) + (73 * p.level + 1) ≤ steps → Heads p.level (bare p.next) goal
      → Stage c line t goal steps (record { nodes = line.nodes; free = free; last = last; doing = doing; rest = s ∷ rest; cut = cut; depth = depth; totals = totals }) h due

pub record Inv (greatest : ℕ) (line : Line) (steps : ℕ) (w : World (ration_table greatest)) (b : Book) : Type 0 where
  pub tree : Tree
  pub table : Table greatest w.card line.nodes tree
  pub openable : Openable line.limit tree
  pub same : Same (pairs tree) b.held
  -- document 02, W-204: the totals are those of the tree on the card
  pub counted : Totals w.state.totals (pairs tree)
  -- document 02, W-207: no node is in both trees of a card
  pub apart : Apart line tree
  -- what the work in hand comes to, without numbers
  pub goal : Tree
  -- the final answer that it gives
  pub due : Answer
  pub stage : Stage w.card line tree goal steps w.state b.in_hand due

-- the invariant, with this goal and this answer due
abbrev pub Toward : (greatest : ℕ) → Tree → Answer → Line → ℕ → World (ration_table greatest) → Book → Type 0
Toward greatest goal due line steps w b = (i : Inv greatest line steps w b) × (i.goal ≡ goal) × (i.due ≡ due)
