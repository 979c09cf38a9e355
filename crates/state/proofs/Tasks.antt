-- What task a state holds that is doing this.
use mathlib.Core.Path.{◌≡◌, subst}
use Prim.Native.Nat.{ℕ}
use Rattle.laws.proofs.Cases.{impossible}
use Rattle.state.specs.Steps.{held_by}
use Rattle.state.specs.declared.Doing.{Doing}
use Rattle.state.specs.declared.Doing.TheVariants.{Idle, Formatting, Inserting, Deleting, Repairing}
use Rattle.state.specs.declared.Phase.{Phase}
use Rattle.state.specs.declared.Phase.TheVariants.{NotBegun, InHand, Decided}
use Rattle.state.specs.declared.Task.{Task}
use Rattle.state.specs.declared.Task.TheVariants.{PutIn, TakeOut, Repair}
use Rattle.state.specs.declared.Held.TheVariants.{Task as HeldTask}
use Rattle.state.specs.declared.Answer.TheVariants.{Ready, Absent, Value}

-- a first change that is in hand or made
pub data Underway : Phase → Type 0 where
  in_hand_lem : Underway InHand
  decided : Underway Decided

-- an update's first change is to be made, or was made, and opening's repair has none
pub data TaskOf : Doing → Task → Type 0 where
  putting : {key value : ℕ} → TaskOf (Inserting key value NotBegun) (PutIn key value)
  taking : {key value : ℕ} → TaskOf (Deleting key NotBegun value) (TakeOut key)
  put : {key value : ℕ} {phase : Phase} → Underway phase → TaskOf (Inserting key value phase) (Repair key Absent)
  taken : {key value : ℕ} {phase : Phase} → Underway phase → TaskOf (Deleting key phase value) (Repair key (Value value))
  opened : {key : ℕ} → TaskOf (Repairing key) (Repair key Ready)

same_task : (t u : Task) → HeldTask t ≡ HeldTask u → t ≡ u
same_task t u e = cc

pub task_of : (d : Doing) (t : Task) → held_by d ≡ HeldTask t → TaskOf d t
unfolding held_by
task_of Idle t e = impossible (cc)
task_of (Formatting made) t e = impossible (cc)
task_of (Inserting key value NotBegun) t e = subst (TaskOf (Inserting key value NotBegun)) (same_task _ t e) putting
task_of (Inserting key value InHand) t e = subst (TaskOf (Inserting key value InHand)) (same_task _ t e) (put in_hand_lem)
task_of (Inserting key value Decided) t e = subst (TaskOf (Inserting key value Decided)) (same_task _ t e) (put decided)
task_of (Deleting key NotBegun value) t e = subst (TaskOf (Deleting key NotBegun value)) (same_task _ t e) taking
task_of (Deleting key InHand value) t e = subst (TaskOf (Deleting key InHand value)) (same_task _ t e) (taken in_hand_lem)
task_of (Deleting key Decided value) t e = subst (TaskOf (Deleting key Decided value)) (same_task _ t e) (taken decided)
task_of (Repairing key) t e = subst (TaskOf (Repairing key)) (same_task _ t e) opened
