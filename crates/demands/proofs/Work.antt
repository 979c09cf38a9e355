-- What the work that a state tells says of what is being done.
use mathlib.Core.Path.{◌≡◌, refl, ap, sym, ◌∙◌}
use mathlib.Core.Bool.{Bool, true, false}
use mathlib.Core.Logic.{◌⊎◌, inl, inr}
use Prim.Native.Nat.{ℕ}
use Rattle.demands.specs.RationTable.{has_begun, work_of}
use Rattle.demands.specs.Table.{no_work, formatting, inserting, deleting}
use Rattle.state.specs.Memory.{settled_phase, settled}
use Rattle.state.specs.Steps.{is_idle, held_by}
use Rattle.state.specs.declared.Doing.{Doing}
use Rattle.state.specs.declared.Doing.TheVariants.{Idle, Formatting, Inserting, Deleting, Repairing}
use Rattle.state.specs.declared.Phase.{Phase}
use Rattle.state.specs.declared.Phase.TheVariants.{NotBegun, InHand, Decided}
use Rattle.state.specs.declared.Answer.TheVariants.{Ready, Absent, Value}
use Rattle.state.specs.declared.Task.{Task}
use Rattle.state.specs.declared.Task.TheVariants.{PutIn, TakeOut, Repair}
use Rattle.state.specs.declared.Held.TheVariants.{Nothing as NoneHeld, Task as HeldTask}
use Rattle.laws.proofs.Cases.{impossible}

pub true_false : {P : Type 0} → ◌≡◌ {A = Bool} true false → P
true_false e = impossible (cc)

-- the work tells whether the state is idle, and whether it is formatting
pub idle_work : (d : Doing) → is_idle d ≡ true → work_of d ≡ no_work
unfolding work_of is_idle
idle_work Idle e = refl
idle_work (Formatting made) e = true_false (sym e)
idle_work (Inserting key value phase) e = true_false (sym e)
idle_work (Deleting key phase value) e = true_false (sym e)
idle_work (Repairing key) e = true_false (sym e)

pub work_idle : (d : Doing) → work_of d ≡ no_work → is_idle d ≡ true
unfolding work_of is_idle
work_idle Idle e = refl
work_idle (Formatting made) e = impossible (cc)
work_idle (Inserting key value phase) e = impossible (cc)
work_idle (Deleting key phase value) e = impossible (cc)
work_idle (Repairing key) e = impossible (cc)

pub busy_work : (d : Doing) → is_idle d ≡ false → work_of d ≡ no_work → ⊥
busy_work d b e = true_false (sym (work_idle d e) ∙ b)

pub work_formatting : (d : Doing) → work_of d ≡ formatting → (made : ℕ) × (d ≡ Formatting made)
unfolding work_of
work_formatting Idle e = impossible (cc)
work_formatting (Formatting made) e = (made, refl)
work_formatting (Inserting key value phase) e = impossible (cc)
work_formatting (Deleting key phase value) e = impossible (cc)
work_formatting (Repairing key) e = impossible (cc)

-- the last store of a change leaves both as they are
pub settled_idle : (d : Doing) → is_idle (settled d) ≡ is_idle d
unfolding settled is_idle
settled_idle Idle = refl
settled_idle (Formatting made) = refl
settled_idle (Inserting key value phase) = refl
settled_idle (Deleting key phase value) = refl
settled_idle (Repairing key) = refl

settled_begun : (phase : Phase) → has_begun (settled_phase phase) ≡ has_begun phase
unfolding settled_phase has_begun
settled_begun NotBegun = refl
settled_begun InHand = refl
settled_begun Decided = refl

pub settled_work : (d : Doing) → work_of (settled d) ≡ work_of d
unfolding settled work_of
settled_work Idle = refl
settled_work (Formatting made) = refl
settled_work (Inserting key value phase) = ap (inserting key value) (settled_begun phase)
settled_work (Deleting key phase value) = ap (deleting key) (settled_begun phase)
settled_work (Repairing key) = refl

-- what is not formatting holds nothing, or a task
abbrev pub IdleOrTask : Doing → Type 0
IdleOrTask d = ((held_by d ≡ NoneHeld) × (work_of d ≡ no_work)) ⊎ ((task : Task) × (held_by d ≡ HeldTask task) × (work_of d ≡ no_work → ⊥))

pub idle_or_task : (d : Doing) → (work_of d ≡ formatting → ⊥) → IdleOrTask d
unfolding work_of held_by
idle_or_task Idle q = inl (refl, refl)
idle_or_task (Formatting made) q = absurd (q refl)
idle_or_task (Inserting key value NotBegun) q = inr (PutIn key value, refl, λ e. impossible (cc))
idle_or_task (Inserting key value InHand) q = inr (Repair key Absent, refl, λ e. impossible (cc))
idle_or_task (Inserting key value Decided) q = inr (Repair key Absent, refl, λ e. impossible (cc))
idle_or_task (Deleting key NotBegun value) q = inr (TakeOut key, refl, λ e. impossible (cc))
idle_or_task (Deleting key InHand value) q = inr (Repair key (Value value), refl, λ e. impossible (cc))
idle_or_task (Deleting key Decided value) q = inr (Repair key (Value value), refl, λ e. impossible (cc))
idle_or_task (Repairing key) q = inr (Repair key Ready, refl, λ e. impossible (cc))
