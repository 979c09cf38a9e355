-- What a step is on a card that holds a table, by what is being done.
use mathlib.Core.Path.{◌≡◌, refl, ap, ◌∙◌}
use mathlib.Core.List.{List, [], ◌∷◌}
use mathlib.Core.Bool.{Bool, false}
use mathlib.Core.Option.{Option}
use Prim.Native.Nat.{ℕ, ◌<◌}
use lib.ListN.{length, set}
use native.Mathlib.Omega.{arith}
use lib.Dec.{eqb}
use borrow.Author.Tests.{lt-ltb}
use Rattle.card.specs.Header.{nodes_of_length, header_refusal, Sized, Formatted}
use Rattle.card.proofs.HeaderLaws.{formatted_header}
use Rattle.card.specs.Stores.{Store}
use Rattle.change_plan.specs.Planning.{Preparation, balanced, prepared}
use Rattle.change_layout.specs.Mending.{next_repair}
use Rattle.laws.proofs.Cases.{bool_cases}
use Rattle.demands.proofs.Invariant.{Job, job_repair, job_insert, job_delete}
use Rattle.demands.specs.Book.{Update}
use Rattle.demands.specs.Events.{World, happens, step}
use Rattle.demands.specs.RationTable.{ration_table}
use Rattle.state.specs.Steps.{held_by, step_refused, step_final, step_store, is_idle}
use Rattle.call_step.specs.Calls.{planning, step_prepared, step_begin, step_task, step_checked, step_held, step_of}
use Rattle.call_step.proofs.StepLaws.{step_sized, task_due, idle_refused as table_idle}
use Rattle.state.specs.Memory.{Memory, idled, settled_phase, settled, advanced}
use Rattle.call_change.specs.Updates.{next_change}
use Rattle.state.specs.declared.Doing.{Doing}
use Rattle.state.specs.declared.Doing.TheVariants.{Idle, Inserting, Deleting}
use Rattle.state.specs.declared.Phase.{Phase}
use Rattle.state.specs.declared.Phase.TheVariants.{NotBegun, Decided}
use Rattle.state.proofs.Tasks.{in_hand_lem, decided}
use Rattle.state.specs.Answer.{Answer}
use Rattle.state.specs.Answer.{Stored}
use Rattle.state.specs.declared.Answer.TheVariants.{Ready as GivenReady, Absent as GivenAbsent, Value as GivenValue}
use Rattle.state.specs.declared.Task.{Task}
use Rattle.state.specs.declared.Task.TheVariants.{PutIn, TakeOut, Repair}
use Rattle.state.specs.declared.Held.TheVariants.{Task as HeldTask}
use Rattle.theory_tree.proofs.Cut.{cut}

-- the state, field by field
abbrev pub memory : ℕ → List Bool → ℕ → ℕ → List ℕ → Doing → List Store → List ℕ → Memory
memory n free last depth totals doing rest cut =
    record { nodes = n; free = free; last = last; doing = doing; rest = rest; cut = cut; depth = depth; totals = totals }

-- work in progress: a task is held
pub record Busy (doing : Doing) : Type 0 where
  pub task : Task
  pub held : held_by doing ≡ HeldTask task
  pub not_idle : is_idle doing ≡ false

pub job_busy : {phase : Phase} {doing : Doing} {key : ℕ} {final : Answer} {u : Option Update} → Job phase doing key final u → Busy doing
unfolding held_by is_idle
job_busy (job_repair {key = key}) = record { task = Repair key GivenReady; held = refl; not_idle = refl }
job_busy (job_insert {key = key} in_hand_lem) = record { task = Repair key GivenAbsent; held = refl; not_idle = refl }
job_busy (job_insert {key = key} decided) = record { task = Repair key GivenAbsent; held = refl; not_idle = refl }
job_busy (job_delete {key = key} {value = value} in_hand_lem) = record { task = Repair key (GivenValue value); held = refl; not_idle = refl }
job_busy (job_delete {key = key} {value = value} decided) = record { task = Repair key (GivenValue value); held = refl; not_idle = refl }

-- the last store of a change decides it
pub job_settled : {phase : Phase} {doing : Doing} {key : ℕ} {final : Answer} {u : Option Update} → Job phase doing key final u → Job Decided (settled doing) key final u
unfolding settled settled_phase
job_settled job_repair = job_repair
job_settled (job_insert in_hand_lem) = job_insert decided
job_settled (job_insert decided) = job_insert decided
job_settled (job_delete in_hand_lem) = job_delete decided
job_settled (job_delete decided) = job_delete decided

pub put_busy : (key value : ℕ) → Busy (Inserting key value NotBegun)
unfolding held_by is_idle
put_busy key value = record { task = PutIn key value; held = refl; not_idle = refl }

pub remove_busy : (key value : ℕ) → Busy (Deleting key NotBegun value)
unfolding held_by is_idle
remove_busy key value = record { task = TakeOut key; held = refl; not_idle = refl }

job_plan : {phase : Phase} {doing : Doing} {key : ℕ} {final : Answer} {u : Option Update} (j : Job phase doing key final u) (c : List ℕ) (m : Memory) → m.doing ≡ doing
    → step_task c m (job_busy j).task [] ≡ step_prepared c m doing final (next_repair c m.nodes key m.free m.last)
unfolding job_busy step_task step_begin next_change
job_plan job_repair c m e = rw e
job_plan (job_insert in_hand_lem) c m e = rw e
job_plan (job_insert decided) c m e = rw e
job_plan (job_delete in_hand_lem) c m e = rw e
job_plan (job_delete decided) c m e = rw e

module _ (greatest : ℕ) (c : List ℕ) (n : ℕ) (sized : Sized greatest (length c) n) (header : Formatted c n) where
  -- the checks that come first are passed
  checks_passed : (m : Memory) → m.nodes ≡ n → step_of greatest 1 c m ≡ step_held 1 c m (held_by m.doing)
  checks_passed m e = step_sized greatest 1 c m (rw e sized)

  headed : (m : Memory) → m.nodes ≡ n → header_refusal c m.nodes ≡ 0
  headed m e = rw e (formatted_header c n header)

  module _ (free : List Bool) (last depth : ℕ) (totals : List ℕ) where
    pub step_idle : step_of greatest 1 c (memory n free last depth totals Idle [] []) ≡ step_refused 10 c (memory n free last depth totals Idle [] [])
    unfolding held_by
    step_idle = checks_passed (memory n free last depth totals Idle [] []) refl ∙ table_idle 1 c (memory n free last depth totals Idle [] []) (headed (memory n free last depth totals Idle [] []) refl)

    module _ (doing : Doing) (busy : Busy doing) (cut : List ℕ) where
      work : (rest : List Store) → step_of greatest 1 c (memory n free last depth totals doing rest cut) ≡ step_task c (memory n free last depth totals doing rest cut) busy.task rest
      work rest =
          let m = memory n free last depth totals doing rest cut in
          checks_passed m refl ∙ ap (step_held 1 c m) busy.held ∙ task_due c m (omega (arith, sized.words)) (headed m refl) busy.task

      -- a store of the change in hand
      pub step_stores : (s : Store) (rest : List Store) → s.0 < length c → step_of greatest 1 c (memory n free last depth totals doing (s ∷ rest) cut)
          ≡ record { answer = Stored s.0; card = set c s.0 s.1; memory = advanced (memory n free last depth totals doing (s ∷ rest) cut) rest }
      unfolding step_task step_store
      step_stores s rest h = work (s ∷ rest) ∙ rw (lt-ltb s.0 (length c) h)

      -- no change in hand
      step_plans : step_of greatest 1 c (memory n free last depth totals doing [] cut) ≡ step_task c (memory n free last depth totals doing [] cut) busy.task []
      step_plans = work []

-- what a preparation makes of a step
pub prepared_ready : (c : List ℕ) (m : Memory) (doing : Doing) (final : Answer) (p : Preparation) → p ≡ balanced
    → step_prepared c m doing final p ≡ record { answer = final; card = c; memory = idled m }
unfolding step_prepared step_final
prepared_ready c m doing final p e = ap (step_prepared c m doing final) e

pub prepared_first : (c : List ℕ) (m : Memory) (doing : Doing) (final : Answer) (p : Preparation) (s : Store)
    (rest : List Store) (free : List Bool) (last : ℕ) (cut : List ℕ) → p ≡ prepared (s ∷ rest) free last cut → s.0 < length c
    → step_prepared c m doing final p ≡ record { answer = Stored s.0; card = set c s.0 s.1; memory = advanced (memory m.nodes free last m.depth m.totals doing [] cut) rest }
unfolding step_prepared step_store planning
prepared_first c m doing final p s rest free last cut e h = ap (step_prepared c m doing final) e ∙ rw (lt-ltb s.0 (length c) h)

-- the next change of a repair
pub step_repairs : (greatest : ℕ) (c : List ℕ) (n : ℕ) → Sized greatest (length c) n → Formatted c n → (free : List Bool) (last depth : ℕ) (totals : List ℕ) {phase : Phase}
    {doing : Doing} {key : ℕ} {final : Answer} {u : Option Update} (j : Job phase doing key final u)
    → step_of greatest 1 c (memory n free last depth totals doing [] []) ≡ step_prepared c (memory n free last depth totals doing [] []) doing final (next_repair c n key free last)
step_repairs greatest c n s f free last depth totals {doing = doing} j =
    step_plans greatest c n s f free last depth totals doing (job_busy j) [] ∙ job_plan j c (memory n free last depth totals doing [] []) refl

-- the first change of an update
pub step_puts : (greatest : ℕ) (c : List ℕ) (n : ℕ) → Sized greatest (length c) n → Formatted c n → (free : List Bool) (last depth : ℕ) (totals : List ℕ) (key value : ℕ)
    → step_of greatest 1 c (memory n free last depth totals (Inserting key value NotBegun) [] []) ≡ step_begin c
    (memory n free last depth totals (Inserting key value NotBegun) [] []) (next_change c n free last (Inserting key value NotBegun) (PutIn key value))
unfolding put_busy step_task
step_puts greatest c n s f free last depth totals key value = step_plans greatest c n s f free last depth totals (Inserting key value NotBegun) (put_busy key value) []

pub step_removes : (greatest : ℕ) (c : List ℕ) (n : ℕ) → Sized greatest (length c) n → Formatted c n → (free : List Bool) (last depth : ℕ) (totals : List ℕ) (key : ℕ)
    → step_of greatest 1 c (memory n free last depth totals (Deleting key NotBegun 0) [] [])
    ≡ step_begin c (memory n free last depth totals (Deleting key NotBegun 0) [] []) (next_change c n free last (Deleting key NotBegun 0) (TakeOut key))
unfolding remove_busy step_task
step_removes greatest c n s f free last depth totals key = step_plans greatest c n s f free last depth totals (Deleting key NotBegun 0) (remove_busy key 0) []

-- a step of an idle state is refused and changes nothing, whatever the card
pub idle_refused : (greatest : ℕ) (c : List ℕ) (m : Memory) → m.doing ≡ Idle → (r : ℕ) × (step_of greatest 1 c m ≡ step_refused r c m)
unfolding step_of held_by step_held step_checked
idle_refused greatest c m e =
    bool_cases (eqb (nodes_of_length greatest (length c)) 0) (λ q. rw q (1, refl)) (λ q.
    bool_cases (eqb (nodes_of_length greatest (length c)) m.nodes) (λ q₁.
    bool_cases (eqb (header_refusal c m.nodes) 0) (λ q₂. rw (q, q₁, e, q₂) (10, refl)) (λ q₂. rw (q, q₁, e, q₂) (header_refusal c m.nodes, refl)))
    (λ q₁. rw (q, q₁) (1, refl)))

pub idle_world : (greatest : ℕ) (w : World (ration_table greatest)) → w.state.doing ≡ Idle → happens (ration_table greatest) step w ≡ w
unfolding happens step_refused
idle_world greatest w e = rw (idle_refused greatest w.card w.state e).1
