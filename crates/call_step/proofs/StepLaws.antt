-- Laws of the steps: one for each branch of the code.
use mathlib.Core.Path.{◌≡◌, refl, ap, sym, subst, ◌∙◌}
use mathlib.Core.List.{List, [], ◌∷◌}
use mathlib.Core.Bool.{Bool, true, false, not, ◌&&◌}
use mathlib.Core.Logic.{by_cases}
use Prim.Native.Nat.{ℕ, ◌≤◌}
use native.Mathlib.Omega.{arith}
use native.Mathlib.Decide.{ℕ_discrete}
use lib.ListN.{length, get_or, drop}
use borrow.Author.Tests.{ne_eqb, eq-eqb}
use Rattle.laws.proofs.Cases.{impossible}
use Rattle.card.specs.Header.{nodes_of_length, header_refusal, Sized}
use Rattle.card.proofs.HeaderLaws.{nodes_sized, sized_nodes}
use Rattle.card.specs.Lines.{seen}
use Rattle.card.specs.Stores.{Store}
use Rattle.state.specs.Memory.{Memory, advanced}
use Rattle.state.specs.Results.{more_to_store}
use Rattle.state.specs.Steps.{Step, is_idle, held_by, step_refused, step_store, format_store, step_format}
use Rattle.state.specs.declared.State.{State}
use Rattle.state.specs.Block.{state_words, block_word, doing_in, head_in, memory_in}
use Rattle.state.specs.Answer.{Answer}
use Rattle.state.specs.Answer.{Refused}
use Rattle.state.specs.declared.Answer.TheVariants.{Ready as AnswerReady, Absent as AnswerAbsent, Value as AnswerValue}
use Rattle.state.specs.declared.Doing.{Doing}
use Rattle.state.specs.declared.Doing.TheVariants.{Idle, Formatting, Inserting, Deleting, Repairing}
use Rattle.state.specs.declared.Phase.TheVariants.{NotBegun, InHand, Decided}
use Rattle.state.specs.declared.Task.{Task}
use Rattle.state.specs.declared.Task.TheVariants.{PutIn, TakeOut, Repair}
use Rattle.state.specs.declared.Held.{Held}
use Rattle.state.specs.declared.Held.TheVariants.{Nothing, Formatting as HeldFormatting, Task as HeldTask}
use Rattle.state.proofs.StepLaws.{more_none}
use Rattle.call_step.specs.Calls.{step_task, on_card, step_checked, step_held, step_of}
use Rattle.call_step.specs.Clauses.{StepMade, MadeOn, StepCall, HoldsTask}
use Rattle.call_step.proofs.ContractLaws.{refused_on_lem}
use Rattle.call_step.proofs.LineSteps.{as_made, first_line_lem}
use Rattle.call_step.proofs.StepMemory.{held_formatting, formatting_word, step_right}

-- ---- a call

module _ (greatest line : ℕ) (card b : List ℕ) where
  -- no state
  pub call_no_state : (length b ≡ state_words → ⊥) → StepCall greatest line card b card b (Refused 71)
  call_no_state p = record { made = λ l. absurd (p l); no_state_lem = λ n. (refl, refl, refl) }

  pub call_made : {card_after after : List ℕ} {answer : Answer} (due : Step) → length b ≡ state_words → step_of greatest line card (memory_in b) ≡ due
      → StepMade (seen line card) b card_after after answer due → StepCall greatest line card b card_after after answer
  call_made {card_after} {after} {answer} due l e s =
      let made = subst (StepMade (seen line card) b card_after after answer) (sym e) s in
      let right = step_right greatest line card b l in
      record {
        made = λ z. record {
          answered = made.answered;
          stored = made.stored;
          words = made.words ∙ right.1;
          handed = ap memory_in made.words ∙ right.0;
        };
        no_state_lem = λ n. absurd (n l);
      }

-- ---- "1: length not 8 + 24 × N, N 4 to 600; or N not the state's"

module _ (greatest line : ℕ) (card : List ℕ) (m : Memory) where
  pub step_sized : Sized greatest (length card) m.nodes → step_of greatest line card m ≡ step_held line card m (held_by m.doing)
  unfolding step_of
  step_sized s =
      let e : nodes_of_length greatest (length card) ≡ m.nodes = sized_nodes greatest (length card) m.nodes s in
      simp (ne_eqb (nodes_of_length greatest (length card)) 0 (λ z. omega (arith, s.least, e)), eq-eqb (nodes_of_length greatest (length card)) m.nodes e)

  pub step_unsized : (Sized greatest (length card) m.nodes → ⊥) → step_of greatest line card m ≡ step_refused 1 card m
  unfolding step_of
  step_unsized p =
      by_cases (ℕ_discrete (nodes_of_length greatest (length card)) 0)
      (λ z. simp (eq-eqb (nodes_of_length greatest (length card)) 0 z))
      (λ z. by_cases (ℕ_discrete (nodes_of_length greatest (length card)) m.nodes)
      (λ e. absurd (p (subst (Sized greatest (length card)) e (nodes_sized greatest (length card) z))))
      (λ e. simp (ne_eqb (nodes_of_length greatest (length card)) 0 z, ne_eqb (nodes_of_length greatest (length card)) m.nodes e)))

-- ---- by what the state holds

-- a store of the change in hand, or the next change
task_store : (card : List ℕ) (m : Memory) (task : Task) (ss : List Store) → more_to_store ss ≡ true
    → step_task card m task ss ≡ step_store card m (get_or ss 0 (0, 0)) (advanced m (drop 1 ss))
unfolding more_to_store step_task
task_store card m task [] e = impossible (cc)
task_store card m task (s ∷ rest) e = refl

module _ (line : ℕ) (card : List ℕ) (m : Memory) where
  module _ (w : header_refusal card m.nodes ≡ 0) where
    checked : (due : Step) → step_checked card m due ≡ due
    unfolding step_checked
    checked due = simp (eq-eqb (header_refusal card m.nodes) 0 w)

    pub idle_refused : step_held line card m Nothing ≡ step_refused 10 card m
    unfolding step_held
    idle_refused = checked (step_refused 10 card m)

    pub task_on_line : (task : Task) → step_held line card m (HeldTask task) ≡ on_card line card (step_task (seen line card) m task m.rest)
    unfolding step_held
    task_on_line task = checked (on_card line card (step_task (seen line card) m task m.rest))

    pub task_stores : HoldsTask m.doing → more_to_store m.rest ≡ true
        → step_held line card m (held_by m.doing) ≡ on_card line card (step_store (seen line card) m (get_or m.rest 0 (0, 0)) (advanced m (drop 1 m.rest)))
    task_stores (task, holds) b = ap (step_held line card m) holds ∙ task_on_line task ∙ ap (on_card line card) (task_store (seen line card) m task m.rest b)

    task_plans : (task : Task) → held_by m.doing ≡ HeldTask task → m.rest ≡ []
        → step_held line card m (held_by m.doing) ≡ on_card line card (step_task (seen line card) m task [])
    task_plans task holds none = ap (step_held line card m) holds ∙ task_on_line task ∙ ap (λ (ss : List Store). on_card line card (step_task (seen line card) m task ss)) none

  -- 2 and 3
  module _ (h : ℕ) (e : h ≡ header_refusal card m.nodes) (p : h ≡ 0 → ⊥) where
    unchecked : (due : Step) → step_checked card m due ≡ step_refused h card m
    unfolding step_checked
    unchecked due = simp (ne_eqb (header_refusal card m.nodes) 0 (λ z. p (e ∙ z))) (ap (λ (x : ℕ). step_refused x card m) (sym e))

    pub held_unchecked : (held : Held) → ((made : ℕ) → held ≡ HeldFormatting made → ⊥) → step_held line card m held ≡ step_refused h card m
    unfolding step_held
    held_unchecked Nothing q = unchecked (step_refused 10 card m)
    held_unchecked (HeldFormatting made) q = absurd (q made refl)
    held_unchecked (HeldTask task) q = unchecked (on_card line card (step_task (seen line card) m task m.rest))

-- on a card with one line: the card's own step
pub task_due : (card : List ℕ) (m : Memory) → 8 ≤ length card → header_refusal card m.nodes ≡ 0 → (task : Task)
    → step_held 1 card m (HeldTask task) ≡ step_task card m task m.rest
task_due card m h w task = task_on_line 1 card m w task ∙ first_line_lem card m task m.rest h w

-- ---- by the block's words

module _ (b : List ℕ) where
  -- formatting is number 1 alone
  pub not_formatting : (block_word b 2 ≡ 1 → ⊥) → (made : ℕ) → held_by (memory_in b).doing ≡ HeldFormatting made → ⊥
  unfolding memory_in
  not_formatting p made e = p (formatting_word _ _ _ _ made (held_formatting (memory_in b).doing made e))

  -- so that a state which holds no task holds nothing
  holds_nothing : (block_word b 2 ≡ 1 → ⊥) → (h : Held) → held_by (memory_in b).doing ≡ h → ((task : Task) → h ≡ HeldTask task → ⊥) → h ≡ Nothing
  holds_nothing p Nothing e q = refl
  holds_nothing p (HeldFormatting made) e q = absurd (not_formatting p made e)
  holds_nothing p (HeldTask task) e q = absurd (q task refl)

  pub doing_format : (line : ℕ) (card : List ℕ) → block_word b 2 ≡ 1
      → step_held line card (memory_in b) (held_by (memory_in b).doing)
      ≡ step_format card (memory_in b) (block_word b 3) (format_store (block_word b 0) (length card) (block_word b 3))
  unfolding memory_in doing_in held_by step_held
  doing_format line card e = ap (λ (what : ℕ). step_held line card (memory_in b) (held_by (doing_in what (block_word b 3) (block_word b 4) (block_word b 5)))) e

busy_holds : (doing : Doing) → is_idle doing ≡ false → ((made : ℕ) → held_by doing ≡ HeldFormatting made → ⊥) → HoldsTask doing
unfolding is_idle held_by
busy_holds Idle e p = impossible (cc)
busy_holds (Formatting made) e p = absurd (p made refl)
busy_holds (Inserting key value NotBegun) e p = (PutIn key value, refl)
busy_holds (Inserting key value InHand) e p = (Repair key AnswerAbsent, refl)
busy_holds (Inserting key value Decided) e p = (Repair key AnswerAbsent, refl)
busy_holds (Deleting key NotBegun value) e p = (TakeOut key, refl)
busy_holds (Deleting key InHand value) e p = (Repair key (AnswerValue value), refl)
busy_holds (Deleting key Decided value) e p = (Repair key (AnswerValue value), refl)
busy_holds (Repairing key) e p = (Repair key AnswerReady, refl)

both_true : (idle more : Bool) → not idle && more ≡ true → (idle ≡ false) × (more ≡ true)
both_true true more e = impossible (cc)
both_true false more e = (refl, e)

-- a store of the change in hand is to come
pub stores_held : (doing : Doing) (rest : List Store) → not (is_idle doing) && more_to_store rest ≡ true
    → ((made : ℕ) → held_by doing ≡ HeldFormatting made → ⊥)
    → (more_to_store rest ≡ true) × HoldsTask doing
stores_held doing rest e p = let h = both_true (is_idle doing) (more_to_store rest) e in (h.1, busy_holds doing h.0 p)

held_busy : (doing : Doing) (task : Task) → held_by doing ≡ HeldTask task → is_idle doing ≡ false
unfolding held_by is_idle
held_busy Idle task e = impossible (cc)
held_busy (Formatting made) task e = impossible (cc)
held_busy (Inserting key value begun) task e = refl
held_busy (Deleting key begun value) task e = refl
held_busy (Repairing key) task e = refl

-- none is to come for a task
none_left : (doing : Doing) (task : Task) (rest : List Store) → held_by doing ≡ HeldTask task
    → not (is_idle doing) && more_to_store rest ≡ false → rest ≡ []
none_left doing task rest e h = more_none rest (ap (λ (t : Bool). not t && more_to_store rest) (sym (held_busy doing task e)) ∙ h)

-- ---- a step that has no store left to make

module _ (b : List ℕ) (head : State) (read : head ≡ head_in b) where
  pub head_doing : head.doing ≡ (memory_in b).doing
  unfolding head_in memory_in
  head_doing = ap (λ (h : State). h.doing) read

  module _ (held : Held) (found : held ≡ held_by head.doing) where
    head_holds : held_by (memory_in b).doing ≡ held
    head_holds = ap held_by (sym head_doing) ∙ sym found

    module _ (task : Task) (is : held ≡ HeldTask task) where
      pub head_task : held_by (memory_in b).doing ≡ HeldTask task
      head_task = head_holds ∙ is

      pub head_rest : not (is_idle (memory_in b).doing) && more_to_store (memory_in b).rest ≡ false → (memory_in b).rest ≡ []
      head_rest none = none_left (memory_in b).doing task (memory_in b).rest head_task none

    module _ (line : ℕ) (card : List ℕ) (checks : header_refusal card (block_word b 0) ≡ 0) where
      abbrev Plans : List ℕ → List ℕ → Answer → Type 0
      Plans card_after after answer =
          StepMade (seen line card) b card_after after answer (step_held line card (memory_in b) (held_by (memory_in b).doing))

      pub plans_nothing : (block_word b 2 ≡ 1 → ⊥) → ((task : Task) → held ≡ HeldTask task → ⊥) → Plans card b (Refused 10)
      unfolding memory_in
      plans_nothing p q =
          refused_on_lem (seen line card) b card 10
          (ap (step_held line card (memory_in b)) (head_holds ∙ holds_nothing b p held head_holds q) ∙ idle_refused line card (memory_in b) checks)

      pub plans_task : (task : Task) → held ≡ HeldTask task → not (is_idle (memory_in b).doing) && more_to_store (memory_in b).rest ≡ false
          → {card_after after : List ℕ} {answer : Answer} → MadeOn line card b card_after after answer (step_task (seen line card) (memory_in b) task [])
          → Plans card_after after answer
      unfolding memory_in
      plans_task task is none made =
          as_made line card b (task_plans line card (memory_in b) checks task (head_task task is) (head_rest task is none)) made
