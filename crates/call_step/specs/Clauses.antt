-- What a step promises of the card and of the state block lent to it. These are definitions.
use Rattle.std.specs.Prelude.{◌≡◌, List, [], ℕ, length}
use Rattle.card.specs.Lines.{seen}
use Rattle.card.specs.Replies.{no_state}
use Rattle.state.specs.Steps.{Step, held_by}
use Rattle.state.specs.declared.Doing.{Doing}
use Rattle.state.specs.declared.Task.{Task}
use Rattle.state.specs.declared.Held.TheVariants.{Task as HeldTask}
use Rattle.state.specs.Answer.{Answer}
use Rattle.state.specs.Answer.{Refused}
use Rattle.state.specs.Block.{state_words, memory_in}
use Rattle.change_decide.specs.Places.{Fits}
use Rattle.change_decide.specs.declared.Decision.{Decision}
use Rattle.change_layout.specs.LayOut.{outcome_of, lay_out}
use Rattle.change_plan.specs.declared.Outcome.TheVariants.{Prepared}
use Rattle.call_change.specs.Updates.{next_change}
use Rattle.call_step.specs.Calls.{on_card, step_of}
use Rattle.call_step.specs.StepBlocks.{step_block}
use Rattle.call_step.specs.StepWords.{step_words}

-- the answer and the card as a step of what the block holds is due to leave them, every word of the block, and what it then holds
pub record StepLeaves (before card_after after : List ℕ) (answer : Answer) (due : Step) : Type 0 where
  pub answered : answer ≡ due.answer
  pub stored : card_after ≡ due.card
  pub words : after ≡ step_words before due due.answer
  pub handed : memory_in after ≡ due.memory

pub record StepCall (greatest line : ℕ) (card before card_after after : List ℕ) (answer : Answer) : Type 0 where
  pub made : length before ≡ state_words → StepLeaves before card_after after answer (step_of greatest line card (memory_in before))
  pub no_state_lem : (length before ≡ state_words → ⊥) → (answer ≡ Refused no_state.code) × (after ≡ before) × (card_after ≡ card)

-- the same of a part of the step, with the words of the block as the code makes them
pub record StepMade (card before card_after after : List ℕ) (answer : Answer) (due : Step) : Type 0 where
  pub answered : answer ≡ due.answer
  pub stored : card_after ≡ due.card
  pub words : after ≡ step_block card before due.answer

-- and of a part that works on a line: what is due on the line's own table, on the card
pub record MadeOn (line : ℕ) (card before card_after after : List ℕ) (answer : Answer) (due : Step) : Type 0 where
  pub answered : answer ≡ (on_card line card due).answer
  pub stored : card_after ≡ (on_card line card due).card
  pub words : after ≡ step_block (seen line card) before due.answer

-- The step makes this change: no store is to come of a plan, and of what is being done this change is the next one.
pub record Changes (card before : List ℕ) (doing : Doing) (decision : Decision) : Type 0 where
  pub task : Task
  pub final : Answer
  pub holds : held_by (memory_in before).doing ≡ HeldTask task
  pub none : (memory_in before).rest ≡ []
  pub next : next_change card (memory_in before).nodes (memory_in before).free (memory_in before).last (memory_in before).doing task
      ≡ record { doing = doing; final = final; preparation = lay_out card decision (memory_in before).free (memory_in before).last }
  pub fits : Fits card decision
  pub some : outcome_of decision ≡ Prepared

-- what is being done is an update or a repair
abbrev pub HoldsTask : Doing → Type 0
HoldsTask doing = (task : Task) × (held_by doing ≡ HeldTask task)
