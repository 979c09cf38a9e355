-- What the calls promise of the state block lent to them, in the terms of their definitions. These are definitions.
--
-- Every word of the block after a call is decided: by Blocks, and after a step by call_step/specs/StepBlocks. `memory_in` of these words
-- is what the call's definition hands back.
use Rattle.std.specs.Prelude.{◌≡◌, List, ℕ, length}
use Rattle.card.specs.Replies.{no_state}
use Rattle.state.specs.Steps.{Handed}
use Rattle.state.specs.declared.Doing.{Doing}
use Rattle.state.specs.Begun.{Begun}
use Rattle.state.specs.Begun.{Refused as BegunRefused}
use Rattle.state.specs.Total.{Total}
use Rattle.state.specs.Total.{Refused as NoTotal}
use Rattle.state.specs.Answers.{total_of}
use Rattle.state.specs.Block.{state_words, memory_in}
use Rattle.state.specs.Blocks.{resting_block, started_block}

-- what opening and starting to format leave: "refused, hands back an idle state for N = 0" is part of `due`
pub record Opened (before after : List ℕ) (begun : Begun) (due : Handed) : Type 0 where
  pub answered : begun ≡ due.begun
  pub handed : memory_in after ≡ due.memory
  pub words : after ≡ resting_block before due.memory

pub record OpenCall (before after : List ℕ) (begun : Begun) (due : Handed) : Type 0 where
  pub opened : length before ≡ state_words → Opened before after begun due
  pub no_state_lem : (length before ≡ state_words → ⊥) → (begun ≡ BegunRefused no_state.code) × (after ≡ before)

-- starting an update, which is `doing` from then on; that a refusal leaves every word as it was is part of `started_block`
pub record StartCall (before after : List ℕ) (begun : Begun) (doing : Doing) (due : Handed) : Type 0 where
  pub answered : length before ≡ state_words → begun ≡ due.begun
  pub handed : length before ≡ state_words → memory_in after ≡ due.memory
  pub words : length before ≡ state_words → after ≡ started_block due.begun before doing due.memory.depth
  pub no_state_lem : (length before ≡ state_words → ⊥) → (begun ≡ BegunRefused no_state.code) × (after ≡ before)

-- the question for a family's total (document 02, W-204)
pub record TotalCall (block : List ℕ) (family : ℕ) (total : Total) : Type 0 where
  pub told : length block ≡ state_words → total ≡ total_of (memory_in block) family
  pub no_state_lem : (length block ≡ state_words → ⊥) → total ≡ NoTotal no_state.code
