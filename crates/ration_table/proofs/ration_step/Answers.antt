-- `ration_table::ration_step` meets its contract.
use Rattle.std.proofs.Common.{◌≡◌, ℕ, List, length, ap, ◌∙◌}
use mathlib.Core.Logic.{by_cases}
use native.Mathlib.Decide.{ℕ_discrete}
use borrow.Author.Tests.{eq-eqb}
use Rattle.card.specs.Replies.{no_state, with_depth}
use Rattle.state.specs.Answer.{Answer, Refused, told}
use Rattle.state.specs.Answers.{step_reply, told_depth}
use Rattle.state.specs.Block.{state_words, memory_in}
use Rattle.c_replies.specs.ReplyWords.{kept_depth}
use Rattle.c_replies.specs.Told.{answer_told}
use Rattle.ration_table.proofs.NumberLaws.{answer_numbered}
use Rattle.ration_table.proofs.ration_step.Goals as goal

-- a block that is no state has no depth to tell: its answer is a refusal
same_depth : (after : List ℕ) (answer : Answer) → ((length after ≡ state_words → ⊥) → answer ≡ Refused no_state.code)
    → with_depth (told_depth (kept_depth after) answer) (step_reply answer) ≡ with_depth (told_depth (memory_in after).depth answer) (step_reply answer)
unfolding told_depth
same_depth after answer no_state_lem =
    by_cases (ℕ_discrete (length after) state_words) (λ l. rw (eq-eqb (length after) state_words l)) (λ n. rw (no_state_lem n))

pub returns : goal.returns
returns c = (
  told c.step-answer.result,
  c.step_reply.ensures
      ∙ ap (λ (answer : Answer). with_depth (told_depth (kept_depth c.step-answer.new.state) answer) (step_reply answer))
      (ap answer_told c.numbered.ensures ∙ answer_numbered c.step-answer.result)
      ∙ same_depth _ (told c.step-answer.result) (λ n. (c.step-answer.ensures.no_state_lem (λ l. n (c.step-answer.auto.state ∙ l))).0),
  c.step-answer.ensures,
)
