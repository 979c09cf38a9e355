-- `ration_table::ration_find` meets its contract.
use Rattle.std.proofs.Common.{ℕ, ap, ap₂, ◌∙◌}
use Rattle.card.specs.Replies.{with_depth}
use Rattle.call_find.specs.Answers.{found_reply}
use Rattle.call_find.specs.Found.{Found, Refused}
use Rattle.ration_table.proofs.ration_find.Goals as goal

pub returns-in-Err : goal.returns-in-Err
unfolding found_reply
returns-in-Err c =
    c.found_reply-in-Err.ensures
    ∙ ap (λ (r : ℕ). found_reply (Refused r)) c.number.ensures
    ∙ ap₂ (λ (depth : ℕ) (f : Found). with_depth depth (found_reply f)) c.in-Err.ensures.depth c.in-Err.ensures.found
