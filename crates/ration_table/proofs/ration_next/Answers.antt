-- `ration_table::ration_next` meets its contract.
use Rattle.std.proofs.Common.{ℕ, ap, ap₂, ◌∙◌}
use Rattle.card.specs.Replies.{with_depth}
use Rattle.walk_next.specs.Next.{Successor, Refused}
use Rattle.walk_next.specs.Successor.{next_reply}
use Rattle.ration_table.proofs.ration_next.Goals as goal

pub returns-in-Err : goal.returns-in-Err
unfolding next_reply
returns-in-Err c =
    c.next_reply-in-Err.ensures
    ∙ ap (λ (r : ℕ). next_reply (Refused r)) c.number.ensures
    ∙ ap₂ (λ (depth : ℕ) (s : Successor). with_depth depth (next_reply s)) c.in-Err.ensures.depth c.in-Err.ensures.next
