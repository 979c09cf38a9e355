use Rattle.std.proofs.Common.{Result, ap, sym, ◌∙◌, ℕ}
use Rattle.card_dump.specs.Answers.{dump_reply}
use Rattle.c_replies.specs.Told.{dump_told}
use Rattle.c_replies.proofs.dump_reply.Goals as goal

pub overflow_cast-length : goal.overflow_cast-length
overflow_cast-length c = record { fits = c.requires c.in-Ok.length (ap dump_told c.in-Ok.is) }

pub returns-in-Ok : goal.returns-in-Ok
unfolding dump_reply
returns-in-Ok c = c.valued.ensures ∙ ap (λ (a : Result ℕ ℕ). dump_reply (dump_told a)) (sym c.in-Ok.is)

pub returns-in-Err : goal.returns-in-Err
unfolding dump_reply
returns-in-Err c = c.plain.ensures ∙ ap (λ (a : Result ℕ ℕ). dump_reply (dump_told a)) (sym c.in-Err.is)
