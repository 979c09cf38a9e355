use Rattle.std.proofs.Common.{sym}
use Rattle.card.proofs.NodeLaws.{run_more, run_none}
use Rattle.card_check.proofs.child_run.Goals as goal

pub returns-then-c-eq-SLOTS : goal.returns-then-c-eq-SLOTS
returns-then-c-eq-SLOTS c = sym (run_more c.args.c c.args.run c.if-c-eq-SLOTS.true)

pub returns-else-c-eq-SLOTS : goal.returns-else-c-eq-SLOTS
returns-else-c-eq-SLOTS c = sym (run_none c.args.c c.args.run c.if-c-eq-SLOTS.false)
