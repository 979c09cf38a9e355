use Rattle.std.proofs.Common.{arith}
use Rattle.card_check.specs.Check.{look_of}
use Rattle.card_check.proofs.CheckLaws.{noted_first, noted_again}
use Rattle.card_check.proofs.entering.with_violation.Goals as goal

pub returns-then-found-ne0-clause-looks : goal.returns-then-found-ne0-clause-looks
unfolding look_of
returns-then-found-ne0-clause-looks c = λ free. noted_again free c.args.found.now c.args.entry c.args.key c.args.run c.if-found-ne0.true

pub returns-clause-looks : goal.returns-clause-looks
returns-clause-looks c = λ free. noted_first free c.args.found.now c.args.entry c.args.key c.args.run (omega arith) c.if-found-ne0.false
