-- `call_record::check_record` meets its contract.
use Rattle.std.proofs.Common.{sym, arith}
use Rattle.call_record.proofs.RecordLaws.{refusal_past, refusal_empty, refusal_long, refusal_none}
use Rattle.call_record.proofs.check_record.Goals as goal

pub returns-then-block-at : goal.returns-then-block-at
returns-then-block-at c = sym (refusal_past c.args.block.now c.args.at (omega arith))

pub returns-then-size-eq0 : goal.returns-then-size-eq0
returns-then-size-eq0 c = sym (refusal_empty c.args.block.now c.args.at c.if-block-at.false c.from-size.result c.from-size.ensures c.if-size-eq0.true)

pub returns-then-block-at-2 : goal.returns-then-block-at-2
returns-then-block-at-2 c =
    sym (refusal_long c.args.block.now c.args.at c.if-block-at.false c.from-size.result c.from-size.ensures c.if-size-eq0.false c.if-block-at-2.true)

pub returns : goal.returns
returns c =
    sym (refusal_none c.args.block.now c.args.at c.if-block-at.false c.from-size.result c.from-size.ensures c.if-size-eq0.false c.if-block-at-2.false)
