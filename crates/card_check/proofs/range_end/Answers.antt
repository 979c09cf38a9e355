use Rattle.std.proofs.Common.{sym, ap, ◌∙◌, arith}
use mathlib.Core.Option.{some}
use Rattle.card.proofs.NodeLaws.{children_le}
use Rattle.card_check.specs.Check.{range_end_of}
use Rattle.card_check.proofs.CheckLaws.{end_last, end_fallen, end_above, end_within}
use Rattle.card_check.proofs.range_end.Goals as goal
use Rattle.card_check.proofs.range_end.Goals.{then-key-from-via-then-key-from, then-key-from-via-else-key-from+then-high-end}

pub returns-then-c-i : goal.returns-then-c-i
unfolding range_end_of
returns-then-c-i c = sym (end_last c.args.node.now c.requires.0 c.args.c c.args.i c.requires.1 c.args.from c.args.high (omega arith))

pub offset_bounds-node-i : goal.offset_bounds-node-i
offset_bounds-node-i c = omega (arith, children_le c.args.node.now)

pub bounds-node-i : goal.bounds-node-i
bounds-node-i c = omega (arith, children_le c.args.node.now)

pub returns-then-key-from : goal.returns-then-key-from
unfolding range_end_of
returns-then-key-from c =
    elim c.then-key-from.branch [
      | then-key-from-via-then-key-from w ↦
          sym (end_fallen c.args.node.now c.requires.0 c.args.c c.args.i c.requires.1 c.args.from c.args.high (omega arith) (omega arith))
      | then-key-from-via-else-key-from+then-high-end w ↦
          sym (end_above c.args.node.now c.requires.0 c.args.c c.args.i c.requires.1 c.args.from c.args.high (omega arith) (omega arith) (omega (arith, c.from-end.ensures)))
    ]

pub returns : goal.returns
unfolding range_end_of
returns c =
    ap some c.from-end.ensures
    ∙ sym (end_within c.args.node.now c.requires.0 c.args.c c.args.i c.requires.1 c.args.from c.args.high (omega arith) (omega arith) (omega (arith, c.from-end.ensures)))
