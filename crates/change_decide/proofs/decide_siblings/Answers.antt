use Rattle.std.proofs.Common.{arith}
use Rattle.card.proofs.NodeLaws.{children_le, leaf_few}
use Rattle.change_decide.proofs.decide_siblings.Goals as goal

pub overflow_add-pair_count : goal.overflow_add-pair_count
overflow_add-pair_count c =
    omega (arith, c.pair_count.ensures, c.pair_count-then-both_are.ensures, leaf_few c.args.x.now, leaf_few c.args.y.now)

pub overflow_add-left : goal.overflow_add-left
overflow_add-left c =
    omega (arith, c.child_count-left.ensures, c.child_count-right.ensures, children_le c.args.x.now, children_le c.args.y.now)
