use Rattle.std.proofs.Common.{◌≤◌, arith, rules}
use Rattle.card.proofs.NodeLaws.{children_le}
use Rattle.change_rows.proofs.NodeLaws.{children_part}
use Rattle.change_rows.proofs.nodes.children.Goals as goal

pub overflow_add-result : goal.overflow_add-result
overflow_add-result c = omega (arith, c.child_count-count.ensures, children_le c.args.node.now)

pub slice_bounds-result-end : goal.slice_bounds-result-end
slice_bounds-result-end c =
    let h : c.child_count-count.result ≤ 11 = omega (arith, c.child_count-count.ensures, children_le c.args.node.now) in search rules

pub returns : goal.returns
returns c = children_part _ _ c.child_count-count.ensures
