use Rattle.std.proofs.Common.{◌≤◌, sym, arith, rules}
use Rattle.card.proofs.NodeLaws.{children_le, routing_words}
use Rattle.change_rows.proofs.nodes.routing_keys.Goals as goal

pub slice_bounds-result-end : goal.slice_bounds-result-end
slice_bounds-result-end c =
    let h : c.child_count-count.result ≤ 11 = omega (arith, c.child_count-count.ensures, children_le c.args.node.now) in search rules

pub returns : goal.returns
returns c = sym (routing_words c.args.node.now c.child_count-count.result c.child_count-count.ensures)
