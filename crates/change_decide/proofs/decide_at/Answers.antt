use Rattle.std.proofs.Common.{ap, ◌∙◌, length, arith}
use Rattle.card.specs.Layout.{node_at}
use Rattle.card.proofs.NodeLaws.{length_node, children_le}
use Rattle.change_decide.proofs.decide_at.Goals as goal

pub bounds-parent-0 : goal.bounds-parent-0
bounds-parent-0 c =
    let w = c.requires in
    omega (arith, ap length c.node_at-parent.ensures, length_node c.args.card.now c.args.p.parent w.parent_from (omega (arith, w.size, w.parent_to)))

pub bounds-node-0 : goal.bounds-node-0
bounds-node-0 c =
    let w = c.requires in
    omega (arith, ap length c.node_at-node.ensures, length_node c.args.card.now c.args.p.node w.node_from (omega (arith, w.size, w.node_to)))

pub decide_tagged-requires : goal.decide_tagged-requires
decide_tagged-requires c =
    let w = c.requires in (
      ap length c.node_at-parent.ensures ∙ length_node c.args.card.now c.args.p.parent w.parent_from (omega (arith, w.size, w.parent_to)),
      ap length c.node_at-node.ensures ∙ length_node c.args.card.now c.args.p.node w.node_from (omega (arith, w.size, w.node_to)),
    )

pub decide_underfull-requires : goal.decide_underfull-requires
decide_underfull-requires c =
    let w = c.requires in (
      w.size,
      w.few,
      ap length c.node_at-parent.ensures ∙ length_node c.args.card.now c.args.p.parent w.parent_from (omega (arith, w.size, w.parent_to)),
      omega (arith, w.child, children_le (node_at c.args.card.now c.args.p.parent)),
    )
