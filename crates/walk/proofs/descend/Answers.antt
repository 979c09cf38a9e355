use Rattle.std.proofs.Common.{◌+◌, ◌-◌, refl, sym, ◌∙◌, ap, arith}
use Rattle.card.specs.Layout.{depth_limit}
use Rattle.walk.specs.Descent.{root_position, way_from}
use Rattle.walk.proofs.DescentLaws.{onward_none, onward_deeper, passed_inner}
use Rattle.walk.proofs.DescentLaws.{stopped, end_below, end_start, end_nowhere, end_leaf, end_leaf_fault, end_past, end_fault}
use Rattle.walk.proofs.Rest.{rest_outside, rest_at}
use Rattle.walk.proofs.descend.Goals as goal

pub loop-p-init : goal.loop-p-init
unfolding root_position
loop-p-init c = (omega arith, end_start _ _ _)

pub returns-then-is_outside : goal.returns-then-is_outside
returns-then-is_outside c =
    let l = c.loop-p in
    sym (rest_outside (end_below l.depth _ c.args.seeks) _ _ _ _ _ refl l.invariant.1 c.is_outside.ensures c.if-is_outside.true ∙ end_nowhere _ _ _)

pub returns-in-Nowhere : goal.returns-in-Nowhere
returns-in-Nowhere c =
    let l = c.loop-p in
    sym (rest_at (end_below l.depth _ c.args.seeks) _ _ _ _ _ refl l.invariant.1 c.is_outside.ensures c.if-is_outside.false c.node_at-node.ensures c.go_down.ensures _ c.in-Nowhere.is ∙ end_nowhere _ _ _)

pub returns-then-stops : goal.returns-then-stops
returns-then-stops c =
    let l = c.loop-p in
    sym
    (rest_at (end_below l.depth _ c.args.seeks) _ _ _ _ _ refl l.invariant.1 c.is_outside.ensures c.if-is_outside.false c.node_at-node.ensures c.go_down.ensures _ c.in-Leaf.is
    ∙ end_leaf_fault _ _ _ _ (stopped _ c.args.seeks l.p _ _ c.node_at-node.ensures c.stops.ensures ∙ c.if-stops.true))

pub returns-in-Leaf : goal.returns-in-Leaf
returns-in-Leaf c =
    let l = c.loop-p in
    sym
    (rest_at (end_below l.depth _ c.args.seeks) _ _ _ _ _ refl l.invariant.1 c.is_outside.ensures c.if-is_outside.false c.node_at-node.ensures c.go_down.ensures _ c.in-Leaf.is
    ∙ end_leaf _ _ _ _ (stopped _ c.args.seeks l.p _ _ c.node_at-node.ensures c.stops.ensures ∙ c.if-stops.false))

pub returns-then-stops-2 : goal.returns-then-stops-2
returns-then-stops-2 c =
    let l = c.loop-p in
    sym
    (rest_at (end_below l.depth _ c.args.seeks) _ _ _ _ _ refl l.invariant.1 c.is_outside.ensures c.if-is_outside.false c.node_at-node.ensures c.go_down.ensures _ c.in-Childless.is
    ∙ end_fault _ _ _ _ _ (stopped _ c.args.seeks l.p _ _ c.node_at-node.ensures c.stops-in-Childless.ensures ∙ c.if-stops-2.true))

pub returns-in-Childless : goal.returns-in-Childless
returns-in-Childless c =
    let l = c.loop-p in
    sym
    (rest_at (end_below l.depth _ c.args.seeks) _ _ _ _ _ refl l.invariant.1 c.is_outside.ensures c.if-is_outside.false c.node_at-node.ensures c.go_down.ensures _ c.in-Childless.is
    ∙ end_past _ _ _ _ _ (stopped _ c.args.seeks l.p _ _ c.node_at-node.ensures c.stops-in-Childless.ensures ∙ c.if-stops-2.false) ∙ end_nowhere _ _ _)

pub returns-then-stops-3 : goal.returns-then-stops-3
returns-then-stops-3 c =
    let l = c.loop-p in
    sym
    (rest_at (end_below l.depth _ c.args.seeks) _ _ _ _ _ refl l.invariant.1 c.is_outside.ensures c.if-is_outside.false c.node_at-node.ensures c.go_down.ensures _ c.in-Inner.is
    ∙ end_fault _ _ _ _ _ (stopped _ c.args.seeks l.p _ _ c.node_at-node.ensures c.stops-in-Inner.ensures ∙ c.if-stops-3.true))

pub returns-then-is_too_deep : goal.returns-then-is_too_deep
returns-then-is_too_deep c =
    let l = c.loop-p in
    sym
    (rest_at (end_below l.depth _ c.args.seeks) _ _ _ _ _ refl l.invariant.1 c.is_outside.ensures c.if-is_outside.false c.node_at-node.ensures c.go_down.ensures _ c.in-Inner.is
    ∙ end_past _ _ _ _ _ (stopped _ c.args.seeks l.p _ _ c.node_at-node.ensures c.stops-in-Inner.ensures ∙ c.if-stops-3.false)
    ∙ ap (end_below (l.depth + 1) c.args.card.now c.args.seeks)
    (onward_none _ _ _ (depth_limit - l.depth) _ (omega (arith, c.is_too_deep.ensures.0 c.if-is_too_deep.true)))
    ∙ end_nowhere _ _ _)

pub loop-p-preserved : goal.loop-p-preserved
loop-p-preserved c =
    let l = c.loop-p in
    let more = c.is_too_deep.ensures.1 c.if-is_too_deep.false in
    rw (c.passed_with-depth.ensures ∙ passed_inner _ _ _ _ _ (sym c.go_down.ensures ∙ c.in-Inner.is)) (
      omega (arith, l.invariant.0, more),
      rest_at (end_below l.depth _ c.args.seeks) _ _ _ _ _ refl l.invariant.1 c.is_outside.ensures c.if-is_outside.false c.node_at-node.ensures c.go_down.ensures _ c.in-Inner.is
          ∙ end_past _ _ _ _ _ (stopped _ c.args.seeks l.p _ _ c.node_at-node.ensures c.stops-in-Inner.ensures ∙ c.if-stops-3.false)
          ∙ ap (end_below (l.depth + 1) c.args.card.now c.args.seeks)
          (onward_deeper _ _ _ l.depth _ l.invariant.0 more
          ∙ ap (way_from c.args.card.now c.args.n c.args.key (depth_limit - (l.depth + 1))) (sym c.child_of-p.ensures)),
    )
