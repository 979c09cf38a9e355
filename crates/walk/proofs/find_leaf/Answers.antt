use Rattle.std.proofs.Common.{◌-◌, refl, sym, ◌∙◌, ap, ap₂, arith}
use mathlib.Core.Logic.{⊎_elim}
use Rattle.card.specs.Layout.{depth_limit}
use Rattle.walk.specs.Descent.{child_at, root_position, Way, past, reached_at, leaf_of}
use Rattle.walk.proofs.DescentLaws.{onward_none, passed_inner, root_node, leaf_reached, deeper, deeper_none, leaf_on}
use Rattle.walk.proofs.Rest.{rest_outside, rest_at}
use Rattle.walk.proofs.find_leaf.Goals as goal

pub loop-n-init : goal.loop-n-init
loop-n-init c = (omega arith, root_position _, root_node _, deeper_none _)

pub returns-then-is_outside : goal.returns-then-is_outside
unfolding leaf_of reached_at deeper
returns-then-is_outside c =
    let l = c.loop-n in
    sym (rest_outside (λ (w : Way). deeper l.depth (leaf_of w)) _ _ _ _ _ l.invariant.2 l.invariant.3 c.is_outside.ensures c.if-is_outside.true)

pub returns-in-Leaf : goal.returns-in-Leaf
unfolding leaf_of reached_at deeper
returns-in-Leaf c =
    let l = c.loop-n in
    sym
    (rest_at (λ (w : Way). deeper l.depth (leaf_of w)) _ _ _ _ _ l.invariant.2 l.invariant.3 c.is_outside.ensures c.if-is_outside.false c.node_at-node.ensures c.go_down.ensures _ c.in-Leaf.is
    ∙ ap₂ leaf_reached l.invariant.2 (omega arith))

pub returns-in-Nowhere : goal.returns-in-Nowhere
unfolding leaf_of reached_at deeper past
returns-in-Nowhere c =
    let l = c.loop-n in
    let there = rest_at (λ (w : Way). deeper l.depth (leaf_of w)) _ _ _ _ _ l.invariant.2 l.invariant.3 c.is_outside.ensures c.if-is_outside.false c.node_at-node.ensures c.go_down.ensures in
    ⊎_elim (λ e. sym (there _ e)) (λ e. sym (there _ e)) c.in-Nowhere.is

pub returns-then-is_too_deep : goal.returns-then-is_too_deep
unfolding leaf_of reached_at deeper past
returns-then-is_too_deep c =
    let l = c.loop-n in
    sym
    (rest_at (λ (w : Way). deeper l.depth (leaf_of w)) _ _ _ _ _ l.invariant.2 l.invariant.3 c.is_outside.ensures c.if-is_outside.false c.node_at-node.ensures c.go_down.ensures _ c.in-Inner.is
    ∙ ap (λ (w : Way). deeper l.depth (leaf_of (past l.invariant.1 w)))
    (onward_none _ _ _ (depth_limit - l.depth) _ (omega (arith, c.is_too_deep.ensures.0 c.if-is_too_deep.true))))

pub loop-n-preserved : goal.loop-n-preserved
loop-n-preserved c =
    let l = c.loop-n in
    let more = c.is_too_deep.ensures.1 c.if-is_too_deep.false in
    rw (c.passed_with-depth.ensures ∙ passed_inner _ _ _ _ _ (sym c.go_down.ensures ∙ c.in-Inner.is)) (
      omega (arith, l.invariant.0, more),
      child_at l.invariant.1 c.in-Inner.index c.in-Inner.child,
      refl,
      rest_at (λ (w : Way). deeper l.depth (leaf_of w)) _ _ _ _ _ l.invariant.2 l.invariant.3 c.is_outside.ensures c.if-is_outside.false c.node_at-node.ensures c.go_down.ensures _ c.in-Inner.is
          ∙ leaf_on _ _ _ _ _ l.depth l.invariant.0 more,
    )
