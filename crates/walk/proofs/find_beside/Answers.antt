use Rattle.std.proofs.Common.{ℕ, ◌+◌, ◌-◌, refl, sym, ◌∙◌, ap, arith}
use mathlib.Core.Logic.{⊎_elim}
use Rattle.card.specs.Layout.{depth_limit}
use Rattle.walk.specs.Descent.{child_at, root_position, Way, past}
use Rattle.walk.proofs.DescentLaws.{told, onward_none, onward_deeper, passed_inner, root_node}
use Rattle.walk.proofs.DescentLaws.{leaf_beside, beside_below, beside_start, beside_nowhere, beside_stop, beside_leaf, beside_past}
use Rattle.walk.proofs.Rest.{rest_outside, rest_at}
use Rattle.walk.proofs.find_beside.Goals as goal

pub loop-n-init : goal.loop-n-init
loop-n-init c = (omega arith, root_position _, root_node _, beside_start _ _ _ _)

pub returns-then-is_outside : goal.returns-then-is_outside
returns-then-is_outside c =
    let l = c.loop-n in
    sym (rest_outside (beside_below l.depth _ _ l.beside) _ _ _ _ _ l.invariant.2 l.invariant.3 c.is_outside.ensures c.if-is_outside.true ∙ beside_nowhere _ _ _ _)

pub returns-in-Nowhere : goal.returns-in-Nowhere
returns-in-Nowhere c =
    let l = c.loop-n in
    let there = rest_at (beside_below l.depth _ _ l.beside) _ _ _ _ _ l.invariant.2 l.invariant.3 c.is_outside.ensures c.if-is_outside.false c.node_at-node.ensures c.go_down.ensures in
    ⊎_elim (λ e. sym (there _ e ∙ beside_nowhere _ _ _ _)) (λ e. sym (there _ e ∙ beside_stop _ _ _ _ _)) c.in-Nowhere.is

pub returns-in-Leaf : goal.returns-in-Leaf
returns-in-Leaf c =
    let l = c.loop-n in
    sym
    (rest_at (beside_below l.depth _ _ l.beside) _ _ _ _ _ l.invariant.2 l.invariant.3 c.is_outside.ensures c.if-is_outside.false c.node_at-node.ensures c.go_down.ensures _ c.in-Leaf.is
    ∙ beside_leaf _ _ _ _ _ ∙ ap (λ (x : ℕ). leaf_beside x l.beside l.depth) l.invariant.2)

pub returns-then-is_too_deep : goal.returns-then-is_too_deep
returns-then-is_too_deep c =
    let l = c.loop-n in
    sym
    (rest_at (beside_below l.depth _ _ l.beside) _ _ _ _ _ l.invariant.2 l.invariant.3 c.is_outside.ensures c.if-is_outside.false c.node_at-node.ensures c.go_down.ensures _ c.in-Inner.is
    ∙ ap (λ (w : Way). beside_below l.depth c.args.card.now c.args.key l.beside (past l.invariant.1 w))
    (onward_none _ _ _ (depth_limit - l.depth) _ (omega (arith, c.is_too_deep.ensures.0 c.if-is_too_deep.true)))
    ∙ beside_stop _ _ _ _ _)

pub loop-n-preserved : goal.loop-n-preserved
loop-n-preserved c =
    let l = c.loop-n in
    let more = c.is_too_deep.ensures.1 c.if-is_too_deep.false in
    let inner = sym c.go_down.ensures ∙ c.in-Inner.is in
    rw (c.passed_with-depth.ensures ∙ passed_inner _ _ _ _ _ inner) (
      omega (arith, l.invariant.0, more),
      child_at l.invariant.1 c.in-Inner.index c.in-Inner.child,
      refl,
      rest_at (beside_below l.depth _ _ l.beside) _ _ _ _ _ l.invariant.2 l.invariant.3 c.is_outside.ensures c.if-is_outside.false c.node_at-node.ensures c.go_down.ensures _ c.in-Inner.is
          ∙ beside_past _ _ _ _ _ _ _ l.invariant.2 c.node_at-node.ensures _ _ (told _ _ _ inner) c.beside_after-beside.ensures _
          ∙ ap (beside_below (l.depth + 1) c.args.card.now c.args.key c.beside_after-beside.result) (onward_deeper _ _ _ l.depth _ l.invariant.0 more),
    )
