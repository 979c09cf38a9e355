use Rattle.std.proofs.Common.{◌≡◌, ℕ, List, ◌+◌, ◌-◌, ◌≤◌, refl, sym, ap, ap₂, ◌∙◌, arith}
use mathlib.Core.Logic.{⊎_elim}
use Rattle.card.specs.Layout.{depth_limit}
use Rattle.card.proofs.NodeLaws.{run_below_le}
use Rattle.walk.specs.Descent.{child_at, root_position, Way, way_from, run_over}
use Rattle.walk.specs.declared.Position.{Position}
use Rattle.walk.proofs.DescentLaws.{told, onward, onward_on, root_node, run_past, run_childless}
use Rattle.walk.proofs.Rest.{rest_outside, rest_at}
use Rattle.walk.proofs.run_above.Goals as goal

-- the rest of the way, with a level left
here : (card : List ℕ) (n key run whole counter : ℕ) (p : Position) → counter ≤ depth_limit
    → whole ≡ run_over card run (onward card n key (depth_limit + 1 - counter) p).inner → whole ≡ run_over card run (way_from card n key (depth_limit - counter) p).inner
here card n key run whole counter p below rest =
    let z : depth_limit + 1 - counter - 1 ≡ depth_limit - counter = omega arith in
    rest
    ∙ ap (λ (w : Way). run_over card run w.inner)
    (onward_on card n key (depth_limit + 1 - counter) p (λ e. omega arith) ∙ ap (λ (x : ℕ). way_from card n key x p) z)

pub loop-init : goal.loop-init
loop-init c = (omega arith, root_position _, root_node _, refl)

pub returns-then-is_outside : goal.returns-then-is_outside
unfolding run_over
returns-then-is_outside c =
    let l = c.loop in
    sym
    (rest_outside (λ (w : Way). run_over c.args.card.now l.run w.inner) _ _ _ _ _ l.invariant.2
    (here _ _ _ _ _ l.counter _ (omega arith) l.invariant.3) c.is_outside.ensures c.if-is_outside.true)

pub returns-in-Nowhere : goal.returns-in-Nowhere
unfolding run_over
returns-in-Nowhere c =
    let l = c.loop in
    let there = rest_at (λ (w : Way). run_over c.args.card.now l.run w.inner) _ _ _ _ _ l.invariant.2
    (here _ _ _ _ _ l.counter _ (omega arith) l.invariant.3) c.is_outside.ensures c.if-is_outside.false c.node_at-node.ensures c.go_down.ensures in
    ⊎_elim (λ e. sym (there _ e)) (λ e. sym (there _ e)) c.in-Nowhere.is

pub returns-in-Childless : goal.returns-in-Childless
returns-in-Childless c =
    let l = c.loop in
    sym
    (rest_at (λ (w : Way). run_over c.args.card.now l.run w.inner) _ _ _ _ _ l.invariant.2
    (here _ _ _ _ _ l.counter _ (omega arith) l.invariant.3) c.is_outside.ensures c.if-is_outside.false c.node_at-node.ensures c.go_down.ensures _ c.in-Childless.is
    ∙ run_childless _ _ _ _ l.invariant.2 c.node_at-node.ensures _ (told _ _ _ (sym c.go_down.ensures ∙ c.in-Childless.is)))

pub loop-preserved : goal.loop-preserved
loop-preserved c =
    let l = c.loop in
    let card = c.args.card.now in
    let z : depth_limit - l.counter ≡ depth_limit + 1 - (l.counter + 1) = omega arith in (
      omega (arith, c.run_below-run.ensures, run_below_le c.child_count.result l.run, l.invariant.0),
      child_at l.invariant.1 c.in-Inner.index c.in-Inner.child,
      refl,
      rest_at (λ (w : Way). run_over card l.run w.inner) _ _ _ _ _ l.invariant.2
          (here _ _ _ _ _ l.counter _ (omega arith) l.invariant.3) c.is_outside.ensures c.if-is_outside.false c.node_at-node.ensures c.go_down.ensures _ c.in-Inner.is
          ∙ run_past card _ _ _ l.invariant.2 c.node_at-node.ensures l.run _ _ c.child_count.ensures
          ∙ ap₂ (λ (r x : ℕ). run_over card r (onward card c.args.n c.args.key x (child_at l.invariant.1 c.in-Inner.index c.in-Inner.child)).inner)
          (sym c.run_below-run.ensures) z,
    )

pub returns : goal.returns
unfolding run_over
returns c =
    let l = c.loop in
    let z : depth_limit + 1 - l.counter ≡ 0 = omega arith in
    sym (l.invariant.3 ∙ ap (λ (x : ℕ). run_over c.args.card.now l.run (onward c.args.card.now c.args.n c.args.key x l.invariant.1).inner) z)
