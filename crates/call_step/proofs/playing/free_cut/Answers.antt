use Rattle.std.proofs.Common.{refl, arith}
use Rattle.call_step.proofs.PlayLaws.{freeing_start, freeing_more, freeing_end, freeing_zero}
use Rattle.call_step.proofs.playing.free_cut.Goals as goal

pub loop-i-init : goal.loop-i-init
loop-i-init c = freeing_start c.args.state.now c.requires (λ i. omega (arith, c.type_inv.state i))

pub returns-then-m-eq0 : goal.returns-then-m-eq0
returns-then-m-eq0 c =
    let l = c.loop-i in
    freeing_zero c.args.state.now c.requires l.state l.i l.invariant c.loop-i-test.true c.if-m-eq0.true

pub loop-i-preserved : goal.loop-i-preserved
loop-i-preserved c =
    let l = c.loop-i in
    freeing_more c.args.state.now c.requires l.state l.i l.invariant _ c.free_node.new.free c.loop-i-test.true refl
    c.if-m-eq0.false c.free_node.auto.free c.free_node.ensures (λ i. omega (arith, c.type_inv.state i))

pub returns : goal.returns
returns c =
    let l = c.loop-i in
    freeing_end c.args.state.now c.requires l.state l.i l.invariant c.loop-i-test.false
