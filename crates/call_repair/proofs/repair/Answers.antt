-- `call_repair::repair` meets its contract.
use Rattle.std.proofs.Common.{◌≡◌, ◌-◌, ◌+◌, ℕ, ap, ap₂, sym, ◌∙◌, arith}
use Rattle.call_step.specs.Calls.{repair_steps}
use Rattle.state.specs.Block.{memory_in}
use Rattle.call_repair.specs.Repairing.{repaired_card, left_by}
use Rattle.call_repair.proofs.RepairingLaws.{repair_idle, repair_over, repair_on}
use Rattle.call_repair.proofs.repair.Goals as goal

pub returns-then-is_idle : goal.returns-then-is_idle
unfolding left_by
returns-then-is_idle c =
    sym (c.loop.invariant.same ∙ repair_idle _ (repair_steps - c.loop.counter) c.loop.card (memory_in c.loop.state)
    (sym (c.is_idle.ensures.of_state c.loop.invariant.long) ∙ c.if-is_idle.true))

pub loop-preserved : goal.loop-preserved
loop-preserved c =
    let k = repair_steps - c.loop.counter in
    let long = c.loop.invariant.long in
    let made = c.step.ensures.made long in
    let fewer : k - 1 ≡ repair_steps - (c.loop.counter + 1) = omega arith in
    record {
      same = c.loop.invariant.same
          ∙ repair_on _ k c.loop.card (memory_in c.loop.state) (omega arith) (sym (c.is_idle.ensures.of_state long) ∙ c.if-is_idle.false)
          ∙ ap₂ (repaired_card _ (k - 1)) (sym made.stored) (sym made.handed)
          ∙ ap (λ (n : ℕ). repaired_card c.args.greatest n c.step.new.card (memory_in c.step.new.state)) fewer;
      long = c.step.auto.state ∙ long;
    }

pub returns : goal.returns
unfolding left_by
returns c = sym (c.loop.invariant.same ∙ repair_over _ (repair_steps - c.loop.counter) c.loop.card (memory_in c.loop.state) (omega arith))
