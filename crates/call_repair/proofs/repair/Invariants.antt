-- What is left to do is a repair of the steps that are left.
use Rattle.std.proofs.Common.{◌≡◌, length, ◌-◌}
use Rattle.call_step.specs.Calls.{repair_steps}
use Rattle.state.specs.Block.{state_words, memory_in}
use Rattle.call_repair.specs.Repairing.{repaired_card}
use Rattle.call_repair.proofs.repair.Given as goal

abbrev pub invariant-loop : goal.invariant-loop
invariant-loop l = record {
  same : repaired_card l.greatest repair_steps l.fn.card (memory_in l.fn.state) ≡ repaired_card l.greatest (repair_steps - l.counter) l.card (memory_in l.state);
  long : length l.state ≡ state_words;
}
