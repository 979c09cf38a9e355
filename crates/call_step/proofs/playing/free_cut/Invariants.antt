use Rattle.call_step.proofs.PlayLaws.{Freeing}
use Rattle.call_step.proofs.playing.free_cut.Given as goal

abbrev pub invariant-loop-i : goal.invariant-loop-i
invariant-loop-i l = Freeing l.initial.state l.state l.i
