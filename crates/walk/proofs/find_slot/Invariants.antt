use Rattle.std.proofs.Common.{◌≡◌, ◌≤◌, ◌-◌}
use Rattle.walk.specs.Descent.{slot_of}
use Rattle.walk.proofs.DescentLaws.{slot_from}
use Rattle.walk.proofs.find_slot.Given as goal

abbrev pub invariant-loop-i : goal.invariant-loop-i
invariant-loop-i l = (l.i ≤ 11) × (slot_of l.node l.key ≡ slot_from l.node l.key l.i)

abbrev pub decreases-loop-i : goal.decreases-loop-i
decreases-loop-i l = 11 - l.i
