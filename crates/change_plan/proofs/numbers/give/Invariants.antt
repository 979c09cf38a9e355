use Rattle.std.proofs.Common.{◌≡◌, length}
use Rattle.card_free.specs.NodeSet.{nodes_of}
use Rattle.change_plan.proofs.NumberLaws.{Taking}
use Rattle.change_plan.proofs.numbers.give.Given as goal

abbrev pub invariant-loop-i : goal.invariant-loop-i
invariant-loop-i l = Taking l.nodes l.latest l.i l.count (nodes_of l.free) l.last × (length l.nodes ≡ 3)
