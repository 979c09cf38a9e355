use Rattle.std.proofs.Common.{◌≡◌, ◌≤◌, ◌<◌, length}
use Rattle.card.specs.Layout.{children}
use Rattle.walk.specs.Descent.{child_index}
use Rattle.walk.proofs.DescentLaws.{index_from}
use Rattle.walk.proofs.child_index.Given as goal

abbrev pub invariant-loop-i : goal.invariant-loop-i
invariant-loop-i l = (l.i ≤ 10) × (l.i < length (children l.node)) × (child_index l.node l.key ≡ index_from l.node l.key l.i)
