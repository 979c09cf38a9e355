use Rattle.std.proofs.Common.{◌≡◌, ◌≤◌, ◌-◌}
use Rattle.card.specs.Layout.{depth_limit}
use Rattle.walk.specs.Descent.{root_position, way_from, end_of}
use Rattle.walk.proofs.DescentLaws.{end_below}
use Rattle.walk.proofs.descend.Given as goal

-- the rest of the way ends as the whole does
abbrev pub invariant-loop-p : goal.invariant-loop-p
invariant-loop-p l =
    (l.depth ≤ depth_limit)
    × (end_of l.card l.seeks (way_from l.card l.n l.key depth_limit (root_position l.root))
    ≡ end_below l.depth l.card l.seeks (way_from l.card l.n l.key (depth_limit - l.depth) l.p))

abbrev pub decreases-loop-p : goal.decreases-loop-p
decreases-loop-p l = depth_limit - l.depth
