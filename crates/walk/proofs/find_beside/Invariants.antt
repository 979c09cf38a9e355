use Rattle.std.proofs.Common.{◌≡◌, ◌≤◌, ◌-◌}
use Rattle.card.specs.Layout.{depth_limit}
use Rattle.walk.specs.Descent.{root_position, way_from, beside_by}
use Rattle.walk.specs.declared.Position.{Position}
use Rattle.walk.proofs.DescentLaws.{beside_below}
use Rattle.walk.proofs.find_beside.Given as goal

-- the node stands at some position, and the rest of the way goes on from there
abbrev pub invariant-loop-n : goal.invariant-loop-n
invariant-loop-n l =
    (l.depth ≤ depth_limit) × (p : Position) × (p.node ≡ l.m)
    × (beside_by l.card l.key 0 (way_from l.card l.n l.key depth_limit (root_position l.root))
    ≡ beside_below l.depth l.card l.key l.beside (way_from l.card l.n l.key (depth_limit - l.depth) p))

abbrev pub decreases-loop-n : goal.decreases-loop-n
decreases-loop-n l = depth_limit - l.depth
