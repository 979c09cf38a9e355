use Rattle.std.proofs.Common.{◌≡◌, ◌≤◌, ◌-◌}
use Rattle.card.specs.Layout.{depth_limit}
use Rattle.walk.specs.Descent.{root_position, way_from, leaf_of}
use Rattle.walk.specs.declared.Position.{Position}
use Rattle.walk.proofs.DescentLaws.{deeper}
use Rattle.walk.proofs.find_leaf.Given as goal

-- the node stands at some position, and the rest of the way goes on from there
abbrev pub invariant-loop-n : goal.invariant-loop-n
invariant-loop-n l =
    (l.depth ≤ depth_limit) × (p : Position) × (p.node ≡ l.m)
    × (leaf_of (way_from l.card l.n l.key depth_limit (root_position l.root)) ≡ deeper l.depth (leaf_of (way_from l.card l.n l.key (depth_limit - l.depth) p)))

abbrev pub decreases-loop-n : goal.decreases-loop-n
decreases-loop-n l = depth_limit - l.depth
