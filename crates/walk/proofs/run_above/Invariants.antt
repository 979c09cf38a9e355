use Rattle.std.proofs.Common.{◌≡◌, ◌+◌, ◌≤◌, ◌-◌}
use Rattle.card.specs.Layout.{depth_limit}
use Rattle.walk.specs.Descent.{root_position, way_from, run_over}
use Rattle.walk.specs.declared.Position.{Position}
use Rattle.walk.proofs.DescentLaws.{onward}
use Rattle.walk.proofs.run_above.Given as goal

-- the node stands at some position, and the rest of the way goes on from there; the run is no longer than the way so far
abbrev pub invariant-loop : goal.invariant-loop
invariant-loop l =
    (l.run ≤ l.counter) × (p : Position) × (p.node ≡ l.m)
    × (run_over l.card 0 (way_from l.card l.n l.key depth_limit (root_position l.root)).inner
    ≡ run_over l.card l.run (onward l.card l.n l.key (depth_limit + 1 - l.counter) p).inner)
