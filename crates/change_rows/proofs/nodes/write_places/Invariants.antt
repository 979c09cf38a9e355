use Rattle.std.proofs.Common.{◌≡◌, ◌++◌, take, drop}
use Rattle.change_rows.specs.Nodes.{node_places}
use Rattle.change_rows.proofs.nodes.write_places.Given as goal

abbrev pub invariant-loop-i : goal.invariant-loop-i
invariant-loop-i l = l.places ≡ take l.i (node_places l.m) ++ drop l.i l.initial.places
