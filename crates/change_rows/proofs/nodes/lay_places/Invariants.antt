use Rattle.std.proofs.Common.{◌≡◌, ◌++◌, ◌*◌, take, drop}
use Rattle.change_rows.specs.Nodes.{places_of}
use Rattle.change_rows.proofs.nodes.lay_places.Given as goal

abbrev pub invariant-loop-i : goal.invariant-loop-i
invariant-loop-i l = l.places ≡ places_of (take l.i l.m-items) ++ drop (24 * l.i) l.initial.places
