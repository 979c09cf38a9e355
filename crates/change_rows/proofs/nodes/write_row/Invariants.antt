use Rattle.std.proofs.Common.{◌≡◌, ◌++◌, take, drop}
use Rattle.change_rows.proofs.nodes.write_row.Given as goal

abbrev pub invariant-loop-i : goal.invariant-loop-i
invariant-loop-i l = l.row ≡ take l.i l.part ++ drop l.i l.initial.row
