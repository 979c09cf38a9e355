use Rattle.card.proofs.NodeLaws.{leaf_from}
use Rattle.walk_next.specs.Successor.{IsKey, least_above}
use Rattle.walk_next.proofs.least_key.Given as goal

-- the smallest key of the slots looked at so far

abbrev pub invariant-loop-i : goal.invariant-loop-i
invariant-loop-i l = IsKey (least_above l.after (leaf_from l.node l.i)) l.least
