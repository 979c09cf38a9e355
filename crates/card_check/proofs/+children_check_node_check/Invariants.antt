use Rattle.std.proofs.Common.{◌≡◌, true, false, ◌+◌, ◌*◌, ◌≤◌, drop, eqb}
use Rattle.card_free.specs.NodeSet.{nodes_of}
use Rattle.card.specs.Layout.{children, routing_keys}
use Rattle.card_check.specs.Check.{findings_of, children_check, node_check}
use Rattle.card_check.specs.Counting.{children_counted, node_counted}
use Rattle.card_check.proofs.+children_check_node_check.Given as goal

-- Children stand between their parent and their own level: each call falls by one.
abbrev pub decreases-children_check : goal.decreases-children_check
decreases-children_check l = l.levels * 2 + 1

abbrev pub decreases-node_check : goal.decreases-node_check
decreases-node_check l = l.levels * 2

-- the whole of each definition equals what is left of it
abbrev pub invariant-children_check-loop-i : goal.invariant-children_check-loop-i
invariant-children_check-loop-i l = record {
  bound : l.height ≤ l.levels;
  checked : children_check (node_check l.levels l.card l.n l.run false) true 0 l.low l.high (routing_keys l.node) (children l.node) (findings_of (nodes_of l.fn.free) l.fn.found)
      ≡ children_check (node_check l.levels l.card l.n l.run false) (eqb l.i 0) l.height l.from l.high (drop l.i (routing_keys l.node)) (drop l.i (children l.node)) (findings_of (nodes_of l.free) l.found);
  counted : children_counted (node_counted l.levels l.card) (children l.node) (drop 3 l.fn.found)
      ≡ children_counted (node_counted l.levels l.card) (drop l.i (children l.node)) (drop 3 l.found);
}
