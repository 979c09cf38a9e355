use Rattle.std.proofs.Common.{◌≡◌, ◌*◌, take}
use Rattle.card_free.specs.NodeSet.{nodes_of, up_to}
use Rattle.card_free.proofs.fill.Given as goal

-- the first q words are those of nodes 0 to n
abbrev pub invariant-loop-q : goal.invariant-loop-q
invariant-loop-q l = nodes_of (take l.q l.words) ≡ take (32 * l.q) (up_to l.n)
