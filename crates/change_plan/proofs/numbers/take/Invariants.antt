use Rattle.std.proofs.Common.{◌≡◌, take}
use Rattle.card_free.specs.NodeSet.{nodes_of}
use Rattle.change_plan.specs.Planning.{without_all, last_of}
use Rattle.change_plan.proofs.numbers.take.Given as goal

abbrev pub invariant-loop-m : goal.invariant-loop-m
invariant-loop-m l =
    (nodes_of l.free ≡ without_all (take l.m-index l.m-items) (nodes_of l.initial.free)) × (l.latest ≡ last_of l.last (take l.m-index l.m-items))
