use Rattle.std.proofs.Common.{◌≡◌, false, ℕ, is_none, is_some, IfSome}
use Rattle.laws.specs.Bits.{bit}
use Rattle.card.specs.Layout.{depth_limit}
use Rattle.walk.specs.Descent.{root_position, way_from, leaf_of, depth_of}
use Rattle.walk_next.specs.Successor.{next_in_leaf, next_along}
use Rattle.walk_next.proofs.SuccessorLaws.{in_round}
use Rattle.walk_next.proofs.next_in.Given as goal

-- the way of this round, in the first one the number's own
abbrev pub invariant-loop-leaf : goal.invariant-loop-leaf
invariant-loop-leaf l =
    (is_some l.own ≡ false → (l.from ≡ l.root) × (l.key ≡ l.after))
    × (next_along l.card l.n l.after (way_from l.card l.n l.after depth_limit (root_position l.root))
    ≡ in_round l.own l.card l.n l.after (way_from l.card l.n l.after depth_limit (root_position l.root))
    (next_in_leaf l.card l.after (leaf_of (way_from l.card l.n l.key depth_limit (root_position l.from)))))
    × IfSome l.own (λ (d : ℕ). d ≡ depth_of (leaf_of (way_from l.card l.n l.after depth_limit (root_position l.root))))

abbrev pub decreases-loop-leaf : goal.decreases-loop-leaf
decreases-loop-leaf l = bit (is_none l.own)
