use Rattle.change_rows.proofs.HalfLaws.{keys_leaf, keys_inner}
use Rattle.change_rows.proofs.halves.keys_for.Goals as goal

pub returns-then-kind-eq-LEAF : goal.returns-then-kind-eq-LEAF
returns-then-kind-eq-LEAF c = keys_leaf c.args.kind c.args.values c.if-kind-eq-LEAF.true

pub returns-else-kind-eq-LEAF : goal.returns-else-kind-eq-LEAF
returns-else-kind-eq-LEAF c = keys_inner c.args.kind c.args.values c.if-kind-eq-LEAF.false
