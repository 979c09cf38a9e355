use Rattle.std.proofs.Common.{ap}
use Rattle.walk.specs.Descent.{down_by, down_in}
use Rattle.walk.proofs.go_down.Goals as goal

pub returns-in-Nowhere : goal.returns-in-Nowhere
unfolding down_in down_by
returns-in-Nowhere c = ap (down_by c.args.node.now c.args.key) c.in-Nowhere.ensures

pub returns-in-Leaf : goal.returns-in-Leaf
unfolding down_in down_by
returns-in-Leaf c = ap (down_by c.args.node.now c.args.key) c.in-Leaf.ensures
