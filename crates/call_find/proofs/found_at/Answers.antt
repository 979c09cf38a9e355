use Rattle.std.proofs.Common.{sym, ◌∙◌, ap, arith, length}
use Rattle.card.proofs.NodeLaws.{length_node}
use Rattle.walk.proofs.Along.{reached_inside}
use Rattle.call_find.proofs.found_at.Goals as goal

-- the leaf is a node of the card
pub node_at-requires : goal.node_at-requires
node_at-requires c =
    let k = reached_inside _ c.args.n _ _ _ _ _ (sym c.in-Some.ensures) in
    (k.one, omega (arith, k.most), omega (arith, k.most))

pub found_in-requires : goal.found_in-requires
found_in-requires c =
    let k = reached_inside _ c.args.n _ _ _ _ _ (sym c.in-Some.ensures) in
    ap length c.node_at.ensures ∙ length_node c.args.card.now c.in-Some.leaf.node k.one (omega (arith, k.most))
