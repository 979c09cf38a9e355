use Rattle.std.proofs.Common.{ap, sym, ◌∙◌, length, arith}
use Rattle.card.proofs.NodeLaws.{length_node}
use Rattle.call_change.proofs.UpdateLaws.{landed, landed_run}
use Rattle.call_change.specs.Updates.{landing}
use Rattle.walk.specs.Descent.{way}
use Rattle.reason.proofs.reason_on.Goals as goal

-- the leaf that the key leads to is a node of the card
pub node_at-requires : goal.node_at-requires
unfolding landing way
node_at-requires c =
    let leaf = c.in_ok-leaf.leaf in
    let whole = c.nodes_of.ensures.sized _ c.in_ok-n.ensures.ok_part in
    let there = landed _ c.args.card.now c.in_ok-n.n c.args.key leaf.node leaf.link leaf.run whole (sym c.find_landing-landing.ensures ∙ c.in_ok-leaf.ensures.ok_part) in
    (there.inside.one, omega (arith, there.inside.most, whole.most), omega (arith, there.inside.most, whole.words))

pub reason_in-requires : goal.reason_in-requires
unfolding landing way
reason_in-requires c =
    let leaf = c.in_ok-leaf.leaf in
    let whole = c.nodes_of.ensures.sized _ c.in_ok-n.ensures.ok_part in
    let found = sym c.find_landing-landing.ensures ∙ c.in_ok-leaf.ensures.ok_part in
    let there = landed _ c.args.card.now c.in_ok-n.n c.args.key leaf.node leaf.link leaf.run whole found in (
      ap length c.node_at.ensures ∙ length_node c.args.card.now leaf.node there.inside.one (omega (arith, there.inside.most, whole.words)),
      c.requires,
      landed_run c.args.card.now c.in_ok-n.n c.args.key leaf.node leaf.link leaf.run found,
    )
