use Rattle.std.proofs.Common.{ap, ◌∙◌, length}
use Rattle.card.specs.Layout.{greatest_nodes}
use Rattle.call_change.specs.Decided.{insert_at, decided}
use Rattle.call_change.proofs.UpdateLaws.{decided_nowhere, decided_there, leaf_there, leaf_words}
use Rattle.call_change.proofs.put_in.Goals as goal

pub node_at-requires : goal.node_at-requires
node_at-requires c = leaf_there greatest_nodes c.args.line c.args.card.now c.args.n c.args.key _ c.arrive.ensures _ _ c.in-Some.is c.requires.0

pub insert_in-requires : goal.insert_in-requires
insert_in-requires c =
    ap length c.node_at.ensures ∙ leaf_words greatest_nodes c.args.line c.args.card.now c.args.n c.args.key _ c.arrive.ensures _ _ c.in-Some.is c.requires.0

pub returns-in_default : goal.returns-in_default
unfolding decided
returns-in_default c =
    decided_nowhere greatest_nodes c.args.line c.args.card.now c.args.n c.args.key _ c.arrive.ensures c.args.doing (insert_at c.args.key c.args.value) c.in_default.is

pub returns : goal.returns
unfolding decided
returns c =
    c.insert_in.ensures ∙ ap (insert_at c.args.key c.args.value c.in-Some.leaf.node c.in-Some.leaf.link) c.node_at.ensures
    ∙ decided_there greatest_nodes c.args.line c.args.card.now c.args.n c.args.key _ c.arrive.ensures _ _ c.in-Some.is c.args.doing
    (insert_at c.args.key c.args.value)
