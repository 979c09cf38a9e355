use Rattle.std.proofs.Common.{ap, ◌∙◌}
use Rattle.card.specs.Layout.{node_image}
use Rattle.change_plan.specs.Change.{Together}
use Rattle.change_siblings.proofs.SiblingLaws.{held_few, held_both}
use Rattle.change_siblings.proofs.lay_merged.Goals as goal

pub write_node-requires : goal.write_node-requires
write_node-requires c =
    let g = c.gather_siblings-held.ensures in
    let few = held_few _ _ c.requires.0 _ _ _ g.kind (c.as_slice.ensures ∙ g.keys) (c.as_slice-2.ensures ∙ g.values) c.requires.1 in
    (c.requires.2, few.0, few.1)

pub returns : goal.returns
returns c =
    let g = c.gather_siblings-held.ensures in
    c.write_node.ensures
    ∙ ap (λ (both : Together). node_image both.kind both.keys both.values)
    (held_both _ _ c.requires.0 _ _ _ g.kind (c.as_slice.ensures ∙ g.keys) (c.as_slice-2.ensures ∙ g.values))
