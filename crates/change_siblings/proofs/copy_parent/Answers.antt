use Rattle.std.proofs.Common.{ap, ap₂, ◌∙◌, List, ℕ, ◌+◌, length, get_or, take, length-take, arith}
use Rattle.card.proofs.NodeLaws.{children_le, length_routing}
use Rattle.change_rows.specs.Nodes.{image_of}
use Rattle.change_plan.specs.Change.{copied}
use Rattle.change_siblings.proofs.SiblingLaws.{parent_read, replaced_length, parent_copied}
use Rattle.change_siblings.proofs.copy_parent.Goals as goal

pub routing_keys-requires : goal.routing_keys-requires
routing_keys-requires c =
    let r = parent_read c.requires.0 _ _ c.node_at-parent.ensures c.left_sibling-j.ensures in (r.words, omega arith)

pub replaced-routing-requires : goal.replaced-routing-requires
replaced-routing-requires c =
    let parent = c.node_at-parent.result.now in
    let r = parent_read c.requires.0 parent _ c.node_at-parent.ensures c.left_sibling-j.ensures in
    let n = ap length c.routing_keys.ensures ∙ length_routing parent r.words in
    let f = children_le parent in
    (omega arith, omega arith, omega (arith, c.requires.1))

pub children-requires : goal.children-requires
children-requires c = (parent_read c.requires.0 _ _ c.node_at-parent.ensures c.left_sibling-j.ensures).words

pub replaced-under-requires : goal.replaced-under-requires
replaced-under-requires c =
    let parent = c.node_at-parent.result.now in
    let r = parent_read c.requires.0 parent _ c.node_at-parent.ensures c.left_sibling-j.ensures in
    let n = ap length c.children.ensures in
    let f = children_le parent in
    let k = length-take (length c.args.keys.now + 1) c.args.nodes in
    (omega arith, omega arith, omega (arith, c.requires.1))

pub write_node-requires : goal.write_node-requires
write_node-requires c =
    let parent = c.node_at-parent.result.now in
    let j = c.left_sibling-j.result in
    let keys = c.args.keys.now in
    let kids = take (length keys + 1) c.args.nodes in
    let r = parent_read c.requires.0 parent j c.node_at-parent.ensures c.left_sibling-j.ensures in
    let a = ap length c.routing_keys.ensures ∙ length_routing parent r.words in
    let b = ap length c.children.ensures in
    let f = children_le parent in
    let m = ap length (c.as_slice.ensures ∙ c.replaced-routing.ensures) ∙ replaced_length c.routing_keys.result.now keys j (j + 1) (omega arith) in
    let n = ap length (c.as_slice-2.ensures ∙ c.replaced-under.ensures) ∙ replaced_length c.children.result.now kids j (j + 2) (omega arith) in
    (c.requires.2, omega (arith, c.requires.1), omega (arith, c.requires.1, length-take (length keys + 1) c.args.nodes))

pub returns : goal.returns
returns c =
    let nodes = c.args.nodes in
    let keys = c.args.keys.now in
    let m = get_or nodes (length keys + 1) 0 in
    let kids = take (length keys + 1) nodes in
    c.write_node.ensures
    ∙ parent_copied m c.left_sibling-j.result c.node_at-parent.result.now _ _ keys kids _ _
    c.routing_keys.ensures c.children.ensures (c.as_slice.ensures ∙ c.replaced-routing.ensures) (c.as_slice-2.ensures ∙ c.replaced-under.ensures)
    ∙ ap₂ (λ (l : List ℕ) (i : ℕ). image_of (copied m l i keys kids)) c.node_at-parent.ensures c.left_sibling-j.ensures
