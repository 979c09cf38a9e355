use Rattle.std.proofs.Common.{ap, ap₂, ◌∙◌, List, ℕ, length, arith}
use Rattle.change_plan.specs.Change.{joined_keys, joined_children}
use Rattle.change_split.proofs.SplitLaws.{tagged_read, keys_joined, children_joined}
use Rattle.change_split.proofs.tagged.take_in.Goals as goal

pub routing_keys-requires : goal.routing_keys-requires
routing_keys-requires c =
    let r = tagged_read c.requires _ _ c.node_at-parent.ensures c.node_at-tagged.ensures in (r.parent_words, omega arith)

pub routing_keys-requires-2 : goal.routing_keys-requires-2
routing_keys-requires-2 c =
    let r = tagged_read c.requires _ _ c.node_at-parent.ensures c.node_at-tagged.ensures in (r.tagged_words, omega arith)

pub replaced-keys-requires : goal.replaced-keys-requires
replaced-keys-requires c =
    let r = tagged_read c.requires _ _ c.node_at-parent.ensures c.node_at-tagged.ensures in
    let a = ap length c.routing_keys.ensures in
    let b = ap length c.routing_keys-2.ensures in
    (omega arith, omega arith, omega arith)

pub children-requires : goal.children-requires
children-requires c = (tagged_read c.requires _ _ c.node_at-parent.ensures c.node_at-tagged.ensures).parent_words

pub children-requires-2 : goal.children-requires-2
children-requires-2 c = (tagged_read c.requires _ _ c.node_at-parent.ensures c.node_at-tagged.ensures).tagged_words

pub replaced-kids-requires : goal.replaced-kids-requires
replaced-kids-requires c =
    let r = tagged_read c.requires _ _ c.node_at-parent.ensures c.node_at-tagged.ensures in
    let a = ap length c.children.ensures in
    let b = ap length c.children-2.ensures in
    (omega arith, omega arith, omega arith)

pub returns : goal.returns
returns c =
    let i = c.args.p.index in
    let parent = c.node_at-parent.ensures in
    let tagged = c.node_at-tagged.ensures in (
      keys_joined c.node_at-parent.result.now c.node_at-tagged.result.now _ _ _ i c.routing_keys.ensures c.routing_keys-2.ensures c.replaced-keys.ensures
          ∙ ap₂ (λ (x y : List ℕ). joined_keys x i y) parent tagged,
      children_joined c.node_at-parent.result.now c.node_at-tagged.result.now _ _ _ i c.children.ensures c.children-2.ensures c.replaced-kids.ensures
          ∙ ap₂ (λ (x y : List ℕ). joined_children x i y) parent tagged,
    )
