use Rattle.std.proofs.Common.{◌≡◌, sym, ap, ap₂, ◌∙◌, List, ℕ, suc, ◌+◌, ◌<◌, length, get_or, arith}
use Rattle.card.specs.Layout.{node_at, children}
use Rattle.card.proofs.NodeLaws.{length_node}
use Rattle.change_decide.specs.Decide.{is_node, left_sibling, left_number, right_number, decide_siblings}
use Rattle.change_decide.proofs.DecideLaws.{node_numbered, child_read, underfull_left_off, underfull_right_off, underfull_both}
use Rattle.change_decide.proofs.decide_underfull.Goals as goal
use Rattle.change_decide.proofs.decide_underfull.Goals.{then-not-is_node-via-then-not-is_node, then-not-is_node-via-else-not-is_node+then-not-is_node-2}
use Rattle.walk.specs.declared.Position.{Position}

-- the words read are the numbers of the two
module _ (parent : List ℕ) (p : Position) (j : ℕ) (e : j ≡ left_sibling p) (beside : suc (left_sibling p) < length (children parent)) where
  left_read : get_or parent (12 + j) 0 ≡ left_number parent p
  left_read = child_read _ _ _ (ap (λ (i : ℕ). 12 + i) e) (omega arith)

  right_read : get_or parent (13 + j) 0 ≡ right_number parent p
  right_read = child_read _ _ _ (omega arith) beside

pub returns-then-not-is_node : goal.returns-then-not-is_node
returns-then-not-is_node c =
    let parent = c.args.parent.now in
    let beside : suc (left_sibling c.args.p) < length (children parent) = omega (arith, c.if-child_count-j.false, c.child_count.ensures, c.left_sibling-j.ensures) in
    let left = ap (is_node c.args.n) (sym (left_read parent c.args.p _ c.left_sibling-j.ensures beside)) ∙ sym c.is_node.ensures in
    let right = ap (is_node c.args.n) (sym (right_read parent c.args.p _ c.left_sibling-j.ensures beside)) in
    elim c.then-not-is_node.branch [
      | then-not-is_node-via-then-not-is_node w ↦ sym (underfull_left_off _ _ _ _ beside (left ∙ w.if-not-is_node.true))
      | then-not-is_node-via-else-not-is_node+then-not-is_node-2 w ↦
          sym (underfull_right_off _ _ _ _ beside (left ∙ w.if-not-is_node.false) (right ∙ sym w.is_node-else-not-is_node.ensures ∙ w.if-not-is_node-2.true))
    ]

pub node_at-requires : goal.node_at-requires
node_at-requires c =
    let g = node_numbered _ _ (sym c.is_node.ensures ∙ c.if-not-is_node.false) in (g.0, omega (arith, g.1, c.requires.1), omega (arith, g.1, c.requires.0))

pub node_at-requires-2 : goal.node_at-requires-2
node_at-requires-2 c =
    let g = node_numbered _ _ (sym c.is_node-else-not-is_node.ensures ∙ c.if-not-is_node-2.false) in (g.0, omega (arith, g.1, c.requires.1), omega (arith, g.1, c.requires.0))

pub decide_siblings-requires : goal.decide_siblings-requires
decide_siblings-requires c =
    let left = node_numbered _ _ (sym c.is_node.ensures ∙ c.if-not-is_node.false) in
    let right = node_numbered _ _ (sym c.is_node-else-not-is_node.ensures ∙ c.if-not-is_node-2.false) in (
      c.requires.2,
      ap length c.node_at.ensures ∙ length_node c.args.card.now _ left.0 (omega (arith, left.1, c.requires.0)),
      ap length c.node_at-2.ensures ∙ length_node c.args.card.now _ right.0 (omega (arith, right.1, c.requires.0)),
    )

pub returns : goal.returns
returns c =
    let parent = c.args.parent.now in
    let beside : suc (left_sibling c.args.p) < length (children parent) = omega (arith, c.if-child_count-j.false, c.child_count.ensures, c.left_sibling-j.ensures) in
    let left = left_read parent c.args.p _ c.left_sibling-j.ensures beside in
    let right = right_read parent c.args.p _ c.left_sibling-j.ensures beside in
    let on = is_node c.args.n in
    c.decide_siblings.ensures
    ∙ ap₂ (decide_siblings c.args.p parent) (c.node_at.ensures ∙ ap (node_at c.args.card.now) left) (c.node_at-2.ensures ∙ ap (node_at c.args.card.now) right)
    ∙ sym
    (underfull_both _ _ _ _ beside (ap on (sym left) ∙ sym c.is_node.ensures ∙ c.if-not-is_node.false)
    (ap on (sym right) ∙ sym c.is_node-else-not-is_node.ensures ∙ c.if-not-is_node-2.false))
