use Rattle.std.proofs.Common.{ap₂, [], ◌∷◌, ℕ, arith}
use Rattle.change_siblings.proofs.SiblingLaws.{parent_read}
use Rattle.change_siblings.proofs.cut_siblings.Goals as goal

pub overflow_add-result : goal.overflow_add-result
overflow_add-result c =
    let r = parent_read c.requires _ _ c.node_at-parent.ensures c.left_sibling-j.ensures in omega arith

pub offset_bounds-parent-j : goal.offset_bounds-parent-j
offset_bounds-parent-j c =
    let r = parent_read c.requires _ _ c.node_at-parent.ensures c.left_sibling-j.ensures in omega arith

pub bounds-parent-j : goal.bounds-parent-j
bounds-parent-j c =
    let r = parent_read c.requires _ _ c.node_at-parent.ensures c.left_sibling-j.ensures in omega arith

pub overflow_add-result-2 : goal.overflow_add-result-2
overflow_add-result-2 c =
    let r = parent_read c.requires _ _ c.node_at-parent.ensures c.left_sibling-j.ensures in omega arith

pub offset_bounds-parent-j-2 : goal.offset_bounds-parent-j-2
offset_bounds-parent-j-2 c =
    let r = parent_read c.requires _ _ c.node_at-parent.ensures c.left_sibling-j.ensures in omega arith

pub bounds-parent-j-2 : goal.bounds-parent-j-2
bounds-parent-j-2 c =
    let r = parent_read c.requires _ _ c.node_at-parent.ensures c.left_sibling-j.ensures in omega arith

pub returns : goal.returns
returns c =
    let r = parent_read c.requires _ _ c.node_at-parent.ensures c.left_sibling-j.ensures in
    ap₂ (λ (a b : ℕ). c.args.p.parent ∷ a ∷ b ∷ []) r.left r.right
