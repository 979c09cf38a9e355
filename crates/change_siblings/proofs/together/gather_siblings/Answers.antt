use Rattle.std.proofs.Common.{◌≡◌, sym, subst, ap, ap₂, ◌∙◌, List, ℕ, length, arith}
use Rattle.card.specs.Layout.{node_at, kind_of, children, leaf_pairs}
use Rattle.change_decide.specs.Places.{left_at, right_at}
use Rattle.change_decide.proofs.Fits.{leaves_counted, inners_counted}
use Rattle.change_plan.specs.Change.{leaves_together}
use Rattle.change_siblings.specs.Siblings.{HoldsTogether}
use Rattle.change_siblings.proofs.SiblingLaws.{parent_read, left_words_lem, right_words_lem, leaves_together_lem, inners_together_lem, inners_read}
use Rattle.change_siblings.proofs.together.gather_siblings.Goals as goal

pub overflow_add-j : goal.overflow_add-j
overflow_add-j c = let r = parent_read c.requires _ _ c.node_at-parent.ensures c.left_sibling-j.ensures in omega arith

pub offset_bounds-parent-j : goal.offset_bounds-parent-j
offset_bounds-parent-j c = let r = parent_read c.requires _ _ c.node_at-parent.ensures c.left_sibling-j.ensures in omega arith

pub bounds-parent-j : goal.bounds-parent-j
bounds-parent-j c = let r = parent_read c.requires _ _ c.node_at-parent.ensures c.left_sibling-j.ensures in omega arith

pub node_at-x-requires : goal.node_at-x-requires
node_at-x-requires c =
    let s = c.requires in
    let l = (parent_read s _ _ c.node_at-parent.ensures c.left_sibling-j.ensures).left in
    (omega (arith, l, s.left.pos), omega (arith, l, s.left.fits, s.within.size, s.within.few), omega (arith, l, s.left.fits))

pub overflow_add-j-2 : goal.overflow_add-j-2
overflow_add-j-2 c = let r = parent_read c.requires _ _ c.node_at-parent.ensures c.left_sibling-j.ensures in omega arith

pub offset_bounds-parent-j-2 : goal.offset_bounds-parent-j-2
offset_bounds-parent-j-2 c = let r = parent_read c.requires _ _ c.node_at-parent.ensures c.left_sibling-j.ensures in omega arith

pub bounds-parent-j-2 : goal.bounds-parent-j-2
bounds-parent-j-2 c = let r = parent_read c.requires _ _ c.node_at-parent.ensures c.left_sibling-j.ensures in omega arith

pub node_at-y-requires : goal.node_at-y-requires
node_at-y-requires c =
    let s = c.requires in
    let l = (parent_read s _ _ c.node_at-parent.ensures c.left_sibling-j.ensures).right in
    (omega (arith, l, s.right.pos), omega (arith, l, s.right.fits, s.within.size, s.within.few), omega (arith, l, s.right.fits))

pub bounds-x-0 : goal.bounds-x-0
bounds-x-0 c =
    let s = c.requires in
    let r = parent_read s _ _ c.node_at-parent.ensures c.left_sibling-j.ensures in
    let x : c.node_at-x.result.now ≡ left_at c.args.card.now c.args.p = c.node_at-x.ensures ∙ ap (node_at c.args.card.now) r.left in
    omega (arith, ap length x, left_words_lem c.args.card.now c.args.p s)

pub gather_leaves-requires : goal.gather_leaves-requires
gather_leaves-requires c =
    let card = c.args.card.now in
    let p = c.args.p in
    let s = c.requires in
    let r = parent_read s _ _ c.node_at-parent.ensures c.left_sibling-j.ensures in
    let x : c.node_at-x.result.now ≡ left_at card p = c.node_at-x.ensures ∙ ap (node_at card) r.left in
    let y : c.node_at-y.result.now ≡ right_at card p = c.node_at-y.ensures ∙ ap (node_at card) r.right in
    let pairs = λ (l : List ℕ). length (leaf_pairs l) in (
      ap length x ∙ left_words_lem card p s,
      ap length y ∙ right_words_lem card p s,
      omega (arith, ap pairs x, ap pairs y, leaves_counted (left_at card p) (right_at card p) (sym (ap kind_of x) ∙ c.if-x-eq-LEAF.true), s.few),
    )

pub offset_bounds-parent-j-else-x-eq-LEAF : goal.offset_bounds-parent-j-else-x-eq-LEAF
offset_bounds-parent-j-else-x-eq-LEAF c = let r = parent_read c.requires _ _ c.node_at-parent.ensures c.left_sibling-j.ensures in omega arith

pub bounds-parent-j-else-x-eq-LEAF : goal.bounds-parent-j-else-x-eq-LEAF
bounds-parent-j-else-x-eq-LEAF c = let r = parent_read c.requires _ _ c.node_at-parent.ensures c.left_sibling-j.ensures in omega arith

pub gather_inners-requires : goal.gather_inners-requires
gather_inners-requires c =
    let card = c.args.card.now in
    let p = c.args.p in
    let s = c.requires in
    let r = parent_read s _ _ c.node_at-parent.ensures c.left_sibling-j.ensures in
    let x : c.node_at-x.result.now ≡ left_at card p = c.node_at-x.ensures ∙ ap (node_at card) r.left in
    let y : c.node_at-y.result.now ≡ right_at card p = c.node_at-y.ensures ∙ ap (node_at card) r.right in
    let inner : kind_of (left_at card p) ≡ 1 → ⊥ = λ e. c.if-x-eq-LEAF.false (ap kind_of x ∙ e) in
    let some = s.inner inner in
    let count = λ (l : List ℕ). length (children l) in (
      ap length x ∙ left_words_lem card p s,
      ap length y ∙ right_words_lem card p s,
      omega (arith, ap count x, some.0),
      omega (arith, ap count y, some.1),
      omega (arith, ap count x, ap count y, inners_counted (left_at card p) (right_at card p) inner, s.few),
    )

pub returns-then-x-eq-LEAF : goal.returns-then-x-eq-LEAF
returns-then-x-eq-LEAF c =
    let card = c.args.card.now in
    let p = c.args.p in
    let r = parent_read c.requires _ _ c.node_at-parent.ensures c.left_sibling-j.ensures in
    let x : c.node_at-x.result.now ≡ left_at card p = c.node_at-x.ensures ∙ ap (node_at card) r.left in
    let y : c.node_at-y.result.now ≡ right_at card p = c.node_at-y.ensures ∙ ap (node_at card) r.right in
    subst (HoldsTogether c.gather_leaves.result)
    (ap₂ leaves_together x y ∙ sym (leaves_together_lem card p (sym (ap kind_of x) ∙ c.if-x-eq-LEAF.true)))
    c.gather_leaves.ensures

pub returns-else-x-eq-LEAF : goal.returns-else-x-eq-LEAF
returns-else-x-eq-LEAF c =
    let card = c.args.card.now in
    let p = c.args.p in
    let r = parent_read c.requires _ _ c.node_at-parent.ensures c.left_sibling-j.ensures in
    let x : c.node_at-x.result.now ≡ left_at card p = c.node_at-x.ensures ∙ ap (node_at card) r.left in
    let y : c.node_at-y.result.now ≡ right_at card p = c.node_at-y.ensures ∙ ap (node_at card) r.right in
    subst (HoldsTogether c.gather_inners.result)
    (inners_read x r.key y ∙ sym (inners_together_lem card p (λ e. c.if-x-eq-LEAF.false (ap kind_of x ∙ e))))
    c.gather_inners.ensures
