-- Document 01, "The changes": what the calls plan to repair a fault is by the rules, on any card.
use mathlib.Core.Path.{◌≡◌, refl, ap, sym, subst, ◌∙◌}
use mathlib.Core.Bool.{Bool, true, false, ◌&&◌}
use mathlib.Core.List.{List, [], ◌∷◌}
use mathlib.Core.Logic.{◌⊎◌, inl, inr}
use Prim.Native.Nat.{ℕ, suc, ◌≤◌, ◌<◌}
use native.Mathlib.Omega.{arith}
use lib.ListN.{length, get_or}
use lib.Dec.{eqb, ltb, leb}
use borrow.Author.Tests.{eqb-true, eqb-false, eq-eqb, ltb-true, leb-true, leb-false}
use Rattle.card.specs.Layout.{root_place, depth_limit, node_at, kind_of, children, routing_keys}
use Rattle.card.specs.Stores.{Store}
use Rattle.change_decide.specs.Decide.{decide_tagged, decide_together, decide_siblings, is_node, left_sibling, left_number, right_number, decide_underfull, decide_at, on_search}
use Rattle.change_decide.specs.Decide.{decided_repair}
use Rattle.change_decide.specs.Places.{parent_at, left_at, right_at}
use Rattle.change_decide.specs.declared.Decision.{Decision}
use Rattle.change_layout.specs.LayOut.{lay_out}
use Rattle.change_layout.specs.Mending.{next_repair}
use Rattle.walk.specs.Descent.{root_position, count_of, seek}
use Rattle.walk.specs.declared.Position.{Position}
use Rattle.walk.specs.declared.Search.{Search}
use Rattle.walk.specs.declared.Search.TheVariants.{Refused as NoSearch, Balanced as SearchBalanced, Violation as SearchViolation}
use Rattle.laws.specs.Cases.{pick}
use Rattle.laws.proofs.Cases.{and_true, and_intro}
use Rattle.change_plan.specs.Change.{change_stores, kind_above, joined_keys, joined_children, absorb, split_parent, halves, copied}
use Rattle.change_plan.specs.Change.{Together as Both, leaves_together, inners_together, half, left_keys, key_between, share, merge, merge_root}
use Rattle.change_plan.specs.Planning.{prepared, first}
use Rattle.change_siblings.specs.Siblings.{together_at}
use Rattle.change_siblings.proofs.SiblingLaws.{leaves_count, inners_count, leaves_together_lem, inners_together_lem}
use Rattle.demands.specs.Rules.{Together, two_leaves_lem, two_internal, Underfull, TaggedChild, RepairRule, taken_in, parent_split, shared, merged, merged_root}
use Rattle.demands.proofs.PlannedNumbers.{ByRule, RightOver, not_refused, not_balanced, giving_one, giving_two, giving_three}
use Rattle.demands.proofs.Standing.{Below, Fault, fault_found}

module _ (c : List ℕ) (free : List Bool) (last : ℕ) (ss : List Store) (fewer : List Bool) (now : ℕ) (cut : List ℕ) where
  abbrev Repairs : Type 0
  Repairs = ByRule (RepairRule c) free last ss fewer now cut

  abbrev Laid : Decision → Type 0
  Laid d = lay_out c d free last ≡ prepared ss fewer now cut

  -- what a test came to, and what was decided then
  decided : (b : Bool) (d e : Decision) → Laid (pick b d e) → (b ≡ true → Laid d → Repairs) → (b ≡ false → Laid e → Repairs) → Repairs
  decided true d e h f g = f refl h
  decided false d e h f g = g refl h

  -- "Tagged node: parent with at most 10 children .. Parent with 11 .."
  tagged_mended : (p : Position) → Below c p → 0 < p.node → kind_of (parent_at c p) ≡ 2 → kind_of (node_at c p.node) ≡ 3
      → Laid (decide_tagged p (parent_at c p) (node_at c p.node)) → Repairs
  unfolding decide_tagged lay_out change_stores absorb split_parent joined_keys joined_children kind_above
  tagged_mended p b m kp kt e =
      decided (eqb (length (children (node_at c p.node))) 2) _ _ e (λ q e₁.
      let t : TaggedChild c p.above p.parent p.index p.node = record {
        parent_linked = b.parent_linked;
        parent_kind = kp;
        is_child = b.is_child;
        child_is = b.child_is;
        tagged = kt;
        two = eqb-true (length (children (node_at c p.node))) 2 q;
      } in
      decided (leb (length (children (parent_at c p))) 10) _ _ e₁
      (λ r e₂. giving_one _ e₂ (λ a. taken_in a t (leb-true (length (children (parent_at c p))) 10 r)))
      (λ r e₂. giving_three _ e₂ (λ x y z. parent_split x y z _ _ t (leb-false (length (children (parent_at c p))) 10 r) refl refl)))
      (λ q z. absurd (not_refused z))

  -- what two siblings hold together, as the rules have it
  abbrev Held : Position → Both → Type 0
  Held p b =
      Together c (left_number (parent_at c p) p) (get_or (routing_keys (parent_at c p)) (left_sibling p) 0) (right_number (parent_at c p) p) b.kind b.keys b.values

  -- "if that parent is the root with 2 children, the merged node becomes the root"
  into_root : (p : Position) (both : Both) → p.above ≡ root_place → Underfull c p.above p.parent (left_sibling p) (left_number (parent_at c p) p) (right_number (parent_at c p) p) → Held p both
      → length both.values ≤ 3 → length (children (parent_at c p)) ≡ 2
      → (x : ℕ) → RightOver (RepairRule c) (λ ms. merge_root p (parent_at c p) (left_sibling p) both (first ms)) (x ∷ [])
  unfolding change_stores merge_root
  into_root p both above u t few two x = rw above (merged_root x _ _ (rw above at u) t few two)

  -- "Together 4 or more: shared out .. Together 3 or fewer: merged .."
  together_mended : (p : Position) (count : ℕ) → length (together_at c p).values ≡ count → 0 < p.parent
      → Underfull c p.above p.parent (left_sibling p) (left_number (parent_at c p) p) (right_number (parent_at c p) p)
      → Held p (together_at c p) → Laid (decide_together p (parent_at c p) count) → Repairs
  unfolding decide_together lay_out change_stores share merge merge_root halves copied half left_keys key_between
  together_mended p count n m u t e =
      decided (ltb 12 count) _ _ e (λ q z. absurd (not_refused z)) (λ q e₁.
      decided (leb 4 count) _ _ e₁
      (λ r e₂. giving_three _ e₂ (λ x y z. shared x y z _ _ _ u t (rw n (leb-true 4 count r)) refl)) (λ r e₂.
      let few = leb-false 4 count r in
      decided (eqb p.above root_place && eqb (length (children (parent_at c p))) 2) _ _ e₂
      (λ s e₃.
      let root = and_true (eqb p.above root_place) (eqb (length (children (parent_at c p))) 2) s in
      let above = eqb-true p.above root_place root.0 in
      giving_one _ e₃ (into_root p (together_at c p) above u t (omega (arith, n, few)) (eqb-true (length (children (parent_at c p))) 2 root.1)))
      (λ s e₃. giving_two _ e₃ (λ x y. merged x y _ _ u t (omega (arith, n, few)) (not_that_root s)))))
    where
      not_that_root : (eqb p.above root_place && eqb (length (children (parent_at c p))) 2) ≡ false → (p.above ≡ root_place) × (length (children (parent_at c p)) ≡ 2) → ⊥
      not_that_root s h =
          let both_true = and_intro (eq-eqb p.above root_place h.0) (eq-eqb (length (children (parent_at c p))) 2 h.1) in
          let z : ◌≡◌ {A = ℕ} 0 1 = cc in
          omega arith

  -- two siblings of one kind
  module _ (p : Position) where
    two_leaves_there : kind_of (left_at c p) ≡ 1 → kind_of (right_at c p) ≡ 1 → Held p (together_at c p)
    unfolding leaves_together
    two_leaves_there x y = subst (Held p) (sym (leaves_together_lem c p x)) (two_leaves_lem x y)

    two_inners_there : kind_of (left_at c p) ≡ 2 → kind_of (right_at c p) ≡ 2 → Held p (together_at c p)
    unfolding inners_together
    two_inners_there x y = subst (Held p) (sym (inners_together_lem c p (λ t. omega (arith, t, x)))) (two_internal x y)

  siblings_mended : (p : Position) → 0 < p.parent → Underfull c p.above p.parent (left_sibling p) (left_number (parent_at c p) p) (right_number (parent_at c p) p)
      → Laid (decide_siblings p (parent_at c p) (left_at c p) (right_at c p)) → Repairs
  unfolding decide_siblings lay_out
  siblings_mended p m u e =
      decided (eqb (kind_of (left_at c p)) 1 && eqb (kind_of (right_at c p)) 1) _ _ e
      (λ q e₁.
      let k = and_true (eqb (kind_of (left_at c p)) 1) (eqb (kind_of (right_at c p)) 1) q in
      let x = eqb-true (kind_of (left_at c p)) 1 k.0 in
      together_mended p _ (ap (λ (b : Both). length b.values) (leaves_together_lem c p x) ∙ leaves_count (left_at c p) (right_at c p)) m u
      (two_leaves_there p x (eqb-true (kind_of (right_at c p)) 1 k.1)) e₁)
      (λ q e₁.
      decided ((eqb (kind_of (left_at c p)) 2 && eqb (kind_of (right_at c p)) 2) && (ltb 0 (length (children (left_at c p))) && ltb 0 (length (children (right_at c p))))) _ _ e₁
      (λ r e₂.
      let k = and_true (eqb (kind_of (left_at c p)) 2) (eqb (kind_of (right_at c p)) 2) (and_true (eqb (kind_of (left_at c p)) 2 && eqb (kind_of (right_at c p)) 2) _ r).0 in
      let x = eqb-true (kind_of (left_at c p)) 2 k.0 in
      together_mended p _ (ap (λ (b : Both). length b.values) (inners_together_lem c p (λ t. omega (arith, t, x))) ∙ inners_count (left_at c p) (right_at c p) _) m u
      (two_inners_there p x (eqb-true (kind_of (right_at c p)) 2 k.1)) e₂)
      (λ r z. absurd (not_refused z)))

  -- "Underfull non-root node: sibling is the right one for child 0, else the left one."
  underfull_mended : (n : ℕ) (p : Position) → Below c p → kind_of (parent_at c p) ≡ 2 → count_of (node_at c p.node) < 2
      → Laid (decide_underfull c n p (parent_at c p)) → Repairs
  unfolding decide_underfull lay_out
  underfull_mended n p b kp few e =
      decided (ltb (suc (left_sibling p)) (length (children (parent_at c p)))) _ _ e
      (λ q e₁.
      let u : Underfull c p.above p.parent (left_sibling p) (left_number (parent_at c p) p) (right_number (parent_at c p) p) = record {
        parent_linked = b.parent_linked;
        parent_kind = kp;
        index = p.index;
        is_child = b.is_child;
        few = rw b.child_is few;
        first_of_two = refl;
        has_sibling = ltb-true (suc (left_sibling p)) (length (children (parent_at c p))) q;
        left_is = refl;
        right_is = refl;
      } in
      decided (is_node n (left_number (parent_at c p) p) && is_node n (right_number (parent_at c p) p)) _ _ e₁
      (λ r e₂. siblings_mended p b.parent_there u e₂)
      (λ r z. absurd (not_refused z)))
      (λ q z. absurd (not_refused z))

  fault_mended : (n : ℕ) (p : Position) → Fault c p → Laid (decide_at c n p) → Repairs
  unfolding decide_at lay_out
  fault_mended n p f e =
      decided (eqb (kind_of (parent_at c p)) 2) _ _ e
      (λ q e₁.
      let kp = eqb-true (kind_of (parent_at c p)) 2 q in
      decided (eqb (kind_of (node_at c p.node)) 3) _ _ e₁
      (λ r e₂. tagged_mended p f.below f.node_there kp (eqb-true (kind_of (node_at c p.node)) 3 r) e₂)
      (λ r e₂. underfull_mended n p f.below kp (few (eqb-false (kind_of (node_at c p.node)) 3 r) f.tagged_or_few) e₂))
      (λ q z. absurd (not_refused z))
    where
      few : (kind_of (node_at c p.node) ≡ 3 → ⊥) → (kind_of (node_at c p.node) ≡ 3) ⊎ (count_of (node_at c p.node) < 2) → count_of (node_at c p.node) < 2
      few other (inl k) = absurd (other k)
      few other (inr h) = h

-- the next change of a repair that follows a key
pub repair_by_rule : (c : List ℕ) (n key : ℕ) {free : List Bool} {last : ℕ} {ss : List Store} {fewer : List Bool} {now : ℕ} {cut : List ℕ}
    → next_repair c n key free last ≡ prepared ss fewer now cut → ByRule (RepairRule c) free last ss fewer now cut
unfolding next_repair decided_repair on_search lay_out
repair_by_rule c n key {free} {last} {ss} {fewer} {now} {cut} e = go (seek c n key depth_limit (root_position (get_or c root_place 0))) refl e
  where
    go : (s : Search) → seek c n key depth_limit (root_position (get_or c root_place 0)) ≡ s → lay_out c (on_search c n s) free last ≡ prepared ss fewer now cut
        → ByRule (RepairRule c) free last ss fewer now cut
    go NoSearch f z = absurd (not_refused z)
    go SearchBalanced f z = absurd (not_balanced z)
    go (SearchViolation p) f z = fault_mended c free last ss fewer now cut n p (fault_found c n key p f) z
