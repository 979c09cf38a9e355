-- Document 01, "The changes": an underfull leaf and its sibling. "Together 4 or more: shared out, the left one getting the larger
-- half, under a new copy of the parent. Together 3 or fewer: merged, the parent copied with one child less; if that parent is the
-- root with 2 children, the merged node becomes the root."
use mathlib.Core.Path.{◌≡◌, refl, ap, ◌∙◌}
use mathlib.Core.List.{List, [], ◌∷◌, ◌++◌}
use mathlib.Core.Bool.{Bool, true, false}
use mathlib.Core.Logic.{inl, inr}
use Prim.Native.Nat.{ℕ, ◌+◌, ◌≤◌, ◌<◌}
use native.Mathlib.Omega.{arith}
use lib.ListN.{length, take, drop, length-append, length-take, length-drop}
use lib.Dec.{ltb}
use borrow.Author.Tests.{lt-ltb, le-ltb}
use Rattle.card.specs.Layout.{slot_pairs}
use Rattle.card.specs.Stores.{NewNode, new_node}
use Rattle.card.proofs.NodeLaws.{slot_pairs_le}
use Rattle.change_plan.specs.Change.{half}
use Rattle.theory_change.proofs.Exchange.{Exchange, exchange_splice, Enough, enough, Remains, remains_enough, OneViolation, copied, half_size}
use Rattle.theory_change.proofs.LeafRows.{new_leaf, slot_keys, new_leaf_pairs, new_leaf_range, new_leaf_settled, length_pair_keys}
use Rattle.theory_change.proofs.LeafRows.{length_pair_values, new_leaf_represented, two_leaves, two_leaves_pairs, two_leaves_range}
use Rattle.theory_change.proofs.LeafRows.{two_leaves_settled, two_leaves_widths}
use Rattle.theory_change.proofs.Rewrite.{SameHeight, Rewrite}
use Rattle.laws.proofs.Cases.{order}
use Rattle.laws.specs.Cases.{pick}
use Rattle.laws.specs.Sorting.{Pairs, sort, pair_keys, pair_values}
use Rattle.laws.proofs.Sorting.{total_sort, length_sort}
use Rattle.laws.specs.Totals.{total}
use Rattle.laws.proofs.Totals.{total_append, total_le}
use Rattle.theory_tree.specs.Pairs.{has_key, outside, LeafRange}
use Rattle.theory_tree.proofs.Pairs.{has_outside}
use Rattle.theory_tree.specs.Represent.{Represents}
use Rattle.theory_tree.proofs.Sorted.{outside_le, Rising, rising_sort}
use Rattle.theory_tree.specs.Height.{Height}
use Rattle.theory_tree.proofs.Splice.{represents_splice}
use Rattle.theory_tree.specs.Tree.{Forest, roots, routing, leaf, node, one, more}
use Rattle.theory_tree.proofs.Tree.{Left, Right, splice, Context, rightmost, top}
use Rattle.theory_tree.proofs.Violations.{few_le, few_none, few_zero, violations_splice, widths_splice, size_splice, violations_inside}
use Rattle.theory_tree.specs.Violations.{few, forest_violations}

-- two leaves side by side, and the pairs that they hold together, by rising key
abbrev pub leaves : ℕ → List ℕ → List ℕ → ℕ → ℕ → List ℕ → List ℕ → Forest
leaves x ks vs k y ks' vs' = more (leaf x ks vs) k (one (leaf y ks' vs'))

abbrev pub pairs_together : List ℕ → List ℕ → List ℕ → List ℕ → Pairs
pairs_together ks vs ks' vs' = sort (slot_pairs ks vs ++ slot_pairs ks' vs')

-- the new nodes of the pairs, in one leaf and in two
abbrev pub leaf_node : ℕ → Pairs → NewNode
leaf_node m ps = new_node m 1 (pair_keys ps) (pair_values ps)

abbrev pub leaf_nodes : ℕ → ℕ → ℕ → Pairs → List NewNode
leaf_nodes a b n ps = leaf_node a (take n ps) ∷ leaf_node b (drop n ps) ∷ []

-- and of an internal node over a forest
abbrev pub inner_node : ℕ → Forest → NewNode
inner_node m f = new_node m 2 (routing f) (roots f)

-- "Underfull non-root node": one of the two leaves is
abbrev pub UnderfullLeaf : List ℕ → List ℕ → List ℕ → List ℕ → Type 0
UnderfullLeaf ks vs ks' vs' = 1 ≤ few (length (slot_pairs ks vs)) + few (length (slot_pairs ks' vs'))

-- a range may be wider
outside_wider : (lo hi hi' : ℕ) → hi ≤ hi' → (p : ℕ × ℕ) → outside lo hi' p ≤ outside lo hi p
outside_wider lo hi hi' h p =
    order p.0 lo (λ o. rw (lt-ltb p.0 lo o) (omega arith))
    (λ o. order p.0 hi (λ o'. rw (le-ltb p.0 lo o, lt-ltb p.0 hi' (omega arith)) (omega arith)) (λ o'. rw (le-ltb p.0 lo o, le-ltb p.0 hi o') (test_le (ltb p.0 hi'))))
  where
    test_le : (t : Bool) → pick t 0 1 ≤ 1
    test_le true = omega arith
    test_le false = omega arith

-- the pairs below k and those from k on, in one range
range_append : (lo k hi : ℕ) (ps qs : Pairs) → lo < k → k < hi → LeafRange lo k ps → LeafRange k hi qs → LeafRange lo hi (ps ++ qs)
range_append lo k hi ps qs h g u v =
    record {
      inside = omega (
        arith,
        total_append (outside lo hi) ps qs,
        total_le (outside lo hi) (outside lo k) (outside_wider lo k hi (omega arith)) ps,
        total_le (outside lo hi) (outside k hi) (outside_le lo k hi (omega arith)) qs,
        u.inside,
        v.inside,
      );
      once = λ j. order j k
          (λ o. omega (arith, total_append (has_key j) ps qs, u.once j, total_le (has_key j) (outside k hi) (has_outside k hi j (inl o)) qs, v.inside))
          (λ o. omega (arith, total_append (has_key j) ps qs, v.once j, total_le (has_key j) (outside lo k) (has_outside lo k j (inr o)) ps, u.inside));
    }

module _ (ks vs ks' vs' : List ℕ) where
  pub together_total : (w : ℕ × ℕ → ℕ) → total w (pairs_together ks vs ks' vs') ≡ total w (slot_pairs ks vs ++ slot_pairs ks' vs')
  together_total w = total_sort w (slot_pairs ks vs ++ slot_pairs ks' vs')

  pub together_length : length (pairs_together ks vs ks' vs') ≡ length (slot_pairs ks vs) + length (slot_pairs ks' vs')
  together_length = length_sort (slot_pairs ks vs ++ slot_pairs ks' vs') ∙ length-append (slot_pairs ks vs) (slot_pairs ks' vs')

  pub together_nonzero : total (has_key 0) (pairs_together ks vs ks' vs') ≡ 0
  together_nonzero = omega (arith, together_total (has_key 0), total_append (has_key 0) (slot_pairs ks vs) (slot_pairs ks' vs'), slot_keys ks vs, slot_keys ks' vs')

  pub together_rising : (lo k hi : ℕ) → lo < k → k < hi → LeafRange lo k (slot_pairs ks vs) → LeafRange k hi (slot_pairs ks' vs') → Rising lo hi (pairs_together ks vs ks' vs')
  together_rising lo k hi h g u v = rising_sort lo hi (slot_pairs ks vs ++ slot_pairs ks' vs') (omega arith) (range_append lo k hi (slot_pairs ks vs) (slot_pairs ks' vs') h g u v)

module _ (x : ℕ) (ks vs : List ℕ) (k y : ℕ) (ks' vs' : List ℕ) where
  -- shared out: the first n pairs go left
  pub leaves_share : (a b n : ℕ) → 2 ≤ n → n + 2 ≤ length (pairs_together ks vs ks' vs') → n ≤ 11 → length (pairs_together ks vs ks' vs') ≤ n + 11
      → Exchange (leaves x ks vs k y ks' vs') (two_leaves a b n (pairs_together ks vs ks' vs')) (leaf_nodes a b n (pairs_together ks vs ks' vs')) (x ∷ y ∷ [])
  leaves_share a b n h g e f =
      let ps = pairs_together ks vs ks' vs' in
      let z = together_nonzero ks vs ks' vs' in
      let p = two_leaves_pairs a b n ps z in
      let lt : length (take n ps) ≤ 11 = simp length-take (omega arith) in
      let ld : length (drop n ps) ≤ 11 = simp length-drop (omega arith) in
      record {
        range = λ lo hi o i. two_leaves_range a b n ps z lo hi (omega arith) (omega arith) (together_rising ks vs ks' vs' lo k hi i.1 i.2 i.0 i.3);
        same_pairs = λ w. ap (total w) p ∙ together_total ks vs ks' vs' w;
        height = λ u i. (i.0, i.0);
        widths = λ i. two_leaves_widths a b n ps z h g;
        same_numbers = λ w. omega arith;
        few = (
          (omega (arith, length_pair_keys (take n ps)), omega (arith, length_pair_values (take n ps))),
          ((omega (arith, length_pair_keys (drop n ps)), omega (arith, length_pair_values (drop n ps))), tt),
        );
        represented = λ c q w. (new_leaf_represented c a (take n ps) lt w.0, new_leaf_represented c b (drop n ps) ld w.1.0);
      }

  -- merged: all pairs in one leaf
  pub leaves_merge : (a : ℕ) → 2 ≤ length (pairs_together ks vs ks' vs') → length (pairs_together ks vs ks' vs') ≤ 11
      → Exchange (leaves x ks vs k y ks' vs') (one (new_leaf a (pairs_together ks vs ks' vs'))) (leaf_node a (pairs_together ks vs ks' vs') ∷ []) (x ∷ y ∷ [])
  leaves_merge a h g =
      let ps = pairs_together ks vs ks' vs' in
      let z = together_nonzero ks vs ks' vs' in
      let p = new_leaf_pairs a ps z in
      record {
        range = λ lo hi o i. new_leaf_range a lo hi ps z (together_rising ks vs ks' vs' lo k hi i.1 i.2 i.0 i.3);
        same_pairs = λ w. ap (total w) p ∙ together_total ks vs ks' vs' w;
        height = λ u i. i.0;
        widths = λ i. omega (arith, ap length p);
        same_numbers = λ w. omega arith;
        few = ((omega (arith, length_pair_keys ps), omega (arith, length_pair_values ps)), tt);
        represented = λ c q w. new_leaf_represented c a ps g w.0;
      }

module _ (l : Left) (x : ℕ) (ks vs : List ℕ) (k y : ℕ) (ks' vs' : List ℕ) (r : Right)
    (one_violation : OneViolation (splice l (leaves x ks vs k y ks' vs') r)) (underfull : UnderfullLeaf ks vs ks' vs') where
  -- the one violation is that of the two
  leaves_single : few (length (slot_pairs ks vs)) + few (length (slot_pairs ks' vs')) ≡ 1
  leaves_single = omega (arith, violations_inside l (leaves x ks vs k y ks' vs') r, one_violation.single)

  leaves_widths : (1 ≤ length (slot_pairs ks vs)) × (1 ≤ length (slot_pairs ks' vs'))
  leaves_widths = (widths_splice l (leaves x ks vs k y ks' vs') r one_violation.widths).0

  -- so one has a single pair, the other two or more
  pub leaves_least : 3 ≤ length (pairs_together ks vs ks' vs')
  leaves_least =
      let w = leaves_widths in
      let s = leaves_single in
      let n = together_length ks vs ks' vs' in
      order 0 (few (length (slot_pairs ks vs))) (λ o. omega (arith, few_zero (length (slot_pairs ks' vs')) (omega arith), w.0))
      (λ o. omega (arith, few_zero (length (slot_pairs ks vs)) (omega arith), w.1))

  -- and a leaf of eleven slots at most eleven
  pub leaves_most : (c : List ℕ) (p : ℕ) → Represents c (node p false (splice l (leaves x ks vs k y ks' vs') r)) → length (pairs_together ks vs ks' vs') ≤ 12
  leaves_most c p q =
      let u = (represents_splice c l (leaves x ks vs k y ks' vs') r q.1).0 in
      let n = together_length ks vs ks' vs' in
      let h : length (slot_pairs ks vs) ≤ 11 = omega (arith, slot_pairs_le ks vs, u.0.1) in
      let h' : length (slot_pairs ks' vs') ≤ 11 = omega (arith, slot_pairs_le ks' vs', u.1.1) in
      order (length (slot_pairs ks vs)) 2 (λ o. omega arith)
      (λ o. order (length (slot_pairs ks' vs')) 2 (λ o'. omega arith) (λ o'. omega (arith, leaves_single, few_none (length (slot_pairs ks vs)) o, few_none (length (slot_pairs ks' vs')) o')))

  -- leaves without violation in their place leave the parent's children none
  leaves_settled : (g : Forest) → forest_violations g ≡ 0 → forest_violations (splice l g r) ≡ 0
  leaves_settled g z = omega (arith, violations_splice l (leaves x ks vs k y ks' vs') g r, one_violation.single, leaves_single)

  -- other leaves in their place, under a new copy of the parent
  leaves_copied : (C : Context) (p c : ℕ) (g : Forest) (new : List NewNode) → Exchange (leaves x ks vs k y ks' vs') g new (x ∷ y ∷ [])
      → forest_violations g ≡ 0 → 1 ≤ length (roots g) → length (roots g) ≤ 2 → Enough C (length (roots (splice l g r)))
      → Rewrite C (node p false (splice l (leaves x ks vs k y ks' vs') r)) (node c false (splice l g r)) (new ++ inner_node c (splice l g r) ∷ []) (p ∷ x ∷ y ∷ [])
  leaves_copied C p c g new E z h h' e =
      let s = size_splice l (leaves x ks vs k y ks' vs') g r in
      let least = one_violation.least in
      let most = one_violation.most in
      copied C p c (splice l (leaves x ks vs k y ks' vs') r) (splice l g r) new (x ∷ y ∷ [])
      (exchange_splice l (leaves x ks vs k y ks' vs') g r new (x ∷ y ∷ []) E) one_violation.widths e (omega arith) (leaves_settled g z)
      (few_le (length (roots (splice l g r))))

  -- "Together 4 or more: shared out, the left one getting the larger half, under a new copy of the parent."
  pub leaf_share : (C : Context) (p a b c : ℕ) → 4 ≤ length (pairs_together ks vs ks' vs') → length (pairs_together ks vs ks' vs') ≤ 12
      → Rewrite C (node p false (splice l (leaves x ks vs k y ks' vs') r)) (node c false (splice l (two_leaves a b (half (length (pairs_together ks vs ks' vs'))) (pairs_together ks vs ks' vs')) r))
      (leaf_node a (take (half (length (pairs_together ks vs ks' vs'))) (pairs_together ks vs ks' vs'))
      ∷ leaf_node b (drop (half (length (pairs_together ks vs ks' vs'))) (pairs_together ks vs ks' vs'))
      ∷ inner_node c (splice l (two_leaves a b (half (length (pairs_together ks vs ks' vs'))) (pairs_together ks vs ks' vs')) r)
      ∷ [])
      (p ∷ x ∷ y ∷ [])
  leaf_share C p a b c h g =
      let ps = pairs_together ks vs ks' vs' in
      let n = half (length ps) in
      let e = half_size (length ps) h g in
      let s = size_splice l (leaves x ks vs k y ks' vs') (two_leaves a b n ps) r in
      let least = one_violation.least in
      leaves_copied C p c (two_leaves a b n ps) (leaf_nodes a b n ps)
      (leaves_share x ks vs k y ks' vs' a b n e.0 e.1 (omega (arith, e.3)) (omega (arith, e.2)))
      (two_leaves_settled a b n ps (together_nonzero ks vs ks' vs') e.0 e.1) (omega arith) (omega arith)
      (enough C (length (roots (splice l (two_leaves a b n ps) r))) (omega arith))

  -- "Together 3 or fewer: merged, the parent copied with one child less"
  pub leaf_merge : (C : Context) (p a b : ℕ) → length (pairs_together ks vs ks' vs') ≤ 3 → Remains C (length (roots (splice l (leaves x ks vs k y ks' vs') r)))
      → Rewrite C (node p false (splice l (leaves x ks vs k y ks' vs') r)) (node b false (splice l (one (new_leaf a (pairs_together ks vs ks' vs'))) r))
      (leaf_node a (pairs_together ks vs ks' vs') ∷ inner_node b (splice l (one (new_leaf a (pairs_together ks vs ks' vs'))) r) ∷ [])
      (p ∷ x ∷ y ∷ [])
  leaf_merge C p a b h g =
      let ps = pairs_together ks vs ks' vs' in
      let m = leaves_least in
      let s = size_splice l (leaves x ks vs k y ks' vs') (one (new_leaf a ps)) r in
      leaves_copied C p b (one (new_leaf a ps)) (leaf_node a ps ∷ []) (leaves_merge x ks vs k y ks' vs' a (omega arith) (omega arith))
      (new_leaf_settled a ps (together_nonzero ks vs ks' vs') (omega arith)) (omega arith) (omega arith)
      (remains_enough C (length (roots (splice l (leaves x ks vs k y ks' vs') r))) (length (roots (splice l (one (new_leaf a ps)) r))) one_violation.least (omega arith) g)

-- "if that parent is the root with 2 children, the merged node becomes the root"
module _ (x : ℕ) (ks vs : List ℕ) (k y : ℕ) (ks' vs' : List ℕ) (one_violation : OneViolation (leaves x ks vs k y ks' vs')) (underfull : UnderfullLeaf ks vs ks' vs') (p a : ℕ) where
  root_height : (h : ℕ) → Height h (node p false (leaves x ks vs k y ks' vs')) → (h' : ℕ) × Height h' (new_leaf a (pairs_together ks vs ks' vs')) × SameHeight top h h'
  root_height h i = (0, refl, tt)

  pub leaf_merge_root : length (pairs_together ks vs ks' vs') ≤ 3 → Rewrite top (node p false (leaves x ks vs k y ks' vs'))
      (new_leaf a (pairs_together ks vs ks' vs')) (leaf_node a (pairs_together ks vs ks' vs') ∷ []) (p ∷ x ∷ y ∷ [])
  leaf_merge_root h =
      let E = leaves_merge x ks vs k y ks' vs' a (omega (arith, leaves_least [] x ks vs k y ks' vs' rightmost one_violation underfull)) (omega arith) in
      record {
        range = E.range;
        same_pairs = E.same_pairs;
        height = root_height;
        shape = tt;
        settled = refl;
        at_most_one = omega arith;
        same_numbers = λ w. omega arith;
        few = E.few;
        represented = λ c q. E.represented c q.1;
      }
