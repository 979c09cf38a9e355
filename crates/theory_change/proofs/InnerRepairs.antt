-- Document 01, "The changes": the violation of an internal node, whichever it is, is mended by a rewrite of its parent.
use mathlib.Core.Path.{◌≡◌, refl, ap, sym, ◌∙◌, subst}
use mathlib.Core.List.{List, [], ◌∷◌, ◌++◌}
use mathlib.Core.Bool.{Bool, true, false}
use mathlib.Core.Logic.{◌⊎◌, inl, inr}
use Prim.Native.Nat.{ℕ, zero, suc, ◌+◌, ◌-◌, ◌*◌, ◌≤◌}
use native.Mathlib.Omega.{arith}
use lib.ListN.{length}
use Rattle.card.specs.Stores.{new_node}
use Rattle.card.proofs.NodeLaws.{run_more}
use Rattle.change_plan.specs.Change.{half}
use Rattle.change_plan.specs.Planning.{first, second, third}
use Rattle.theory_change.proofs.Exchange.{alone, beside, Remains, OneViolation, together_le, half_size, Parts, parts}
use Rattle.theory_shapes.proofs.Bare.{bare, bare_left, bare_right}
use Rattle.theory_shapes.proofs.Next.{tagged_in, mend_two, mend_at}
use Rattle.theory_shapes.proofs.Shaped.{absorb_shaped, split_shaped, inner_share_shaped, inner_merge_shaped, inner_merge_root_shaped}
use Rattle.theory_change.proofs.InnerChanges.{inner_pair, new_siblings, parted_nodes, tagged_child, absorb_rewrite, split_rewrite}
use Rattle.theory_change.proofs.InnerChanges.{Underfull, together, share_rewrite, merge_rewrite, merge_root_rewrite}
use Rattle.theory_change.proofs.InnerPlans.{absorb_plan, split_plan, share_plan, merge_plan, merge_root_plan}
use Rattle.theory_change.proofs.Mending.{StandsAt, Planned, first_of, two_of, three_of, root_of_two_lem}
use Rattle.theory_change.proofs.Siblings.{inner_due, Pair, siblings}
use Rattle.laws.proofs.Cases.{order}
use Rattle.theory_tree.proofs.Cut.{cut}
use Rattle.theory_tree.proofs.Pairs.{routing_roots}
use Rattle.theory_tree.proofs.Path.{width_of, full_run, own_violation, reserve, width_fill}
use Rattle.theory_tree.specs.Represent.{kind, Represents}
use Rattle.theory_tree.proofs.Represent.{link_place}
use Rattle.theory_tree.specs.Height.{Height, AllHeight}
use Rattle.theory_tree.proofs.Splice.{height_splice}
use Rattle.theory_tree.specs.Tree.{Tree, Forest, root, roots, routing, leaf, node, one, more}
use Rattle.theory_tree.proofs.Tree.{Left, Right, join, splice, fill, Context, top, down}
use Rattle.theory_tree.specs.Violations.{violations}
use Rattle.theory_tree.proofs.Violations.{widths_splice, size_splice, violations_inside}
use Rattle.walk.specs.declared.Position.{Position}

-- a full parent keeps a node in reserve for its own split
full_parent : (C : Context) (m : ℕ) (g : Bool) (l : Left) (r : Right) → width_of l r ≡ 11 → full_run (down C m g l r) ≡ suc (full_run C)
unfolding full_run
full_parent C m g l r e = run_more (width_of l r) (full_run C) e ∙ omega arith

reserve_above : (C : Context) (m : ℕ) (f : Forest) → reserve C (node m (tagged_in C) f) ≤ full_run C
reserve_above top m f = omega arith
reserve_above (down C i g l r) m f = omega arith

-- "Tagged node"
module _ (c : List ℕ) (n : ℕ) (pos : Position) (free : List Bool) (last : ℕ) (C : Context) (p : ℕ) (l : Left) (r : Right) where
  two_taken : (q : ℕ) (a : Tree) (k : ℕ) (b : Tree) → StandsAt pos C p l (node q true (more a k (one b)))
      → Represents c (node p false (splice l (tagged_child q a k b) r)) → OneViolation (splice l (tagged_child q a k b) r)
      → Planned c n pos free last C (node p false (splice l (tagged_child q a k b) r)) (full_run (down C p false l r))
      (mend_at (tagged_in C) (bare_left l) (bare (node q true (more a k (one b)))) (bare_right r))
  two_taken q a k b s w v =
      let N = length (roots (splice l (tagged_child q a k b) r)) in
      let kids = splice l (more a k (one b)) r in
      let z = size_splice l (tagged_child q a k b) (more a k (one b)) r in
      let m = v.most in
      order N 11
      (λ o.
      record {
        given = 1;
        nodes = λ ms. new_node (first ms) 2 (routing kids) (roots kids) ∷ [];
        part = λ ms. node (first ms) false kids;
        out = p ∷ q ∷ [];
        planned = absorb_plan c n pos free last C p l q a k b r s w (omega arith);
        shaped = λ ms. absorb_shaped (tagged_in C) l q (more a k (one b)) r (first ms) (omega arith);
        rewrites = λ ms. absorb_rewrite C p l q a k b r v (first ms) (omega arith);
        at_most_three = omega arith;
        in_order = first_of;
        budget = λ ms. omega arith;
      })
      (λ o.
      let e : N ≡ 11 = omega arith in
      let L = (cut 6 kids).left in
      let key = (cut 6 kids).key in
      let R = (cut 6 kids).right in
      let u : Parts 6 kids L key R = parts 6 kids (omega arith) (omega arith) in
      record {
        given = 3;
        nodes = λ ms. parted_nodes (kind (tagged_in C)) (first ms) (second ms) (third ms) L key R;
        part = λ ms. node (third ms) (tagged_in C) (inner_pair (first ms) L key (second ms) R);
        out = p ∷ q ∷ [];
        planned = split_plan c n pos free last C p l q a k b r s w L key R u e;
        shaped = λ ms. split_shaped (tagged_in C) l q (more a k (one b)) r (first ms) (second ms) (third ms) (omega arith);
        rewrites = λ ms. split_rewrite C p l q a k b r v L key R u (first ms) (second ms) (third ms) e;
        at_most_three = omega arith;
        in_order = three_of;
        budget = λ ms. omega (arith, full_parent C p false l r (sym (width_fill l (node q true (more a k (one b))) r) ∙ e), reserve_above C (third ms) (inner_pair (first ms) L key (second ms) R));
      })

  pub tagged_mended : (q : ℕ) (f : Forest) → StandsAt pos C p l (node q true f) → Represents c (node p false (fill l (node q true f) r)) → OneViolation (fill l (node q true f) r)
      → Planned c n pos free last C (node p false (fill l (node q true f) r)) (reserve (down C p false l r) (node q true f)) (mend_at (tagged_in C) (bare_left l) (bare (node q true f)) (bare_right r))
  tagged_mended q (one t) s w v = absurd (omega (arith, (widths_splice l (one (node q true (one t))) r v.widths).0.0))
  tagged_mended q (more a k (one b)) s w v = two_taken q a k b s w v
  tagged_mended q (more a k (more b i f)) s w v = absurd (omega (arith, (widths_splice l (one (node q true (more a k (more b i f)))) r v.widths).0.0, routing_roots f))

-- "Underfull non-root node": two internal siblings, of which one is underfull
module _ (c : List ℕ) (n : ℕ) (pos : Position) (free : List Bool) (last : ℕ) (C : Context) (p : ℕ) (size : length c ≡ 8 + 24 * n) (ea : pos.above ≡ link_place C) (ep : pos.parent ≡ p) where
  module _ (l : Left) (x : ℕ) (fx : Forest) (k y : ℕ) (fy : Forest) (r : Right) (w : Represents c (node p false (splice l (inner_pair x fx k y fy) r)))
      (ei : pos.index - 1 ≡ length l) (en : (pos.node ≡ x) ⊎ (pos.node ≡ y)) (v : OneViolation (splice l (inner_pair x fx k y fy) r)) (u : Underfull fx fy) where
    shared : 4 ≤ length (roots fx) + length (roots fy) → Planned c n pos free last C (node p false (splice l (inner_pair x fx k y fy) r)) 0
        (mend_two (tagged_in C) (bare_left l) (bare (node x false fx)) k (bare (node y false fy)) (bare_right r))
    shared h =
        let m = length (roots fx) + length (roots fy) in
        let K = join fx k fy in
        let s = (widths_splice l (inner_pair x fx k y fy) r v.widths).0 in
        let z = half_size m h (together_le (length (roots fx)) (length (roots fy)) u s.0.0.1 s.1.0.1) in
        let t = together x fx k y fy in
        let L = (cut (half m) K).left in
        let key = (cut (half m) K).key in
        let R = (cut (half m) K).right in
        let q : Parts (half m) K L key R = parts (half m) K (omega arith) (omega arith) in
        record {
          given = 3;
          nodes = λ ms. new_siblings (first ms) L (second ms) R ++ new_node (third ms) 2
              (routing (splice l (inner_pair (first ms) L key (second ms) R) r)) (roots (splice l (inner_pair (first ms) L key (second ms) R) r)) ∷ [];
          part = λ ms. node (third ms) false (splice l (inner_pair (first ms) L key (second ms) R) r);
          out = p ∷ x ∷ y ∷ [];
          planned = share_plan c n pos free last C p l x fx k y fy r size w ea ep ei en v u m refl h L key R q;
          shaped = λ ms. inner_share_shaped (tagged_in C) l x fx k y fy r m (first ms) (second ms) (third ms) refl h;
          rewrites = λ ms. share_rewrite x fx k y fy C p l r v u m refl h L key R q (first ms) (second ms) (third ms);
          at_most_three = omega arith;
          in_order = three_of;
          budget = λ ms. omega arith;
        }

    merged : length (roots fx) + length (roots fy) ≤ 3 → ((C ≡ top) × (length (roots (splice l (inner_pair x fx k y fy) r)) ≡ 2)) ⊎ Remains C (length (roots (splice l (inner_pair x fx k y fy) r)))
        → Planned c n pos free last C (node p false (splice l (inner_pair x fx k y fy) r)) 0 (mend_two (tagged_in C) (bare_left l) (bare (node x false fx)) k (bare (node y false fy)) (bare_right r))
    merged h (inl e) =
        record {
          given = 1;
          nodes = λ ms. new_node (first ms) 2 (routing (join fx k fy)) (roots (join fx k fy)) ∷ [];
          part = λ ms. node (first ms) false (join fx k fy);
          out = p ∷ x ∷ y ∷ [];
          planned = merge_root_plan c n pos free last C p l x fx k y fy r size w ea ep ei en v u h e.0 e.1;
          shaped = λ ms. inner_merge_root_shaped (tagged_in C) l x fx k y fy r (first ms) h (rw e.0 (alone l (inner_pair x fx k y fy) r (omega arith) e.1));
          rewrites = λ ms. rw e.0 (merge_root_rewrite x fx k y fy p l r v u e.1 h (first ms));
          at_most_three = omega arith;
          in_order = first_of;
          budget = λ ms. omega arith;
        }
    merged h (inr o) =
        record {
          given = 2;
          nodes = λ ms. new_node (first ms) 2 (routing (join fx k fy)) (roots (join fx k fy))
              ∷ new_node (second ms) 2 (routing (splice l (one (node (first ms) false (join fx k fy))) r))
              (roots (splice l (one (node (first ms) false (join fx k fy))) r)) ∷ [];
          part = λ ms. node (second ms) false (splice l (one (node (first ms) false (join fx k fy))) r);
          out = p ∷ x ∷ y ∷ [];
          planned = merge_plan c n pos free last C p l x fx k y fy r size w ea ep ei en v u h o;
          shaped = λ ms. inner_merge_shaped (tagged_in C) l x fx k y fy r (first ms) (second ms) h (beside C l (inner_pair x fx k y fy) r refl o);
          rewrites = λ ms. merge_rewrite x fx k y fy C p l r v u h o (first ms) (second ms);
          at_most_three = omega arith;
          in_order = two_of;
          budget = λ ms. omega arith;
        }

    pub siblings_mended : Planned c n pos free last C (node p false (splice l (inner_pair x fx k y fy) r)) 0
        (mend_two (tagged_in C) (bare_left l) (bare (node x false fx)) k (bare (node y false fy)) (bare_right r))
    siblings_mended = order (length (roots fx) + length (roots fy)) 4 (λ o. merged (omega arith) (root_of_two_lem C (length (roots (splice l (inner_pair x fx k y fy) r))) v.least)) (λ o. shared o)

-- an internal node that is not tagged
abbrev Inner : Tree → Type 0
Inner (leaf m ks vs) = ⊥
Inner (node m true f) = ⊥
Inner (node m false f) = Unit

-- above leaves stands no leaf, and where the violation is elsewhere no tagged node
inner_of : (t : Tree) (h : ℕ) → Height (suc h) t → violations t ≡ 0 → Inner t
inner_of (leaf m ks vs) h i z = absurd (omega arith)
inner_of (node m true f) h i z = absurd (omega arith)
inner_of (node m false f) h i z = tt

-- so the sibling of an underfull internal node is one too
both_inner : (q : ℕ) (f : Forest) (x y : Tree) (h : ℕ) → Height h x → Height h y → violations x + violations y ≤ 1
    → 1 ≤ violations (node q false f) → (x ≡ node q false f) ⊎ (y ≡ node q false f) → Inner x × Inner y
both_inner q f x y zero i j z o (inl e) = absurd (subst (λ (t : Tree). Height 0 t) e i)
both_inner q f x y zero i j z o (inr e) = absurd (subst (λ (t : Tree). Height 0 t) e j)
both_inner q f x y (suc h) i j z o (inl e) = (subst Inner (sym e) tt, inner_of y h j (omega (arith, ap violations e)))
both_inner q f x y (suc h) i j z o (inr e) = (inner_of x h i (omega (arith, ap violations e)), subst Inner (sym e) tt)

module _ (c : List ℕ) (n : ℕ) (pos : Position) (free : List Bool) (last : ℕ) (C : Context) (p : ℕ) (size : length c ≡ 8 + 24 * n)
    (ea : pos.above ≡ link_place C) (ep : pos.parent ≡ p) (q : ℕ) (f : Forest) (en : pos.node ≡ q)
    (own : own_violation (node q false f) ≡ 1) where
  -- the part is one of two internal siblings
  inner_siblings : (l : Left) (x : Tree) (k : ℕ) (y : Tree) (r : Right) → Inner x → Inner y → Represents c (node p false (splice l (more x k (one y)) r)) → pos.index - 1 ≡ length l
      → OneViolation (splice l (more x k (one y)) r) → (x ≡ node q false f) ⊎ (y ≡ node q false f) → Planned c n pos free last C
      (node p false (splice l (more x k (one y)) r)) 0 (mend_two (tagged_in C) (bare_left l) (bare x) k (bare y) (bare_right r))
  inner_siblings l (leaf m ks vs) k y r ix iy w ei v s = absurd ix
  inner_siblings l (node m true g) k y r ix iy w ei v s = absurd ix
  inner_siblings l (node m false g) k (leaf i ks vs) r ix iy w ei v s = absurd iy
  inner_siblings l (node m false g) k (node i true e) r ix iy w ei v s = absurd iy
  inner_siblings l (node m false g) k (node i false e) r ix iy w ei v s = siblings_mended c n pos free last C p size ea ep l m g k i e r w ei (which s) v (one_few s)
    where
      which : (node m false g ≡ node q false f) ⊎ (node i false e ≡ node q false f) → (pos.node ≡ m) ⊎ (pos.node ≡ i)
      which (inl d) = inl (en ∙ sym (ap root d))
      which (inr d) = inr (en ∙ sym (ap root d))

      one_few : (node m false g ≡ node q false f) ⊎ (node i false e ≡ node q false f) → Underfull g e
      one_few (inl d) = omega (arith, ap own_violation d)
      one_few (inr d) = omega (arith, ap own_violation d)

  level_below : (h : ℕ) (g : Forest) → Height h (node p false g) → (h' : ℕ) × AllHeight h' g
  level_below zero g i = absurd i
  level_below (suc h) g i = (h, i)

  of_pair : (l₀ : Left) (r₀ : Right) (u : Pair l₀ (node q false f) r₀) (h : ℕ) → pos.index ≡ length l₀
      → Height h (node p false (splice u.left (more u.lesser u.key (one u.greater)) u.right))
      → Represents c (node p false (splice u.left (more u.lesser u.key (one u.greater)) u.right))
      → OneViolation (splice u.left (more u.lesser u.key (one u.greater)) u.right)
      → Planned c n pos free last C (node p false (splice u.left (more u.lesser u.key (one u.greater)) u.right)) 0
      (mend_two (tagged_in C) (bare_left u.left) (bare u.lesser) u.key (bare u.greater) (bare_right u.right))
  of_pair l₀ r₀ u h ei i w v =
      let two = more u.lesser u.key (one u.greater) in
      let b = level_below h (splice u.left two u.right) i in
      let t = (height_splice b.0 u.left two u.right b.1).0 in
      let z = violations_inside u.left two u.right in
      let z' = v.single in
      let g = both_inner q f u.lesser u.greater b.0 t.0 t.1 (omega arith) (omega arith) u.member in
      inner_siblings u.left u.lesser u.key u.greater u.right g.0 g.1 w (omega (arith, u.index)) v u.member

  pub underfull_mended : (l : Left) (r : Right) → pos.index ≡ length l → Represents c (node p false (fill l (node q false f) r)) → (h : ℕ)
      → Height h (node p false (fill l (node q false f) r)) → OneViolation (fill l (node q false f) r)
      → Planned c n pos free last C (node p false (fill l (node q false f) r)) 0 (mend_at (tagged_in C) (bare_left l) (bare (node q false f)) (bare_right r))
  underfull_mended l r ei w h i v =
      with_pair (siblings l (node q false f) r (omega (arith, v.least, width_fill l (node q false f) r)))
    where
      with_pair : Pair l (node q false f) r → Planned c n pos free last C (node p false (fill l (node q false f) r)) 0 (mend_at (tagged_in C) (bare_left l) (bare (node q false f)) (bare_right r))
      with_pair u = rw (inner_due (tagged_in C) l q f r u, u.whole) (of_pair l r u h ei (rw u.whole at i) (rw u.whole at w) (rw u.whole at v))

-- Document 01, "The changes": an internal node with the only violation of the table is mended.
pub inner_mended : (c : List ℕ) (n : ℕ) (pos : Position) (free : List Bool) (last : ℕ)
    (C : Context) (p : ℕ) (l : Left) (q : ℕ) (g : Bool) (f : Forest) (r : Right) → length c ≡ 8 + 24 * n → StandsAt pos C p l (node q g f)
    → Represents c (node p false (fill l (node q g f) r)) → (h : ℕ) → Height h (node p false (fill l (node q g f) r)) → OneViolation (fill l (node q g f) r) → own_violation (node q g f) ≡ 1
    → Planned c n pos free last C (node p false (fill l (node q g f) r)) (reserve (down C p false l r) (node q g f)) (mend_at (tagged_in C) (bare_left l) (bare (node q g f)) (bare_right r))
inner_mended c n pos free last C p l q true f r size s w h i v o = tagged_mended c n pos free last C p l r q f s w v
inner_mended c n pos free last C p l q false f r size s w h i v o = underfull_mended c n pos free last C p size s.above_is s.parent_is q f s.node_is o l r s.index_is w h i v
