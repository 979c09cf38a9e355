-- Document 01, "The changes": whatever leaf below the root is the violation of a table, its repair is a rewrite.
use mathlib.Core.Path.{◌≡◌, refl, ap, sym, ◌∙◌, subst}
use mathlib.Core.List.{List, [], ◌∷◌}
use mathlib.Core.Bool.{Bool, true, false}
use mathlib.Core.Logic.{◌⊎◌, inl, inr}
use Prim.Native.Nat.{ℕ, zero, suc, ◌+◌, ◌-◌, ◌*◌, ◌≤◌}
use native.Mathlib.Omega.{arith}
use lib.ListN.{length, length-append}
use Rattle.card.specs.Layout.{slot_pairs}
use Rattle.change_plan.specs.Change.{half}
use Rattle.change_plan.specs.Planning.{first, second, third}
use Rattle.theory_change.proofs.Exchange.{beside, Remains, OneViolation}
use Rattle.theory_change.proofs.LeafChanges.{leaves, pairs_together, UnderfullLeaf, leaves_most, leaf_share, leaf_merge, leaf_merge_root}
use Rattle.theory_change.proofs.LeafPlans.{AtSiblings, leaf_share_plan, leaf_merge_plan, leaf_merge_root_plan}
use Rattle.theory_change.proofs.LeafRows.{new_leaf, two_leaves}
use Rattle.theory_change.proofs.Mending.{StandsAt, Planned, first_of, two_of, three_of}
use Rattle.theory_change.proofs.Siblings.{leaf_due, siblings}
use Rattle.laws.proofs.Cases.{order}
use Rattle.theory_tree.proofs.Pairs.{routing_roots}
use Rattle.theory_tree.proofs.Path.{width_of, own_violation, reserve}
use Rattle.theory_shapes.proofs.Bare.{bare, bare_left, bare_right}
use Rattle.theory_shapes.proofs.Next.{tagged_in, mend_two, mend_at}
use Rattle.theory_shapes.proofs.Shaped.{leaf_share_shaped, leaf_merge_shaped, leaf_merge_root_shaped}
use Rattle.theory_tree.specs.Represent.{Represents}
use Rattle.theory_tree.specs.Height.{Height, AllHeight}
use Rattle.theory_tree.proofs.Splice.{height_splice, roots_splice}
use Rattle.theory_tree.specs.Tree.{Tree, Forest, roots, leaf, node, one, more}
use Rattle.theory_tree.proofs.Tree.{Left, Right, splice, fill, Context, rightmost, followed, top, down}
use Rattle.theory_tree.specs.Violations.{few, violations, forest_violations}
use Rattle.theory_tree.proofs.Violations.{violations_inside}
use Rattle.walk.specs.declared.Position.{Position}

-- Two leaves side by side, of which one is the violation; no node is kept in reserve for what takes their place.
-- Its nodes, the part they make and the nodes cut out are those of the plan and of its rewrite, so they are not written out again.
module _ (c : List ℕ) (n : ℕ) (long : length c ≡ 8 + 24 * n) (p x : ℕ) (ks vs : List ℕ) (k y : ℕ) (ks' vs' : List ℕ)
    (underfull : UnderfullLeaf ks vs ks' vs') (q : Position) (free : List Bool) (last spare : ℕ) where
  share_planned : (C : Context) (l : Left) (r : Right) → OneViolation (splice l (leaves x ks vs k y ks' vs') r) → Represents c
      (node p false (splice l (leaves x ks vs k y ks' vs') r)) → AtSiblings q C p l x y → 4 ≤ length (pairs_together ks vs ks' vs')
      → Planned c n q free last C (node p false (splice l (leaves x ks vs k y ks' vs') r)) spare (mend_two (tagged_in C) (bare_left l) (bare (leaf x ks vs)) k (bare (leaf y ks' vs')) (bare_right r))
  share_planned C l r v w at h =
      let most = leaves_most l x ks vs k y ks' vs' r v underfull c p w in
      record {
        given = 3;
        nodes = _;
        part = _;
        out = _;
        planned = leaf_share_plan c n long C p l x ks vs k y ks' vs' r w q at free last h most;
        shaped = λ ms. leaf_share_shaped (tagged_in C) l x ks vs k y ks' vs' r (third ms)
            (two_leaves (first ms) (second ms) (half (length (pairs_together ks vs ks' vs'))) (pairs_together ks vs ks' vs')) refl h;
        rewrites = λ ms. leaf_share l x ks vs k y ks' vs' r v underfull C p (first ms) (second ms) (third ms) h most;
        at_most_three = omega arith;
        in_order = three_of;
        budget = λ ms. omega arith;
      }

  merge_planned : (C : Context) (l : Left) (r : Right) → OneViolation (splice l (leaves x ks vs k y ks' vs') r)
      → Represents c (node p false (splice l (leaves x ks vs k y ks' vs') r)) → AtSiblings q C p l x y
      → length (pairs_together ks vs ks' vs') ≤ 3 → Remains C (length (roots (splice l (leaves x ks vs k y ks' vs') r)))
      → Planned c n q free last C (node p false (splice l (leaves x ks vs k y ks' vs') r)) spare (mend_two (tagged_in C) (bare_left l) (bare (leaf x ks vs)) k (bare (leaf y ks' vs')) (bare_right r))
  merge_planned C l r v w at h g =
      record {
        given = 2;
        nodes = _;
        part = _;
        out = _;
        planned = leaf_merge_plan c n long C p l x ks vs k y ks' vs' r w q at free last h g;
        shaped = λ ms. leaf_merge_shaped (tagged_in C) l x ks vs k y ks' vs' r (second ms)
            (new_leaf (first ms) (pairs_together ks vs ks' vs')) refl h (beside C l (leaves x ks vs k y ks' vs') r refl g);
        rewrites = λ ms. leaf_merge l x ks vs k y ks' vs' r v underfull C p (first ms) (second ms) h g;
        at_most_three = omega arith;
        in_order = two_of;
        budget = λ ms. omega arith;
      }

  merge_root_planned : OneViolation (leaves x ks vs k y ks' vs') → Represents c (node p false (leaves x ks vs k y ks' vs')) → AtSiblings q top p [] x y → length (pairs_together ks vs ks' vs') ≤ 3
      → Planned c n q free last top (node p false (leaves x ks vs k y ks' vs')) spare (mend_two false [] (bare (leaf x ks vs)) k (bare (leaf y ks' vs')) rightmost)
  merge_root_planned v w at h =
      record {
        given = 1;
        nodes = _;
        part = _;
        out = _;
        planned = leaf_merge_root_plan c n long p x ks vs k y ks' vs' w q at free last h;
        shaped = λ ms. leaf_merge_root_shaped false [] x ks vs k y ks' vs' rightmost (new_leaf (first ms) (pairs_together ks vs ks' vs')) refl h refl;
        rewrites = λ ms. leaf_merge_root x ks vs k y ks' vs' v underfull p (first ms) h;
        at_most_three = omega arith;
        in_order = first_of;
        budget = λ ms. omega arith;
      }

  -- "Together 3 or fewer"
  few_planned : (C : Context) (l : Left) (r : Right) → OneViolation (splice l (leaves x ks vs k y ks' vs') r) → Represents c
      (node p false (splice l (leaves x ks vs k y ks' vs') r)) → AtSiblings q C p l x y → length (pairs_together ks vs ks' vs') ≤ 3
      → Planned c n q free last C (node p false (splice l (leaves x ks vs k y ks' vs') r)) spare (mend_two (tagged_in C) (bare_left l) (bare (leaf x ks vs)) k (bare (leaf y ks' vs')) (bare_right r))
  few_planned top [] rightmost v w at h = merge_root_planned v w at h
  few_planned top [] (followed i f) v w at h = merge_planned top [] (followed i f) v w at h (omega (arith, routing_roots f))
  few_planned top (a ∷ l) r v w at h = merge_planned top (a ∷ l) r v w at h (omega (arith, two_or_more l r))
    where
      two_or_more : (l : Left) (r : Right) → 2 ≤ length (roots (splice l (leaves x ks vs k y ks' vs') r))
      two_or_more l r = simp (roots_splice, length-append) (omega arith)
  few_planned (down C m g l' r') l r v w at h = merge_planned (down C m g l' r') l r v w at h tt

  -- any two leaves side by side of which one is the violation
  pub leaves_planned : (C : Context) (l : Left) (r : Right) → OneViolation (splice l (leaves x ks vs k y ks' vs') r)
      → Represents c (node p false (splice l (leaves x ks vs k y ks' vs') r)) → AtSiblings q C p l x y
      → Planned c n q free last C (node p false (splice l (leaves x ks vs k y ks' vs') r)) spare (mend_two (tagged_in C) (bare_left l) (bare (leaf x ks vs)) k (bare (leaf y ks' vs')) (bare_right r))
  leaves_planned C l r v w at = order (length (pairs_together ks vs ks' vs')) 4 (λ o. few_planned C l r v w at (omega arith)) (λ o. share_planned C l r v w at o)

  -- the same where the children of the parent are known to be these
  leaves_planned_as : (C : Context) (l : Left) (r : Right) (f : Forest) → f ≡ splice l (leaves x ks vs k y ks' vs') r → OneViolation f
      → Represents c (node p false f) → AtSiblings q C p l x y → Planned c n q free last C (node p false f) spare
      (mend_two (tagged_in C) (bare_left l) (bare (leaf x ks vs)) k (bare (leaf y ks' vs')) (bare_right r))
  leaves_planned_as C l r f e v w at =
      subst (λ (g : Forest). Planned c n q free last C (node p false g) spare (mend_two (tagged_in C) (bare_left l) (bare (leaf x ks vs)) k (bare (leaf y ks' vs')) (bare_right r))) (sym e)
      (leaves_planned C l r (subst (λ (g : Forest). OneViolation g) e v) (subst (λ (g : Forest). Represents c (node p false g)) e w) at)

-- "All leaves are equally deep": a sibling of a leaf is a leaf, for a tagged node would be a second violation
pub record IsLeaf (t : Tree) : Type 0 where
  pub number : ℕ
  pub keys : List ℕ
  pub values : List ℕ
  pub same : t ≡ leaf number keys values

sibling_leaf : (t : Tree) → Height 0 t → violations t ≡ 0 → IsLeaf t
sibling_leaf (leaf m ks vs) h z = record { number = m; keys = ks; values = vs; same = refl }
sibling_leaf (node m true f) h z = absurd (omega arith)
sibling_leaf (node m false f) h z = absurd h

-- the violation x with its sibling, in either order
module _ (c : List ℕ) (n : ℕ) (long : length c ≡ 8 + 24 * n) (C : Context) (p : ℕ) (l₀ : Left) (x : ℕ) (ks vs : List ℕ) (r₀ : Right)
    (v : OneViolation (fill l₀ (leaf x ks vs) r₀)) (own : few (length (slot_pairs ks vs)) ≡ 1)
    (w : Represents c (node p false (fill l₀ (leaf x ks vs) r₀))) (q : Position) (s : StandsAt q C p l₀ (leaf x ks vs)) (free : List Bool)
    (last spare : ℕ) where
  level : (h : ℕ) → Height h (node p false (fill l₀ (leaf x ks vs) r₀)) → AllHeight 0 (fill l₀ (leaf x ks vs) r₀)
  level zero i = absurd i
  level (suc h) i = subst (λ (g : ℕ). AllHeight g (fill l₀ (leaf x ks vs) r₀)) (height_splice h l₀ (one (leaf x ks vs)) r₀ i).0 i

  module _ (i : AllHeight 0 (fill l₀ (leaf x ks vs) r₀)) (l : Left) (k : ℕ) (r : Right) (e : length l ≡ length l₀ - 1) where
    right_leaf : (b : Tree) → fill l₀ (leaf x ks vs) r₀ ≡ splice l (more (leaf x ks vs) k (one b)) r → IsLeaf b
    right_leaf b f =
        let g = (height_splice 0 l (more (leaf x ks vs) k (one b)) r (subst (λ (t : Forest). AllHeight 0 t) f i)).0 in
        sibling_leaf b g.1 (omega (arith, v.single, ap forest_violations f, violations_inside l (more (leaf x ks vs) k (one b)) r))

    left_leaf : (a : Tree) → fill l₀ (leaf x ks vs) r₀ ≡ splice l (more a k (one (leaf x ks vs))) r → IsLeaf a
    left_leaf a f =
        let g = (height_splice 0 l (more a k (one (leaf x ks vs))) r (subst (λ (t : Forest). AllHeight 0 t) f i)).0 in
        sibling_leaf a g.0 (omega (arith, v.single, ap forest_violations f, violations_inside l (more a k (one (leaf x ks vs))) r))

    with_right : (b : Tree) → IsLeaf b → fill l₀ (leaf x ks vs) r₀ ≡ splice l (more (leaf x ks vs) k (one b)) r → Planned c n q free last C
        (node p false (fill l₀ (leaf x ks vs) r₀)) spare (mend_two (tagged_in C) (bare_left l) (bare (leaf x ks vs)) k (bare b) (bare_right r))
    with_right b y f =
        subst (λ (t : Tree). Planned c n q free last C (node p false (fill l₀ (leaf x ks vs) r₀)) spare
        (mend_two (tagged_in C) (bare_left l) (bare (leaf x ks vs)) k (bare t) (bare_right r))) (sym y.same)
        (leaves_planned_as c n long p x ks vs k y.number y.keys y.values (omega arith) q free last spare C l r
        (fill l₀ (leaf x ks vs) r₀) (f ∙ ap (λ (t : Tree). splice l (more (leaf x ks vs) k (one t)) r) y.same) v w
        (record { above = s.above_is; parent = s.parent_is; index = omega (arith, s.index_is); member = inl s.node_is }))

    with_left : (a : Tree) → IsLeaf a → fill l₀ (leaf x ks vs) r₀ ≡ splice l (more a k (one (leaf x ks vs))) r → Planned c n q free last C
        (node p false (fill l₀ (leaf x ks vs) r₀)) spare (mend_two (tagged_in C) (bare_left l) (bare a) k (bare (leaf x ks vs)) (bare_right r))
    with_left a y f =
        subst (λ (t : Tree). Planned c n q free last C (node p false (fill l₀ (leaf x ks vs) r₀)) spare
        (mend_two (tagged_in C) (bare_left l) (bare t) k (bare (leaf x ks vs)) (bare_right r))) (sym y.same)
        (leaves_planned_as c n long p y.number y.keys y.values k x ks vs (omega arith) q free last spare C l r
        (fill l₀ (leaf x ks vs) r₀) (f ∙ ap (λ (t : Tree). splice l (more t k (one (leaf x ks vs))) r) y.same) v w
        (record { above = s.above_is; parent = s.parent_is; index = omega (arith, s.index_is); member = inr s.node_is }))

    -- of the two children side by side one is x
    with_sibling : (a b : Tree) → fill l₀ (leaf x ks vs) r₀ ≡ splice l (more a k (one b)) r → (a ≡ leaf x ks vs) ⊎ (b ≡ leaf x ks vs)
        → Planned c n q free last C (node p false (fill l₀ (leaf x ks vs) r₀)) spare
        (mend_two (tagged_in C) (bare_left l) (bare a) k (bare b) (bare_right r))
    with_sibling a b f (inl g) = let f' = f ∙ ap (λ (t : Tree). splice l (more t k (one b)) r) g in rw g (with_right b (right_leaf b f') f')
    with_sibling a b f (inr g) = let f' = f ∙ ap (λ (t : Tree). splice l (more a k (one t)) r) g in rw g (with_left a (left_leaf a f') f')

  wide : (l : Left) (t : Tree) (r : Right) → length (roots (fill l t r)) ≡ width_of l r
  wide [] t rightmost = refl
  wide [] t (followed k f) = omega arith
  wide (a ∷ l) t r = omega (arith, wide l t r)

  mended : (h : ℕ) → Height h (node p false (fill l₀ (leaf x ks vs) r₀)) → Planned c n q free last C
      (node p false (fill l₀ (leaf x ks vs) r₀)) spare (mend_at (tagged_in C) (bare_left l₀) (bare (leaf x ks vs)) (bare_right r₀))
  mended h i =
      let u = siblings l₀ (leaf x ks vs) r₀ (omega (arith, v.least, wide l₀ (leaf x ks vs) r₀)) in
      rw (leaf_due (tagged_in C) l₀ x ks vs r₀ u)
      (with_sibling (level h i) u.left u.key u.right u.index u.lesser u.greater u.whole u.member)

-- THE REPAIR OF A LEAF: the violation is the leaf x, child length l of node p, "sibling is the right one for child 0, else the left
-- one"
pub leaf_mended : (c : List ℕ) (n : ℕ) (q : Position) (free : List Bool) (last : ℕ) (C : Context) (p : ℕ) (l : Left) (r : Right) (x : ℕ)
    (ks vs : List ℕ) → length c ≡ 8 + 24 * n → StandsAt q C p l (leaf x ks vs)
    → Represents c (node p false (fill l (leaf x ks vs) r)) → OneViolation (fill l (leaf x ks vs) r) → own_violation (leaf x ks vs) ≡ 1
    → (h : ℕ) → Height h (node p false (fill l (leaf x ks vs) r)) → Planned c n q free last C (node p false (fill l (leaf x ks vs) r))
    (reserve (down C p false l r) (leaf x ks vs)) (mend_at (tagged_in C) (bare_left l) (bare (leaf x ks vs)) (bare_right r))
leaf_mended c n q free last C p l r x ks vs long s w v own h i = mended c n long C p l x ks vs r v own w q s free last 0 h i
