-- Each change commutes with forgetting the numbers: the part that it puts in place, without numbers, is what `mend_at` makes of the
-- old part without numbers.
use mathlib.Core.Path.{◌≡◌, refl, ap, sym, ◌∙◌}
use mathlib.Core.List.{List, [], ◌∷◌, ◌++◌}
use mathlib.Core.Bool.{Bool, true, false}
use Prim.Native.Nat.{ℕ, ◌+◌, ◌≤◌, ◌<◌}
use native.Mathlib.Omega.{arith}
use lib.ListN.{length}
use borrow.Author.Tests.{le-leb, lt-leb}
use Rattle.card.specs.Layout.{slot_pairs}
use Rattle.laws.specs.Sorting.{Pairs, sort}
use Rattle.change_plan.specs.Change.{half}
use Rattle.theory_shapes.proofs.Bare.{bare, bares, bare_left, bare_right, bare_join, bare_splice, bare_cut, bare_width}
use Rattle.theory_shapes.proofs.Next.{bare_leaf, bare_leaves, bare_inners, root_of_two, mend_leaves, mend_inners, mend_two, Siblings, siblings_of, mend_tagged, mend_at}
use Rattle.theory_tree.proofs.Cut.{Cut, cut}
use Rattle.theory_tree.specs.Tree.{Tree, Forest, roots, leaf, node, one, more}
use Rattle.theory_tree.proofs.Tree.{Left, Right, join, splice, rightmost, followed}

-- a forest cut and put into two new nodes
pub inners_shaped : (n : ℕ) (f : Forest) (a b : ℕ) → bares (more (node a false (cut n f).left) (cut n f).key (one (node b false (cut n f).right))) ≡ bare_inners n (bares f)
inners_shaped n f a b = ap (λ (u : Cut). more (node 0 false u.left) u.key (one (node 0 false u.right))) (sym (bare_cut n f))

-- "Tagged node"
pub absorb_shaped : (below : Bool) (l : Left) (q : ℕ) (f : Forest) (r : Right) (a : ℕ) → length (roots (splice l f r)) ≤ 11
    → bare (node a false (splice l f r)) ≡ mend_at below (bare_left l) (bare (node q true f)) (bare_right r)
unfolding mend_at mend_tagged
absorb_shaped below l q f r a h = rw (← bare_splice l f r, bare_width (splice l f r), le-leb (length (roots (splice l f r))) 11 h)

pub split_shaped : (below : Bool) (l : Left) (q : ℕ) (f : Forest) (r : Right) (a b c : ℕ) → 11 < length (roots (splice l f r))
    → bare (node c below
    (more (node a false (cut 6 (splice l f r)).left) (cut 6 (splice l f r)).key (one (node b false (cut 6 (splice l f r)).right))))
    ≡ mend_at below (bare_left l) (bare (node q true f)) (bare_right r)
unfolding mend_at mend_tagged
split_shaped below l q f r a b c h =
    rw (← bare_splice l f r, bare_width (splice l f r), lt-leb (length (roots (splice l f r))) 11 h) (ap (λ (g : Forest). node 0 below g) (inners_shaped 6 (splice l f r) a b))

-- "Underfull non-root node": two siblings that are internal nodes
module _ (below : Bool) (l : Left) (x : ℕ) (f : Forest) (k y : ℕ) (g : Forest) (r : Right) where
  abbrev Due : Tree → Type 0
  Due t = bare t ≡ mend_two below (bare_left l) (bare (node x false f)) k (bare (node y false g)) (bare_right r)

  pub inner_share_shaped : (m a b c : ℕ) → m ≡ length (roots f) + length (roots g) → 4 ≤ m
      → Due (node c false (splice l (more (node a false (cut (half m) (join f k g)).left) (cut (half m) (join f k g)).key (one (node b false (cut (half m) (join f k g)).right))) r))
  unfolding mend_two mend_inners
  inner_share_shaped m a b c e h =
      rw (bare_width f, bare_width g, ← e, le-leb 4 m h, ← bare_join f k g)
      (ap (λ (u : Forest). node 0 false u) (bare_splice l _ r ∙ ap (λ (u : Forest). splice (bare_left l) u (bare_right r)) (inners_shaped (half m) (join f k g) a b)))

  pub inner_merge_shaped : (a b : ℕ) → length (roots f) + length (roots g) ≤ 3 → root_of_two below (bare_left l) (bare_right r) ≡ false
      → Due (node b false (splice l (one (node a false (join f k g))) r))
  unfolding mend_two mend_inners
  inner_merge_shaped a b h o =
      rw (bare_width f, bare_width g, lt-leb 4 (length (roots f) + length (roots g)) (omega arith), o, ← bare_join f k g)
      (ap (λ (u : Forest). node 0 false u) (bare_splice l _ r))

  pub inner_merge_root_shaped : (a : ℕ) → length (roots f) + length (roots g) ≤ 3 → root_of_two below (bare_left l) (bare_right r) ≡ true → Due (node a false (join f k g))
  unfolding mend_two mend_inners
  inner_merge_root_shaped a h o = rw (bare_width f, bare_width g, lt-leb 4 (length (roots f) + length (roots g)) (omega arith), o) (ap (λ (u : Forest). node 0 false u) (bare_join f k g))

-- two siblings that are leaves; a new leaf of the number m is `leaf m ..` of the padded rows
module _ (below : Bool) (l : Left) (x : ℕ) (ks vs : List ℕ) (k y : ℕ) (ks' vs' : List ℕ) (r : Right) where
  abbrev LeafDue : Tree → Type 0
  LeafDue t = bare t ≡ mend_two below (bare_left l) (bare (leaf x ks vs)) k (bare (leaf y ks' vs')) (bare_right r)

  abbrev ps : Pairs
  ps = sort (slot_pairs ks vs ++ slot_pairs ks' vs')

  pub leaf_share_shaped : (c : ℕ) (F : Forest) → bares F ≡ bare_leaves (half (length ps)) ps → 4 ≤ length ps → LeafDue (node c false (splice l F r))
  unfolding mend_two mend_leaves
  leaf_share_shaped c F e h = rw (le-leb 4 (length ps) h) (ap (λ (u : Forest). node 0 false u) (bare_splice l F r ∙ ap (λ (u : Forest). splice (bare_left l) u (bare_right r)) e))

  pub leaf_merge_shaped : (b : ℕ) (t : Tree) → bare t ≡ bare_leaf ps → length ps ≤ 3 → root_of_two below (bare_left l) (bare_right r) ≡ false → LeafDue (node b false (splice l (one t) r))
  unfolding mend_two mend_leaves
  leaf_merge_shaped b t e h o =
      rw (lt-leb 4 (length ps) (omega arith), o)
      (ap (λ (u : Forest). node 0 false u) (bare_splice l (one t) r ∙ ap (λ (u : Tree). splice (bare_left l) (one u) (bare_right r)) e))

  pub leaf_merge_root_shaped : (t : Tree) → bare t ≡ bare_leaf ps → length ps ≤ 3 → root_of_two below (bare_left l) (bare_right r) ≡ true → LeafDue t
  unfolding mend_two mend_leaves
  leaf_merge_root_shaped t e h o = rw (lt-leb 4 (length ps) (omega arith), o) e

-- the siblings chosen are the same ones
pub siblings_shaped : (l : Left) (s : Tree) (r : Right)
    → siblings_of (bare_left l) (bare s) (bare_right r) ≡ record {
      left = bare_left (siblings_of l s r).left;
      lesser = bare (siblings_of l s r).lesser;
      key = (siblings_of l s r).key;
      greater = bare (siblings_of l s r).greater;
      right = bare_right (siblings_of l s r).right;
    }
unfolding siblings_of
siblings_shaped [] s rightmost = refl
siblings_shaped [] s (followed k (one y)) = refl
siblings_shaped [] s (followed k (more y x f)) = refl
siblings_shaped (a ∷ []) s r = refl
siblings_shaped (a ∷ b ∷ l) s r =
    ap (λ (u : Siblings). record { left = (bare a.0, a.1) ∷ u.left; lesser = u.lesser; key = u.key; greater = u.greater; right = u.right })
    (siblings_shaped (b ∷ l) s r)
