-- Document 01, "The changes", on trees without numbers: what an update makes of the leaf that its key leads to, and what one repair
-- makes of the parent of a violation. Nothing here is to be believed: the promise compares two tables, and these functions are how
-- it is shown. `below` says that the part is not the root of its table.
use mathlib.Core.List.{List, [], ◌∷◌, ◌++◌}
use mathlib.Core.Bool.{Bool, true, false}
use Prim.Native.Nat.{ℕ, ◌+◌}
use lib.ListN.{length, set, take, drop}
use lib.Dec.{eqb, ltb, leb}
use Rattle.card.specs.Layout.{slot_pairs}
use Rattle.walk.specs.Descent.{first_equal}
use Rattle.laws.specs.Cases.{pick}
use Rattle.laws.specs.Lists.{pad}
use Rattle.laws.specs.Sorting.{Pairs, sort, pair_keys, pair_values, key_at}
use Rattle.change_plan.specs.Change.{half}
use Rattle.theory_tree.proofs.Cut.{cut}
use Rattle.theory_tree.proofs.Path.{own_violation}
use Rattle.theory_tree.specs.Violations.{violations}
use Rattle.theory_tree.specs.Tree.{Tree, Forest, roots, leaf, node, one, more}
use Rattle.theory_tree.proofs.Tree.{Left, Right, join, splice, Context, rightmost, followed, top, down}
use Rattle.std.specs.Prelude.{Option, Some, None}

-- a leaf of these pairs, and two side by side
abbrev pub bare_leaf : Pairs → Tree
bare_leaf ps = leaf 0 (pad 11 (pair_keys ps)) (pad 11 (pair_values ps))

abbrev pub bare_leaves : ℕ → Pairs → Forest
bare_leaves n ps = more (bare_leaf (take n ps)) (key_at n ps) (one (bare_leaf (drop n ps)))

-- two internal nodes side by side, made of a forest cut after n children
abbrev pub bare_inners : ℕ → Forest → Forest
bare_inners n f = more (node 0 false (cut n f).left) (cut n f).key (one (node 0 false (cut n f).right))

-- "if that parent is the root with 2 children": nothing stands beside the two siblings
abbrev pub root_of_two : Bool → Left → Right → Bool
root_of_two true l r = false
root_of_two false (a ∷ l) r = false
root_of_two false [] rightmost = true
root_of_two false [] (followed k f) = false

-- two leaves with the pairs ps together: shared out, or merged, or merged into the root
unfoldable pub mend_leaves : Bool → Left → Pairs → Right → Tree
mend_leaves below l ps r =
    pick (leb 4 (length ps)) (node 0 false (splice l (bare_leaves (half (length ps)) ps) r))
    (pick (root_of_two below l r) (bare_leaf ps) (node 0 false (splice l (one (bare_leaf ps)) r)))

-- two internal nodes whose children are f and g, with the routing key k between them
unfoldable pub mend_inners : Bool → Left → Forest → ℕ → Forest → Right → Tree
mend_inners below l f k g r =
    pick (leb 4 (length (roots f) + length (roots g))) (node 0 false (splice l (bare_inners (half (length (roots f) + length (roots g))) (join f k g)) r))
    (pick (root_of_two below l r) (node 0 false (join f k g)) (node 0 false (splice l (one (node 0 false (join f k g))) r)))

-- the siblings x and y; they are of one kind
unfoldable pub mend_two : Bool → Left → Tree → ℕ → Tree → Right → Tree
mend_two below l (leaf x ks vs) k (leaf y ks' vs') r = mend_leaves below l (sort (slot_pairs ks vs ++ slot_pairs ks' vs')) r
mend_two below l (leaf x ks vs) k (node y h g) r = leaf x ks vs
mend_two below l (node x i f) k (leaf y ks vs) r = leaf y ks vs
mend_two below l (node x i f) k (node y h g) r = mend_inners below l f k g r

-- "sibling is the right one for child 0, else the left one"
pub record Siblings : Type 0 where
  pub left : Left
  pub lesser : Tree
  pub key : ℕ
  pub greater : Tree
  pub right : Right

unfoldable pub siblings_of : Left → Tree → Right → Siblings
siblings_of [] s rightmost = record { left = []; lesser = s; key = 0; greater = s; right = rightmost }
siblings_of [] s (followed k (one y)) = record { left = []; lesser = s; key = k; greater = y; right = rightmost }
siblings_of [] s (followed k (more y x f)) = record { left = []; lesser = s; key = k; greater = y; right = followed x f }
siblings_of (a ∷ []) s r = record { left = []; lesser = a.0; key = a.1; greater = s; right = r }
siblings_of (a ∷ b ∷ l) s r = let u = siblings_of (b ∷ l) s r in record { left = a ∷ u.left; lesser = u.lesser; key = u.key; greater = u.greater; right = u.right }

abbrev pub mend_siblings : Bool → Siblings → Tree
mend_siblings below u = mend_two below u.left u.lesser u.key u.greater u.right

-- "Tagged node": its parent, which now has the children f, one more than it had
unfoldable pub mend_tagged : Bool → Forest → Tree
mend_tagged below f = pick (leb (length (roots f)) 11) (node 0 false f) (node 0 below (bare_inners 6 f))

-- the parent of the violation s, which has l to its left and r to its right
unfoldable pub mend_at : Bool → Left → Tree → Right → Tree
mend_at below l (leaf m ks vs) r = mend_siblings below (siblings_of l (leaf m ks vs) r)
mend_at below l (node m true f) r = mend_tagged below (splice l f r)
mend_at below l (node m false f) r = mend_siblings below (siblings_of l (node m false f) r)

-- the children taken apart at the first that has a violation in it
pub record Apart : Type 0 where
  pub left : Left
  pub child : Tree
  pub right : Right

unfoldable pub apart : Forest → Apart
apart (one t) = record { left = []; child = t; right = rightmost }
apart (more t x f) = pick (ltb 0 (violations t)) (record { left = []; child = t; right = followed x f }) (record { left = (t, x) ∷ (apart f).left; child = (apart f).child; right = (apart f).right })

-- the place of a part: below the root, or not
abbrev pub tagged_in : Context → Bool
tagged_in top = false
tagged_in (down C m g l r) = true

-- ONE REPAIR: the violation is mended in its parent. There is one at most, so no key is needed to find it.
unfoldable mutual
  pub repaired_by : Bool → Tree → Tree
  repaired_by below (leaf m ks vs) = leaf m ks vs
  repaired_by below (node m g f) = pick (eqb (own_violation (apart f).child) 1) (mend_at below (apart f).left (apart f).child (apart f).right) (node m g (repaired_in f))

  pub repaired_in : Forest → Forest
  repaired_in (one t) = one (repaired_by true t)
  repaired_in (more t x f) = pick (ltb 0 (violations t)) (more (repaired_by true t) x f) (more t x (repaired_in f))

-- THE FIRST CHANGE of an update: what becomes of the leaf on the way of the key
module _ (change : Bool → List ℕ → List ℕ → Tree) (key : ℕ) where
  unfoldable mutual
    pub changed_by : Bool → Tree → Tree
    changed_by below (leaf m ks vs) = change below ks vs
    changed_by below (node m g f) = node m g (changed_in f)

    pub changed_in : Forest → Forest
    changed_in (one t) = one (changed_by true t)
    changed_in (more t x f) = pick (ltb key x) (more (changed_by true t) x f) (more t x (changed_in f))

-- "With an empty slot: value first, then key, in the lowest empty slot. Leaf full: the 12 pairs go 6 and 6 .."
unfoldable pub put_at : ℕ → ℕ → Option ℕ → Bool → List ℕ → List ℕ → Tree
put_at key value (Some i) below ks vs = leaf 0 (set ks i key) (set vs i value)
put_at key value None below ks vs = node 0 below (bare_leaves 6 (sort ((key, value) ∷ slot_pairs ks vs)))

unfoldable pub put_in : ℕ → ℕ → Bool → List ℕ → List ℕ → Tree
put_in key value below ks vs = put_at key value (first_equal ks 0 0) below ks vs

-- "Delete: key word to 0"
unfoldable pub take_at : Option ℕ → List ℕ → List ℕ → Tree
take_at (Some i) ks vs = leaf 0 (set ks i 0) vs
take_at None ks vs = leaf 0 ks vs

unfoldable pub take_out : ℕ → Bool → List ℕ → List ℕ → Tree
take_out key below ks vs = take_at (first_equal ks key 0) ks vs
