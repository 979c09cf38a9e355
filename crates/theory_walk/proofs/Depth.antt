-- How many internal nodes a way on the card passes: as many as the number's way through the tree; on a balanced tree as many as it has
-- levels.
use mathlib.Core.Path.{◌≡◌, refl, ap, ap₂, sym, ◌∙◌}
use mathlib.Core.List.{List}
use mathlib.Core.Bool.{true, false}
use mathlib.Core.Option.{Option, none, some}
use Prim.Native.Nat.{ℕ, zero, suc, ◌+◌, ◌*◌, ◌≤◌}
use native.Mathlib.Omega.{arith}
use lib.ListN.{length}
use lib.Dec.{ltb}
use Rattle.laws.proofs.Cases.{bool_cases, impossible}
use Rattle.walk.specs.Descent.{Way, past, way_from, reached_at, leaf_of}
use Rattle.walk.specs.declared.Position.{Position}
use Rattle.theory_walk.proofs.Way.{way_at_leaf, way_child}
use Rattle.theory_tree.proofs.Pairs.{child, depth, child_depth, child_represents}
use Rattle.theory_tree.specs.Height.{Height, AllHeight}
use Rattle.theory_tree.specs.Passed.{passed_in, passed_among}
use Rattle.theory_tree.specs.Represent.{Represents}
use Rattle.theory_tree.specs.Tree.{Tree, Forest, root, leaf, node, one, more}
use Rattle.theory_tree.specs.Violations.{violations, forest_violations, RootOk, table_violations}
use Rattle.walk.proofs.DescentLaws.{leaf_reached, same_reached}

-- through the child that the number takes
passed_child : (key : ℕ) (f : Forest) → passed_among key f ≡ passed_in key (child key f)
passed_child key (one t) = refl
passed_child key (more t k f) = bool_cases (ltb key k) (λ q. rw q) (λ q. rw q (passed_child key f))

-- one node more is passed
past_reached : (p : Position) (w : Way) (m d : ℕ) → leaf_of w ≡ leaf_reached m d → leaf_of (past p w) ≡ leaf_reached m (suc d)
unfolding leaf_of past reached_at
past_reached p w m d e = go w.leaf refl e
  where
    go : (l : Option Position) → w.leaf ≡ l → reached_at (length w.inner) l ≡ leaf_reached m d → reached_at (suc (length w.inner)) w.leaf ≡ leaf_reached m (suc d)
    go none q z = impossible (cc)
    go (some x) q z = rw q (let a = same_reached _ _ _ _ z in ap₂ (λ (i j : ℕ). leaf_reached i (suc j)) a.0 a.1)

module _ (c : List ℕ) (n key : ℕ) (len : length c ≡ 8 + 24 * n) where
  pub way_depth_lem : (levels : ℕ) (t : Tree) → Represents c t → depth t ≤ levels → (p : Position) → p.node ≡ root t
      → (m : ℕ) × (leaf_of (way_from c n key levels p) ≡ leaf_reached m (passed_in key t))
  unfolding leaf_of reached_at
  way_depth_lem zero (leaf m ks vs) r deep p e = (p.node, ap leaf_of (way_at_leaf c n key len zero m ks vs r p e))
  way_depth_lem zero (node m g f) r deep p e = absurd (omega arith)
  way_depth_lem (suc levels) (leaf m ks vs) r deep p e = (p.node, ap leaf_of (way_at_leaf c n key len (suc levels) m ks vs r p e))
  way_depth_lem (suc levels) (node m g f) r deep p e =
      let below = way_depth_lem levels (child key f) (child_represents c key f r.1) (omega (arith, child_depth key f)) _ refl in (
        below.0,
        ap leaf_of (way_child c n key len levels m g f r p e) ∙ past_reached p _ below.0 (passed_in key (child key f)) below.1
            ∙ ap (λ (d : ℕ). leaf_reached below.0 (suc d)) (sym (passed_child key f)),
      )

-- ---- a tree without tagged nodes: the way passes a node of each level

mutual
  passed_height : (key h : ℕ) (t : Tree) → violations t ≡ 0 → Height h t → passed_in key t ≡ h
  passed_height key h (leaf m ks vs) z e = omega (arith, e)
  passed_height key h (node m true f) z e = absurd (omega arith)
  passed_height key zero (node m false f) z e = absurd e
  passed_height key (suc h) (node m false f) z e = ap suc (passed_heights key h f (omega arith) e)

  passed_heights : (key h : ℕ) (f : Forest) → forest_violations f ≡ 0 → AllHeight h f → passed_among key f ≡ h
  passed_heights key h (one t) z e = passed_height key h t z e
  passed_heights key h (more t k f) z e =
      bool_cases (ltb key k) (λ q. rw q (passed_height key h t (omega arith) e.0)) (λ q. rw q (passed_heights key h f (omega arith) e.1))

pub passed_levels : (key h : ℕ) (t : Tree) → RootOk t → table_violations t ≡ 0 → Height h t → passed_in key t ≡ h
passed_levels key h (leaf m ks vs) ok z e = omega (arith, e)
passed_levels key h (node m true f) ok z e = absurd ok
passed_levels key zero (node m false f) ok z e = absurd e
passed_levels key (suc h) (node m false f) ok z e = ap suc (passed_heights key h f z e)
