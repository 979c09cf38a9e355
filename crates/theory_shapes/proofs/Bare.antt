-- A tree with its node numbers forgotten: every number is 0. Slots, values in empty slots, routing keys and tags stay as they are.
-- It is again a tree, so that all that is defined on trees serves it too; this file says what is the same of both.
use mathlib.Core.Path.{◌≡◌, refl, ap, ap₂}
use mathlib.Core.List.{List, [], ◌∷◌, ◌++◌}
use mathlib.Core.Bool.{true, false}
use Prim.Native.Nat.{ℕ, zero, suc}
use native.Mathlib.Omega.{arith}
use lib.ListN.{length}
use Rattle.theory_tree.proofs.Cut.{Cut, cut}
use Rattle.theory_tree.specs.Pairs.{pairs, forest_pairs}
use Rattle.theory_tree.proofs.Path.{depth_of, width_of, full_run, own_violation}
use Rattle.theory_tree.specs.Height.{Height, AllHeight}
use Rattle.theory_tree.specs.Tree.{Tree, Forest, roots, routing, node_total, node_totals, leaf, node, one, more}
use Rattle.theory_tree.proofs.Tree.{Left, Right, join, splice, fill, Context, plug, rightmost, followed, top, down}
use Rattle.theory_tree.specs.Violations.{violations, forest_violations, table_violations}

abbrev mutual
  pub bare : Tree → Tree
  bare (leaf m ks vs) = leaf 0 ks vs
  bare (node m g f) = node 0 g (bares f)

  pub bares : Forest → Forest
  bares (one t) = one (bare t)
  bares (more t k f) = more (bare t) k (bares f)

abbrev pub bare_left : Left → Left
bare_left [] = []
bare_left (a ∷ l) = (bare a.0, a.1) ∷ bare_left l

abbrev pub bare_right : Right → Right
bare_right rightmost = rightmost
bare_right (followed k f) = followed k (bares f)

abbrev pub bare_context : Context → Context
bare_context top = top
bare_context (down C m g l r) = down (bare_context C) 0 g (bare_left l) (bare_right r)

-- two trees that differ in their node numbers alone
abbrev pub Alike : Tree → Tree → Type 0
Alike t t' = bare t ≡ bare t'

-- parts put together
pub bare_join : (f : Forest) (k : ℕ) (g : Forest) → bares (join f k g) ≡ join (bares f) k (bares g)
bare_join (one t) k g = refl
bare_join (more t x f) k g = ap (λ (h : Forest). more (bare t) x h) (bare_join f k g)

pub bare_splice : (l : Left) (f : Forest) (r : Right) → bares (splice l f r) ≡ splice (bare_left l) (bares f) (bare_right r)
bare_splice [] f rightmost = refl
bare_splice [] f (followed k g) = bare_join f k g
bare_splice (a ∷ l) f r = ap (λ (h : Forest). more (bare a.0) a.1 h) (bare_splice l f r)

pub bare_plug : (C : Context) (t : Tree) → bare (plug C t) ≡ plug (bare_context C) (bare t)
bare_plug top t = refl
bare_plug (down C m g l r) t = rw (bare_plug C (node m g (fill l t r)), bare_splice l (one t) r)

pub bare_cut : (n : ℕ) (f : Forest) → cut n (bares f) ≡ record { left = bares (cut n f).left; key = (cut n f).key; right = bares (cut n f).right }
unfolding cut
bare_cut n (one t) = refl
bare_cut zero (more t k f) = refl
bare_cut (suc zero) (more t k f) = refl
bare_cut (suc (suc n)) (more t k f) = ap (λ (u : Cut). record { left = more (bare t) k u.left; key = u.key; right = u.right }) (bare_cut (suc n) f)

-- what does not speak of numbers
pub bare_width : (f : Forest) → length (roots (bares f)) ≡ length (roots f)
bare_width (one t) = refl
bare_width (more t k f) = ap suc (bare_width f)

pub bare_routing : (f : Forest) → routing (bares f) ≡ routing f
bare_routing (one t) = refl
bare_routing (more t k f) = ap (λ (ks : List ℕ). k ∷ ks) (bare_routing f)

pub bare_left_size : (l : Left) → length (bare_left l) ≡ length l
bare_left_size [] = refl
bare_left_size (a ∷ l) = ap suc (bare_left_size l)

pub bare_width_of : (l : Left) (r : Right) → width_of (bare_left l) (bare_right r) ≡ width_of l r
bare_width_of l rightmost = omega (arith, bare_left_size l)
bare_width_of l (followed k f) = omega (arith, bare_left_size l, bare_width f)

mutual
  pub bare_pairs : (t : Tree) → pairs (bare t) ≡ pairs t
  bare_pairs (leaf m ks vs) = refl
  bare_pairs (node m g f) = bares_pairs f

  pub bares_pairs : (f : Forest) → forest_pairs (bares f) ≡ forest_pairs f
  bares_pairs (one t) = bare_pairs t
  bares_pairs (more t k f) = ap₂ (λ (a b : List (ℕ × ℕ)). a ++ b) (bare_pairs t) (bares_pairs f)

pub bare_own : (t : Tree) → own_violation (bare t) ≡ own_violation t
bare_own (leaf m ks vs) = refl
bare_own (node m g f) = rw (bare_width f)

mutual
  pub bare_violations : (t : Tree) → violations (bare t) ≡ violations t
  bare_violations (leaf m ks vs) = refl
  bare_violations (node m g f) = rw (bare_width f, bares_violations f)

  pub bares_violations : (f : Forest) → forest_violations (bares f) ≡ forest_violations f
  bares_violations (one t) = bare_violations t
  bares_violations (more t k f) = omega (arith, bare_violations t, bares_violations f)

pub bare_table_violations : (t : Tree) → table_violations (bare t) ≡ table_violations t
bare_table_violations (leaf m ks vs) = refl
bare_table_violations (node m g f) = bares_violations f

-- "the 11-child nodes without a break straight above"
pub bare_run : (C : Context) → full_run (bare_context C) ≡ full_run C
unfolding full_run
bare_run top = refl
bare_run (down C m g l r) = rw (bare_width_of l r, bare_run C)

pub bare_depth : (C : Context) → depth_of (bare_context C) ≡ depth_of C
bare_depth top = refl
bare_depth (down C m g l r) = ap suc (bare_depth C)

-- how many nodes a tree has
mutual
  pub bare_size : (t : Tree) → node_total (λ m. 1) (bare t) ≡ node_total (λ m. 1) t
  bare_size (leaf m ks vs) = refl
  bare_size (node m g f) = omega (arith, bares_size f)

  pub bares_size : (f : Forest) → node_totals (λ m. 1) (bares f) ≡ node_totals (λ m. 1) f
  bares_size (one t) = bare_size t
  bares_size (more t k f) = omega (arith, bare_size t, bares_size f)

-- heights are those of the bare tree, both ways
mutual
  pub bare_height : (h : ℕ) (t : Tree) → Height h t → Height h (bare t)
  bare_height h (leaf m ks vs) i = i
  bare_height h (node m true f) i = bares_height h f i
  bare_height zero (node m false f) i = absurd i
  bare_height (suc h) (node m false f) i = bares_height h f i

  pub bares_height : (h : ℕ) (f : Forest) → AllHeight h f → AllHeight h (bares f)
  bares_height h (one t) i = bare_height h t i
  bares_height h (more t k f) i = (bare_height h t i.0, bares_height h f i.1)
