-- How deep a way down a sound table can go. A part without violations at least doubles its nodes with each level, and at most
-- one child of the root has a violation, so the height is bounded by the number of nodes; a way down is longer than the height
-- only by tagged nodes, of which there is at most one.
use mathlib.Core.Path.{◌≡◌}
use mathlib.Core.List.{List}
use mathlib.Core.Bool.{true, false}
use Prim.Native.Nat.{ℕ, zero, suc, ◌+◌, ◌*◌, ◌^◌, ◌≤◌, ◌<◌}
use native.Mathlib.Omega.{arith}
use lib.ListN.{length}
use lib.Pow.{pow_mono}
use borrow.Author.Tests.{lt-ltb, le-ltb}
use Rattle.card.specs.Layout.{greatest_nodes, depth_limit}
use Rattle.card.specs.NodeWords.{OnCard}
use Rattle.laws.proofs.Cases.{order}
use Rattle.laws.specs.Totals.{indicator}
use Rattle.theory_tree.proofs.Counting.{Upto, Uptos, size_le, Wide, Wides, size_height, sizes_height}
use Rattle.theory_tree.proofs.Pairs.{depth, depths}
use Rattle.theory_tree.specs.Represent.{Represents, RepresentsAll}
use Rattle.theory_tree.specs.Height.{Height, AllHeight, levels_up_to, most_levels}
use Rattle.theory_tree.specs.Tree.{Tree, Forest, roots, node_total, node_totals, leaf, node, one, more}
use Rattle.theory_tree.proofs.Violations.{few_zero}
use Rattle.theory_tree.specs.Violations.{violations, forest_violations, RootOk, table_violations}
use Rattle.theory_tree.specs.WellFormed.{WellFormed}

-- a part without violations has two children or more at each internal node, and no tagged node
mutual
  pub no_violations_wide : (t : Tree) → violations t ≡ 0 → Wide t
  no_violations_wide (leaf m ks vs) e = tt
  no_violations_wide (node m true f) e = absurd (omega arith)
  no_violations_wide (node m false f) e = (few_zero (length (roots f)) (omega arith), no_violations_wides f (omega arith))

  pub no_violations_wides : (f : Forest) → forest_violations f ≡ 0 → Wides f
  no_violations_wides (one t) e = no_violations_wide t e
  no_violations_wides (more t k f) e = (no_violations_wide t (omega arith), no_violations_wides f (omega arith))

pub balanced_wide : (t : Tree) → RootOk t → table_violations t ≡ 0 → Wide t
balanced_wide (leaf m ks vs) r e = tt
balanced_wide (node m true f) r e = absurd r
balanced_wide (node m false f) r e = (r.0, no_violations_wides f e)

-- the height of a balanced table of at most n nodes
pub balanced_height : (h levels n : ℕ) (t : Tree) → suc n < 2 ^ suc levels → Height h t → RootOk t → table_violations t ≡ 0 → node_total (λ m. 1) t ≤ n → h < levels
balanced_height h levels n t small i r e s =
    order h levels (λ o. o) (λ o. absurd (omega (arith, size_height h t i (balanced_wide t r e), pow_mono {i = suc levels} {j = suc h} (omega arith))))

-- the most levels that so many nodes allow are as many as any tree of them has
levels_up_to_lem : (most h nodes : ℕ) → h ≤ most → 2 ^ suc h ≤ suc nodes → h ≤ levels_up_to most nodes
levels_up_to_lem zero h nodes l p = l
levels_up_to_lem (suc most) h nodes l p =
    order (suc nodes) (2 ^ suc (suc most))
    (λ o. rw (lt-ltb (suc nodes) (2 ^ suc (suc most)) o) (levels_up_to_lem most h nodes
    (order h (suc most) (λ q. omega arith) (λ q. absurd (omega (arith, o, p, pow_mono {i = suc (suc most)} {j = suc h} (omega arith))))) p))
    (λ o. rw (le-ltb (suc nodes) (2 ^ suc (suc most)) o) l)

-- "With 600 nodes a balanced tree has at most 8 internal levels"
pub balanced_levels : (h n : ℕ) (t : Tree) → n ≤ greatest_nodes → Height h t → RootOk t → table_violations t ≡ 0 → node_total (λ m. 1) t ≤ n → h ≤ most_levels n
balanced_levels h n t few i r e s =
    let below = balanced_height h depth_limit greatest_nodes t (omega arith) i r e (omega arith) in
    levels_up_to_lem depth_limit h n (omega arith) (omega (arith, size_height h t i (balanced_wide t r e)))

-- of two children or more, one has no violation where there is at most one
children_size : (h : ℕ) (f : Forest) → AllHeight h f → 2 ≤ length (roots f) → forest_violations f ≤ 1 → 2 ^ suc h ≤ 2 + node_totals (λ m. 1) f
children_size h (one t) i n v = absurd (omega arith)
children_size h (more t k f) i n v =
    order 0 (violations t) (λ o. omega (arith, (sizes_height h f i.1 (no_violations_wides f (omega arith))).0))
    (λ o. omega (arith, size_height h t i.0 (no_violations_wide t (omega arith))))

pub table_size : (h : ℕ) (t : Tree) → Height h t → RootOk t → table_violations t ≤ 1 → 2 ^ h ≤ suc (node_total (λ m. 1) t)
table_size h (leaf m ks vs) i r v = rw i (omega arith)
table_size h (node m true f) i r v = absurd r
table_size zero (node m false f) i r v = absurd i
table_size (suc h) (node m false f) i r v = omega (arith, children_size h f i r.0 v)

-- the height of a table of at most n nodes
pub height_below : (h levels n : ℕ) (t : Tree) → suc n < 2 ^ levels → Height h t → RootOk t → table_violations t ≤ 1 → node_total (λ m. 1) t ≤ n → h < levels
height_below h levels n t small i r v s = order h levels (λ o. o) (λ o. absurd (omega (arith, table_size h t i r v, pow_mono {i = levels} {j = h} o)))

-- a way down is as long as the height, and a violation adds at most one to it
mutual
  pub depth_height : (h : ℕ) (t : Tree) → Height h t → depth t ≤ h + violations t
  depth_height h (leaf m ks vs) i = omega arith
  depth_height h (node m true f) i = omega (arith, depths_height h f i)
  depth_height zero (node m false f) i = absurd i
  depth_height (suc h) (node m false f) i = omega (arith, depths_height h f i)

  pub depths_height : (h : ℕ) (f : Forest) → AllHeight h f → depths f ≤ h + forest_violations f
  depths_height h (one t) i = depth_height h t i
  depths_height h (more t k f) i = omega (arith, depth_height h t i.0, depths_height h f i.1)

pub table_depth : (h : ℕ) (t : Tree) → Height h t → RootOk t → depth t ≤ h + table_violations t
table_depth h (leaf m ks vs) i r = omega arith
table_depth h (node m true f) i r = absurd r
table_depth zero (node m false f) i r = absurd i
table_depth (suc h) (node m false f) i r = omega (arith, depths_height h f i)

pub depth_within : (h levels n : ℕ) (t : Tree) → suc n < 2 ^ levels → Height h t → RootOk t → table_violations t ≤ 1 → node_total (λ m. 1) t ≤ n → depth t ≤ levels
depth_within h levels n t small i r v s = omega (arith, table_depth h t i r, height_below h levels n t small i r v s)

-- no way down a sound table of at most `greatest_nodes` nodes is longer than `depth_limit`
pub depth_limited : (h : ℕ) (t : Tree) → Height h t → RootOk t → table_violations t ≤ 1 → node_total (λ m. 1) t ≤ greatest_nodes → depth t ≤ depth_limit
depth_limited h t = depth_within h depth_limit greatest_nodes t (omega arith)

-- the node numbers of a tree on a card of n nodes are 1 to n, so that a tree without a number twice has at most n nodes
module _ (c : List ℕ) (n : ℕ) (len : length c ≡ 8 + 24 * n) where
  pub on_card_le : (m : ℕ) → OnCard c m → (0 < m) × (m ≤ n)
  on_card_le m o = (o.pos, omega (arith, o.fits))

  mutual
    pub represents_upto : (t : Tree) → Represents c t → Upto n t
    represents_upto (leaf m ks vs) r = on_card_le m r.0.on
    represents_upto (node m g f) r = ((on_card_le m r.0.on).0, (on_card_le m r.0.on).1, represents_uptos f r.1)

    pub represents_uptos : (f : Forest) → RepresentsAll c f → Uptos n f
    represents_uptos (one t) r = represents_upto t r
    represents_uptos (more t k f) r = (represents_upto t r.0, represents_uptos f r.1)

  pub nodes_within : (t : Tree) → Represents c t → ((i : ℕ) → node_total (indicator i) t ≤ 1) → node_total (λ m. 1) t ≤ n
  nodes_within t r = size_le n t (represents_upto t r)

  -- a sound table: its size and depth
  pub well_formed_size : (t : Tree) → WellFormed c t → node_total (λ m. 1) t ≤ n
  well_formed_size t w = nodes_within t w.holds.2 w.once

  pub well_formed_depth : (t : Tree) → n ≤ greatest_nodes → WellFormed c t → depth t ≤ depth_limit
  well_formed_depth t h w = depth_limited w.level.0 t w.level.1 w.widths w.few_violations (omega (arith, well_formed_size t w))
