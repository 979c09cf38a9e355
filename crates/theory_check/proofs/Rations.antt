-- Document 02, W-214: "Purchasing sizes cards by rations, not nodes." How many levels a balanced tree can have for its pairs.
-- A leaf below the root has 2 pairs or more and an internal node 2 children or more, so the pairs at least double with each level.
use mathlib.Core.Path.{◌≡◌, refl}
use mathlib.Core.List.{List}
use mathlib.Core.Bool.{true, false}
use Prim.Native.Nat.{ℕ, zero, suc, ◌*◌, ◌^◌, ◌≤◌, ◌<◌}
use native.Mathlib.Omega.{arith}
use lib.ListN.{length, length-append}
use lib.Pow.{pow_mono}
use Rattle.card.specs.Layout.{slot_pairs}
use Rattle.card.proofs.NodeLaws.{slot_pairs_le}
use Rattle.laws.proofs.Cases.{order}
use Rattle.theory_tree.specs.Pairs.{pairs, forest_pairs}
use Rattle.theory_tree.specs.Represent.{Represents, RepresentsAll}
use Rattle.theory_tree.specs.Height.{Height, AllHeight}
use Rattle.theory_tree.specs.Tree.{Tree, Forest, roots, node_total, node_totals, leaf, node, one, more}
use Rattle.theory_tree.proofs.Violations.{few_zero}
use Rattle.theory_tree.specs.Violations.{violations, forest_violations, RootOk, table_violations}

mutual
  pairs_height : (h : ℕ) (t : Tree) → Height h t → violations t ≡ 0 → 2 ^ suc h ≤ length (pairs t)
  pairs_height h (leaf m ks vs) i e = rw i (omega (arith, few_zero (length (slot_pairs ks vs)) e))
  pairs_height h (node m true f) i e = absurd (omega arith)
  pairs_height zero (node m false f) i e = absurd i
  pairs_height (suc h) (node m false f) i e = (children_pairs h f i (omega arith)).1 (few_zero (length (roots f)) (omega arith))

  -- one child has so many pairs, two have twice as many
  children_pairs : (h : ℕ) (f : Forest) → AllHeight h f → forest_violations f ≡ 0 → (2 ^ suc h ≤ length (forest_pairs f)) × (2 ≤ length (roots f) → 2 ^ suc (suc h) ≤ length (forest_pairs f))
  children_pairs h (one t) i e = (pairs_height h t i e, λ n. absurd (omega arith))
  children_pairs h (more t k f) i e =
      let p = pairs_height h t i.0 (omega arith) in
      let q = (children_pairs h f i.1 (omega arith)).0 in
      let s = length-append (pairs t) (forest_pairs f) in
      (omega arith, λ n. omega arith)

-- "on every balanced tree with h internal levels, h at least 1, there are at least 2 to the power (h + 1) pairs"
pub balanced_pairs : (h : ℕ) (t : Tree) → Height h t → RootOk t → table_violations t ≡ 0 → 1 ≤ h → 2 ^ suc h ≤ length (pairs t)
balanced_pairs h (leaf m ks vs) i r e one_level = absurd (omega arith)
balanced_pairs h (node m true f) i r e one_level = absurd r
balanced_pairs zero (node m false f) i r e one_level = absurd i
balanced_pairs (suc h) (node m false f) i r e one_level = (children_pairs h f i e).1 r.0

-- "a balanced line of n pairs, n at least 4, has depth h with 2 to the power (h + 1) at most n"
pub pairs_bound_levels : (h : ℕ) (t : Tree) → Height h t → RootOk t → table_violations t ≡ 0 → 4 ≤ length (pairs t) → 2 ^ suc h ≤ length (pairs t)
pairs_bound_levels zero t i r e four = omega arith
pairs_bound_levels (suc h) t i r e four = balanced_pairs (suc h) t i r e (omega arith)

-- "and one of fewer than 4 is a single leaf"
pub few_pairs_flat : (h : ℕ) (t : Tree) → Height h t → RootOk t → table_violations t ≡ 0 → length (pairs t) < 4 → h ≡ 0
few_pairs_flat h t i r e few = order h 1 (λ o. omega arith) (λ o. absurd (omega (arith, balanced_pairs h t i r e o, pow_mono {i = 2} {j = suc h} (omega arith))))

abbrev pub SingleLeaf : Tree → Type 0
SingleLeaf t = (m : ℕ) × (ks : List ℕ) × (vs : List ℕ) × (t ≡ leaf m ks vs)

pub flat_leaf : (t : Tree) → Height 0 t → RootOk t → SingleLeaf t
flat_leaf (leaf m ks vs) i r = (m, ks, vs, refl)
flat_leaf (node m true f) i r = absurd r
flat_leaf (node m false f) i r = absurd i

-- a leaf has 11 slots, so that so many nodes have at most 11 pairs each
module _ (c : List ℕ) where
  mutual
    pub pairs_le : (t : Tree) → Represents c t → length (pairs t) ≤ 11 * node_total (λ m. 1) t
    pairs_le (leaf m ks vs) r = omega (arith, slot_pairs_le ks vs, r.1)
    pairs_le (node m g f) r = omega (arith, forest_le f r.1)

    pub forest_le : (f : Forest) → RepresentsAll c f → length (forest_pairs f) ≤ 11 * node_totals (λ m. 1) f
    forest_le (one t) r = pairs_le t r
    forest_le (more t k f) r = omega (arith, length-append (pairs t) (forest_pairs f), pairs_le t r.0, forest_le f r.1)
