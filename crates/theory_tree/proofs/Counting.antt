-- How many nodes a tree can have, and how high a balanced one can be.
use mathlib.Core.Path.{◌≡◌, refl}
use mathlib.Core.Bool.{true, false}
use mathlib.Core.Logic.{by_cases}
use Prim.Native.Nat.{ℕ, zero, suc, ◌+◌, ◌*◌, ◌^◌, ◌≤◌, ◌<◌}
use native.Mathlib.Omega.{arith}
use native.Mathlib.Decide.{ℕ_discrete}
use lib.ListN.{length}
use Rattle.laws.specs.Totals.{indicator}
use Rattle.laws.proofs.Totals.{indicator_same}
use Rattle.theory_tree.proofs.Represent.{total_zero}
use Rattle.theory_tree.specs.Height.{Height, AllHeight}
use Rattle.theory_tree.specs.Tree.{Tree, Forest, roots, node_total, node_totals, leaf, node, one, more}

mutual
  pub total_add : (w v : ℕ → ℕ) (t : Tree) → node_total (λ m. w m + v m) t ≡ node_total w t + node_total v t
  total_add w v (leaf m ks vs) = refl
  total_add w v (node m g f) = omega (arith, totals_add w v f)

  pub totals_add : (w v : ℕ → ℕ) (f : Forest) → node_totals (λ m. w m + v m) f ≡ node_totals w f + node_totals v f
  totals_add w v (one t) = total_add w v t
  totals_add w v (more t k f) = omega (arith, total_add w v t, totals_add w v f)

-- all node numbers are 1 to n
abbrev mutual
  pub Upto : ℕ → Tree → Type 0
  Upto n (leaf m ks vs) = (0 < m) × (m ≤ n)
  Upto n (node m g f) = (0 < m) × (m ≤ n) × Uptos n f

  pub Uptos : ℕ → Forest → Type 0
  Uptos n (one t) = Upto n t
  Uptos n (more t k f) = Upto n t × Uptos n f

-- the number of i from 1 to n that are m
pub below : ℕ → ℕ → ℕ
below zero m = 0
below (suc n) m = indicator (suc n) m + below n m

pub below_one : (n m : ℕ) → 0 < m → m ≤ n → 1 ≤ below n m
unfolding below
below_one zero m h g = omega arith
below_one (suc n) m h g = by_cases (ℕ_discrete m (suc n)) (λ e. rw e (omega (arith, indicator_same (suc n)))) (λ d. omega (arith, below_one n m h (omega arith)))

mutual
  pub size_below : (n : ℕ) (t : Tree) → Upto n t → node_total (λ m. 1) t ≤ node_total (below n) t
  size_below n (leaf m ks vs) u = below_one n m u.0 u.1
  size_below n (node m g f) u = omega (arith, below_one n m u.0 u.1, sizes_below n f u.2)

  pub sizes_below : (n : ℕ) (f : Forest) → Uptos n f → node_totals (λ m. 1) f ≤ node_totals (below n) f
  sizes_below n (one t) u = size_below n t u
  sizes_below n (more t k f) u = omega (arith, size_below n t u.0, sizes_below n f u.1)

pub below_le : (n : ℕ) (t : Tree) → ((i : ℕ) → node_total (indicator i) t ≤ 1) → node_total (below n) t ≤ n
unfolding below
below_le zero t d = omega (arith, total_zero t)
below_le (suc n) t d = omega (arith, total_add (indicator (suc n)) (below n) t, below_le n t d, d (suc n))

-- PIGEONHOLE: distinct numbers from 1 to n are at most n
pub size_le : (n : ℕ) (t : Tree) → Upto n t → ((i : ℕ) → node_total (indicator i) t ≤ 1) → node_total (λ m. 1) t ≤ n
size_le n t u d = omega (arith, size_below n t u, below_le n t d)

-- every internal node has two children or more, and none is tagged
abbrev mutual
  pub Wide : Tree → Type 0
  Wide (leaf m ks vs) = Unit
  Wide (node m true f) = ⊥
  Wide (node m false f) = (2 ≤ length (roots f)) × Wides f

  pub Wides : Forest → Type 0
  Wides (one t) = Wide t
  Wides (more t k f) = Wide t × Wides f

-- a balanced tree of height h has 2 ^ (h + 1) - 1 nodes or more
mutual
  pub size_height : (h : ℕ) (t : Tree) → Height h t → Wide t → 2 ^ suc h ≤ suc (node_total (λ m. 1) t)
  size_height h (leaf m ks vs) i w = rw i (omega arith)
  size_height h (node m true f) i w = absurd w
  size_height zero (node m false f) i w = absurd i
  size_height (suc h) (node m false f) i w = omega (arith, (sizes_height h f i w.1).1 w.0)

  pub sizes_height : (h : ℕ) (f : Forest) → AllHeight h f → Wides f → (2 ^ suc h ≤ suc (node_totals (λ m. 1) f)) × (2 ≤ length (roots f) → 2 * 2 ^ suc h ≤ 2 + node_totals (λ m. 1) f)
  sizes_height h (one t) i w = (size_height h t i w, λ n. absurd (omega arith))
  sizes_height h (more t k f) i w = let p = size_height h t i.0 w.0 in let q = (sizes_height h f i.1 w.1).0 in (omega arith, λ n. omega arith)
