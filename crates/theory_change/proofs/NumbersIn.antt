-- The numbers of the nodes of a tree, as a list.
use mathlib.Core.Path.{◌≡◌}
use mathlib.Core.List.{List, [], ◌∷◌, ◌++◌}
use Prim.Native.Nat.{ℕ}
use native.Mathlib.Omega.{arith}
use Rattle.laws.specs.Totals.{total}
use Rattle.laws.proofs.Totals.{total_append}
use Rattle.theory_tree.specs.Tree.{Tree, Forest, node_total, node_totals, leaf, node, one, more}

abbrev mutual
  pub numbers_in : Tree → List ℕ
  numbers_in (leaf m ks vs) = m ∷ []
  numbers_in (node m g f) = m ∷ numbers_all f

  pub numbers_all : Forest → List ℕ
  numbers_all (one t) = numbers_in t
  numbers_all (more t k f) = numbers_in t ++ numbers_all f

mutual
  pub numbers_total : (w : ℕ → ℕ) (t : Tree) → total w (numbers_in t) ≡ node_total w t
  numbers_total w (leaf m ks vs) = omega arith
  numbers_total w (node m g f) = omega (arith, numbers_totals w f)

  numbers_totals : (w : ℕ → ℕ) (f : Forest) → total w (numbers_all f) ≡ node_totals w f
  numbers_totals w (one t) = numbers_total w t
  numbers_totals w (more t k f) = omega (arith, total_append w (numbers_in t) (numbers_all f), numbers_total w t, numbers_totals w f)
