-- How high a tree is: "All leaves are equally deep when tagged nodes are not counted."
use Rattle.std.specs.Prelude.{◌≡◌, true, false, ℕ, zero, suc, ◌^◌, ltb}
use Rattle.card.specs.Layout.{depth_limit}
use Rattle.laws.specs.Cases.{pick}
use Rattle.theory_tree.specs.Tree.{Tree, Forest, leaf, node, one, more}

-- the height, tagged nodes not counted
abbrev mutual
  pub Height : ℕ → Tree → Type 0
  Height h (leaf m ks vs) = h ≡ 0
  Height h (node m true f) = AllHeight h f
  Height zero (node m false f) = ⊥
  Height (suc h) (node m false f) = AllHeight h f

  pub AllHeight : ℕ → Forest → Type 0
  AllHeight h (one t) = Height h t
  AllHeight h (more t k f) = Height h t × AllHeight h f

-- "With 600 nodes a balanced tree has at most 8 internal levels": a balanced tree of h internal levels has at least 2 to the power
-- (h + 1) nodes, less one. The greatest such h, of those up to a number, for so many nodes:
abbrev pub levels_up_to : ℕ → ℕ → ℕ
levels_up_to zero nodes = 0
levels_up_to (suc h) nodes = pick (ltb (suc nodes) (2 ^ suc (suc h))) (levels_up_to h nodes) (suc h)

abbrev pub most_levels : ℕ → ℕ
most_levels nodes = levels_up_to depth_limit nodes
