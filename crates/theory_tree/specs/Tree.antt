-- A tree: leaves with a row of keys and a row of values beside it, internal nodes with a routing key between each two children.
-- A total of a weight over the node numbers counts nodes; with the indicator of a number it says whether that node is there.
use Rattle.std.specs.Prelude.{List, [], ◌∷◌, Bool, ℕ, ◌+◌}

mutual
  pub data Tree : Type 0 where
    leaf : ℕ → List ℕ → List ℕ → Tree
    node : ℕ → Bool → Forest → Tree

  pub data Forest : Type 0 where
    one : Tree → Forest
    more : Tree → ℕ → Forest → Forest

abbrev pub root : Tree → ℕ
root (leaf m ks vs) = m
root (node m g f) = m

abbrev pub roots : Forest → List ℕ
roots (one t) = root t ∷ []
roots (more t k f) = root t ∷ roots f

abbrev pub routing : Forest → List ℕ
routing (one t) = []
routing (more t k f) = k ∷ routing f

-- the total of a weight over the node numbers
abbrev mutual
  pub node_total : (ℕ → ℕ) → Tree → ℕ
  node_total w (leaf m ks vs) = w m
  node_total w (node m g f) = w m + node_totals w f

  pub node_totals : (ℕ → ℕ) → Forest → ℕ
  node_totals w (one t) = node_total w t
  node_totals w (more t k f) = node_total w t + node_totals w f
