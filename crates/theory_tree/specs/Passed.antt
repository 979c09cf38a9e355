-- The internal nodes on a number's way down a tree (document 02, W-203).
use Rattle.std.specs.Prelude.{ℕ, suc, ltb}
use Rattle.laws.specs.Cases.{pick}
use Rattle.theory_tree.specs.Tree.{Tree, Forest, leaf, node, one, more}

-- "a key passes routing keys from the first until one exceeds it, and takes the child there"; "tagged ones counted": whether a node is
-- tagged makes no difference
abbrev mutual
  pub passed_in : ℕ → Tree → ℕ
  passed_in number (leaf m ks vs) = 0
  passed_in number (node m g f) = suc (passed_among number f)

  pub passed_among : ℕ → Forest → ℕ
  passed_among number (one t) = passed_in number t
  passed_among number (more t k f) = pick (ltb number k) (passed_in number t) (passed_among number f)
