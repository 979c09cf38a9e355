-- Document 01, "Refusal by place", 5: "the 11-child nodes without a break straight above a tagged node".
use Rattle.std.specs.Prelude.{ℕ, ◌+◌, length}
use Rattle.laws.specs.Cases.{pick}
use Rattle.card.specs.Layout.{run_below}
use Rattle.theory_tree.specs.Tree.{Tree, Forest, roots, leaf, node, one, more}

abbrev mutual
  pub reserves : ℕ → Tree → ℕ
  reserves run (leaf m ks vs) = 0
  reserves run (node m g f) = pick g run 0 + all_reserves (run_below (length (roots f)) run) f

  pub all_reserves : ℕ → Forest → ℕ
  all_reserves run (one t) = reserves run t
  all_reserves run (more t k f) = reserves run t + all_reserves run f
