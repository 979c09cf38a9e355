-- Document 01, "State, steps and free nodes": "The free nodes are one bit each: those not reached from the root".
use Rattle.std.specs.Prelude.{List, Bool, false, ℕ, ◌+◌, ◌≤◌, ◌<◌, get_or, length, ◌≡◌, ◌⊎◌}
use Rattle.laws.specs.Bits.{bit}
use Rattle.card_free.specs.NodeSet.{capacity}
use Rattle.laws.specs.Totals.{indicator}
use Rattle.theory_tree.specs.Tree.{Tree, node_total}

-- each node is free or reached from the root, and not both
pub record Exact (n : ℕ) (free : List Bool) (t : Tree) : Type 0 where
  pub size : length free ≡ capacity
  pub within : (m : ℕ) → 1 ≤ m → m ≤ n → bit (get_or free m false) + node_total (indicator m) t ≡ 1
  pub outside_none : (m : ℕ) → (m ≡ 0) ⊎ (n < m) → get_or free m false ≡ false
