-- What one change of a repair does: it is planned, and from here on the table, its free nodes and its violation are known at
-- every store.
use mathlib.Core.Path.{◌≡◌}
use mathlib.Core.List.{List, [], ◌∷◌, ◌++◌}
use mathlib.Core.Bool.{Bool, false}
use Prim.Native.Nat.{ℕ, ◌+◌, ◌≤◌, ◌<◌}
use lib.ListN.{length, set}
use Rattle.card.specs.NodeWords.{OnCard}
use Rattle.card.specs.Stores.{Store}
use Rattle.card.proofs.Stores.{play, Within}
use Rattle.change_layout.specs.Mending.{next_repair}
use Rattle.change_plan.specs.Planning.{with_all, prepared}
use Rattle.theory_change.proofs.Line.{Line, Partition, Own, size}
use Rattle.theory_change.proofs.Rewritten.{Sound}
use Rattle.laws.specs.Totals.{indicator, total}
use Rattle.theory_shapes.proofs.Bare.{bare}
use Rattle.theory_shapes.proofs.Next.{repaired_by}
use Rattle.theory_tree.specs.Pairs.{pairs}
use Rattle.theory_tree.proofs.Path.{depth_of, reserve, Violation}
use Rattle.theory_tree.specs.Represent.{Holds}
use Rattle.theory_tree.specs.Tree.{Tree, node_total}
use Rattle.theory_tree.specs.Violations.{table_violations}

-- how far a repair that follows the key has come: nothing left to do, or a violation so deep, with the nodes below the limit that mending
-- it needs
pub data Mendable (key limit : ℕ) (t : Tree) : ℕ → Type 0 where
  settled : table_violations t ≡ 0 → size t + 3 ≤ limit → Mendable key limit t 0
  violated : (v : Violation t key) → table_violations t ≡ 1 → size t + (3 + reserve v.context v.part) ≤ limit → Mendable key limit t (depth_of v.context)

-- The stores still to come on the card c, whose tree is t: all but the last are in nodes that t has not (those of positive
-- weight), nor the other line's; the last one puts the tree t' there, whose free nodes are then exact.
pub record Pending (c : List ℕ) (line : Line) (key : ℕ) (t : Tree) (rest : List Store) (free : List Bool) (cut : List ℕ) (deep : ℕ) : Type 0 where
  pub next : Tree
  pub weight : ℕ → ℕ
  pub writes : List Store
  pub link : ℕ
  pub value : ℕ
  pub is_rest : rest ≡ writes ++ (link, value) ∷ []
  pub inside : Within weight writes
  pub fresh : node_total weight t ≡ 0
  pub on_card_lem : (i : ℕ) → 0 < weight i → OnCard c i
  pub own : (i : ℕ) → 0 < weight i → total (indicator i) line.others ≡ 0
  pub link_inside : link < length c
  pub link_own : Own line link
  pub holds : Holds (set (play writes c) link value) next
  pub sound : Sound next
  pub same_pairs : (w : ℕ × ℕ → ℕ) → total w (pairs next) ≡ total w (pairs t)
  pub exact : Partition line (with_all cut free) next
  pub level : ℕ
  pub ready : Mendable key line.limit next level
  pub falls : level < deep
  -- without numbers it is the repair of the tree without numbers
  pub shaped : bare next ≡ repaired_by false (bare t)

-- the next change of a repair, planned on a card whose violation is so deep
pub record Repaired (c : List ℕ) (line : Line) (key : ℕ) (t : Tree) (free : List Bool) (last deep : ℕ) : Type 0 where
  pub stores : List Store
  pub free_then : List Bool
  pub last_then : ℕ
  pub cut : List ℕ
  pub planned : next_repair c line.nodes key free last ≡ prepared stores free_then last_then cut
  pub short : length stores ≤ 73
  pub pending : Pending c line key t stores free_then cut deep
