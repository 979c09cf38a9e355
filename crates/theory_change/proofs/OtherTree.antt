-- The other line's tree: a store of the line's table leaves it as it was.
use mathlib.Core.List.{List, [], ◌∷◌}
use mathlib.Core.Logic.{inl, inr}
use Prim.Native.Nat.{ℕ, ◌≤◌}
use native.Mathlib.Omega.{arith}
use lib.ListN.{set}
use Rattle.card.proofs.NodeWords.{keeps_head}
use Rattle.card.proofs.Stores.{Within, keeps_play, done, also}
use Rattle.laws.specs.Totals.{indicator, total}
use Rattle.laws.proofs.Totals.{indicator_same}
use Rattle.theory_change.proofs.Line.{Line, Own}
use Rattle.theory_change.proofs.Rewritten.{weight_apart}
use Rattle.theory_tree.specs.Represent.{Represents}
use Rattle.theory_tree.proofs.Represent.{frame}
use Rattle.theory_tree.specs.Tree.{Tree, node_total}

-- its nodes are among those that the line leaves alone
pub other_kept : (line : Line) (c : List ℕ) (other : Tree) (p v : ℕ) → ((i : ℕ) → node_total (indicator i) other ≤ total (indicator i) line.others) → Own line p
    → Represents c other → Represents (set c p v) other
other_kept line c other p v among (inl e) r = frame c (set c p v) (λ m. 0) (keeps_head c p v (omega arith)) other (weight_apart (λ m. 0) other (λ i h. absurd (omega arith))) r
other_kept line c other p v among (inr n) r =
    let here : Within (indicator n.number) ((p, v) ∷ []) = also n.number n.word v p n.is n.pos n.few (omega (arith, indicator_same n.number)) done in
    frame c (set c p v) (indicator n.number) (keeps_play here c) other (omega (arith, among n.number, n.own)) r
