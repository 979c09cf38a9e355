-- One link store puts a new part in the place of an old one; every store before it leaves the old tree.
use mathlib.Core.Path.{◌≡◌, refl, ◌∙◌}
use mathlib.Core.List.{List}
use Prim.Native.Nat.{ℕ, ◌+◌, ◌≤◌, ◌<◌}
use native.Mathlib.Omega.{arith}
use lib.ListN.{set, get_or, take}
use lib.Seq.{get_or-set_other}
use Rattle.card.proofs.Stores.{play, length_play, Within, within_take, keeps_play, done, also}
use Rattle.laws.specs.Totals.{indicator}
use Rattle.theory_tree.specs.Represent.{Represents, Holds}
use Rattle.theory_tree.proofs.Represent.{link_place, frame, replaced}
use Rattle.theory_tree.specs.Tree.{Tree, root, node_total}
use Rattle.theory_tree.proofs.Tree.{Context, plug, context_total}

pub play_head : {w : ℕ → ℕ} {ss : List (ℕ × ℕ)} → Within w ss → (c : List ℕ) (p : ℕ) → p < 8 → get_or (play ss c) p 0 ≡ get_or c p 0
play_head done c p h = refl
play_head (also i x v a e hi hx hw r) c p h = play_head r _ p h ∙ get_or-set_other c a p v 0 (omega arith)

pub holds_frame : {w : ℕ → ℕ} {ss : List (ℕ × ℕ)} → Within w ss → (c : List ℕ) (t : Tree) → node_total w t ≡ 0 → Holds c t → Holds (play ss c) t
holds_frame {w} {ss} h c t z r = (play_head h c 4 (omega arith) ∙ r.0, rw length_play r.1, frame c (play ss c) w (keeps_play h c) t z r.2)

module _ (c : List ℕ) (C : Context) (s s' : Tree) (w : ℕ → ℕ) (P : List (ℕ × ℕ)) (inside : Within w P) (fresh : node_total w (plug C s) ≡ 0) where
  pub before_link : (n : ℕ) → Holds c (plug C s) → Holds (play (take n P) c) (plug C s)
  before_link n r = holds_frame (within_take n inside) c (plug C s) fresh r

  pub changed : ((i : ℕ) → context_total (indicator i) C + node_total (indicator i) s' ≤ 1) → Represents (play P c) s' → Holds c (plug C s)
      → Holds (set (play P c) (link_place C) (root s')) (plug C s')
  changed d q r = replaced (play P c) C s s' d (holds_frame inside c (plug C s) fresh r) q
