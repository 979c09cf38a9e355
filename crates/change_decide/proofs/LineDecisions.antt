-- What is decided on a line's table is decided on the card from the line's root: a decision reads nothing of the header.
use mathlib.Core.Path.{◌≡◌, refl, ap, ◌∙◌}
use mathlib.Core.Bool.{Bool, true, ◌&&◌}
use mathlib.Core.List.{List, [], ◌∷◌}
use Prim.Native.Nat.{ℕ}
use lib.ListN.{get_or}
use Rattle.laws.specs.Cases.{pick}
use Rattle.card.specs.Layout.{depth_limit, node_at}
use Rattle.card.specs.Lines.{root_of, seen}
use Rattle.card.proofs.LineLaws.{seen_node, seen_root}
use Rattle.walk.specs.Descent.{is_fault, first_fault, end_of, search_of, seek, root_position, Way}
use Rattle.walk.proofs.LineWays.{way_from_seen}
use Rattle.walk.specs.declared.Position.{Position}
use Rattle.walk.specs.declared.End.{End}
use Rattle.walk.specs.declared.End.TheVariants.{Fault as EndFault}
use Rattle.walk.specs.declared.Search.{Search}
use Rattle.walk.specs.declared.Search.TheVariants.{Refused as NoSearch, Balanced as SearchBalanced, Violation as SearchViolation}
use Rattle.change_decide.specs.Decide.{left_number, right_number, decide_underfull, decide_at, on_search, decided_repair}

module _ (line : ℕ) (card : List ℕ) where
  fault_seen : (seeks : Bool) (end : End) (ps : List Position) → first_fault (seen line card) seeks end ps ≡ first_fault card seeks end ps
  unfolding first_fault
  fault_seen seeks end [] = refl
  fault_seen seeks end (p ∷ ps) = rw (seen_node line card p.node) (ap (pick (seeks && is_fault (node_at card p.node) p.parent) (EndFault p)) (fault_seen seeks end ps))

  pub seek_seen : (n key levels : ℕ) (p : Position) → seek (seen line card) n key levels p ≡ seek card n key levels p
  unfolding seek end_of
  seek_seen n key levels p =
      ap (λ (w : Way). search_of (end_of (seen line card) true w)) (way_from_seen line card n key levels p) ∙ ap search_of (fault_seen true _ _)

  underfull_seen : (n : ℕ) (p : Position) (parent : List ℕ) → decide_underfull (seen line card) n p parent ≡ decide_underfull card n p parent
  unfolding decide_underfull
  underfull_seen n p parent = rw (seen_node line card (left_number parent p), seen_node line card (right_number parent p))

  pub decide_seen : (n : ℕ) (p : Position) → decide_at (seen line card) n p ≡ decide_at card n p
  unfolding decide_at
  decide_seen n p = rw (seen_node line card p.parent, seen_node line card p.node, underfull_seen n p (node_at card p.parent))

  search_seen : (n : ℕ) (s : Search) → on_search (seen line card) n s ≡ on_search card n s
  unfolding on_search
  search_seen n NoSearch = refl
  search_seen n SearchBalanced = refl
  search_seen n (SearchViolation p) = decide_seen n p

  pub repair_seen : (n key : ℕ) → decided_repair (seen line card) n key ≡ on_search card n (seek card n key depth_limit (root_position (get_or card (root_of line) 0)))
  unfolding decided_repair
  repair_seen n key =
      search_seen n _ ∙ ap (on_search card n) (seek_seen n key depth_limit _ ∙ ap (λ (r : ℕ). seek card n key depth_limit (root_position r)) (seen_root line card))
