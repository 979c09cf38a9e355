-- A line's way down is the card's from the line's root: the walk reads nothing of the header.
use mathlib.Core.Path.{◌≡◌, refl, ap, ap₂, ◌∙◌}
use mathlib.Core.List.{List, [], ◌∷◌}
use Prim.Native.Nat.{ℕ, zero, suc}
use lib.ListN.{length, get_or}
use lib.Dec.{eqb}
use Rattle.laws.specs.Cases.{pick}
use Rattle.card.specs.Layout.{root_place, depth_limit, node_at, children, run_below}
use Rattle.card.specs.Lines.{root_of, seen}
use Rattle.card.proofs.LineLaws.{seen_node, seen_root}
use Rattle.walk.specs.Descent.{look_at, root_position, child_position, Way, nowhere, past, by_look, way_from, way, run_over, beside_all, beside_after, child_index}
use Rattle.walk.specs.declared.Position.{Position}
use Rattle.walk.specs.declared.Look.{Look}
use Rattle.walk.specs.declared.Look.TheVariants.{Nowhere, Leaf as IsLeaf, Inner as IsInner}

by_look_same : (node : List ℕ) (key : ℕ) (p : Position) (next other : Position → Way) (look : Look) → ((q : Position) → next q ≡ other q) → by_look node key p next look ≡ by_look node key p other look
unfolding by_look
by_look_same node key p next other Nowhere h = refl
by_look_same node key p next other IsLeaf h = refl
by_look_same node key p next other IsInner h = ap (λ (w : Way). past p (pick (eqb (length (children node)) 0) nowhere w)) (h (child_position node key p))

module _ (line : ℕ) (card : List ℕ) (n : ℕ) where
  look_seen : (m : ℕ) → look_at (seen line card) n m ≡ look_at card n m
  unfolding look_at
  look_seen m = rw (seen_node line card m)

  pub way_from_seen : (key levels : ℕ) (p : Position) → way_from (seen line card) n key levels p ≡ way_from card n key levels p
  unfolding way_from
  way_from_seen key zero p = rw (seen_node line card p.node, look_seen p.node)
  way_from_seen key (suc levels) p =
      by_look_same (node_at (seen line card) p.node) key p (way_from (seen line card) n key levels) (way_from card n key levels) (look_at (seen line card) n p.node) (way_from_seen key levels)
      ∙ ap₂ (λ (node : List ℕ) (look : Look). by_look node key p (way_from card n key levels) look) (seen_node line card p.node) (look_seen p.node)

  pub way_seen : (key : ℕ) → way (seen line card) n key ≡ way_from card n key depth_limit (root_position (get_or card (root_of line) 0))
  unfolding way
  way_seen key = way_from_seen key depth_limit (root_position (get_or (seen line card) root_place 0)) ∙ ap (λ (r : ℕ). way_from card n key depth_limit (root_position r)) (seen_root line card)

  pub run_seen : (run : ℕ) (ps : List Position) → run_over (seen line card) run ps ≡ run_over card run ps
  unfolding run_over
  run_seen run [] = refl
  run_seen run (p ∷ ps) = rw (seen_node line card p.node) (run_seen (run_below (length (children (node_at card p.node))) run) ps)

  pub beside_seen : (key beside : ℕ) (ps : List Position) → beside_all (seen line card) key beside ps ≡ beside_all card key beside ps
  unfolding beside_all
  beside_seen key beside [] = refl
  beside_seen key beside (p ∷ ps) = rw (seen_node line card p.node) (beside_seen key (beside_after (node_at card p.node) (child_index (node_at card p.node) key) beside) ps)
