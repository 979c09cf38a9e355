-- Document 02, W-201, on every card at all: "On a card opening would refuse with 4, it is held only to a pair above the number,
-- "none" or 9."
use mathlib.Core.Path.{◌≡◌, refl}
use mathlib.Core.List.{List}
use Prim.Native.Nat.{ℕ, ◌<◌}
use lib.ListN.{length}
use lib.Dec.{eqb}
use Rattle.card.specs.Header.{card_refusal, nodes_of_length}
use Rattle.card.specs.Layout.{depth_limit, node_at, leaf_pairs}
use Rattle.walk.specs.Descent.{root_position, Way, way_from, way, leaf_of, beside_all}
use Rattle.laws.proofs.Cases.{bool_cases}
use Rattle.walk_next.proofs.SuccessorLaws.{next_only}
use Rattle.walk_next.specs.Successor.{least_above, found, next_in_leaf, in_next_leaf, or_next_leaf, next_along, next_in, next_of}
use Rattle.walk_next.specs.Next.{Successor}
use Rattle.walk_next.specs.Next.{Pair, Nothing, Refused}
use Rattle.theory_next.proofs.IsNext.{IsNext}
use Rattle.theory_next.proofs.LeastAbove.{least_next}
use Rattle.std.specs.Prelude.{Option, Some, None}
use Rattle.walk.specs.declared.Reached.{Reached}

-- a pair is above the number, and a refusal is 9
abbrev pub AboveOrNine : ℕ → Successor → Type 0
AboveOrNine after (Pair key value) = after < key
AboveOrNine after Nothing = Unit
AboveOrNine after (Refused r) = r ≡ 9

next_is_above : (ps : List (ℕ × ℕ)) (after : ℕ) (s : Successor) → IsNext ps after s → AboveOrNine after s
next_is_above ps after (Pair key value) i = i.0
next_is_above ps after Nothing i = tt
next_is_above ps after (Refused r) i = absurd i

module _ (greatest : ℕ) (card : List ℕ) (after : ℕ) where
  in_leaf_above : (w : Option Reached) → AboveOrNine after (next_in_leaf card after w)
  unfolding next_in_leaf
  in_leaf_above None = refl
  in_leaf_above (Some r) =
      let ps = leaf_pairs (node_at card r.node) in
      next_is_above ps after (found (least_above after ps)) (least_next after ps)

  in_next_leaf_above : (n beside : ℕ) → AboveOrNine after (in_next_leaf card n after beside)
  unfolding in_next_leaf
  in_next_leaf_above n beside = bool_cases (eqb beside 0) (λ e. rw e tt) (λ e. rw e (in_leaf_above (leaf_of (way_from card n 0 depth_limit (root_position beside)))))

  or_next_leaf_above : (n : ℕ) (w : Way) (s : Successor) → AboveOrNine after s → AboveOrNine after (or_next_leaf card n after w s)
  unfolding or_next_leaf
  or_next_leaf_above n w (Pair key value) a = a
  or_next_leaf_above n w Nothing a = in_next_leaf_above n (beside_all card after 0 w.inner)
  or_next_leaf_above n w (Refused r) a = a

  -- where 1, 2 and 3 are not due
  pub next_above : card_refusal greatest card ≡ 0 → AboveOrNine after (next_of greatest 1 card after)
  unfolding next_in next_along
  next_above e =
      let n = nodes_of_length greatest (length card) in
      let w = way card n after in
      rw (next_only greatest card after e) (or_next_leaf_above n w (next_in_leaf card after (leaf_of w)) (in_leaf_above (leaf_of w)))
