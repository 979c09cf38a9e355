-- Laws of a find: one for each branch of the code.
use mathlib.Core.Path.{◌≡◌, refl, ap, ◌∙◌}
use mathlib.Core.Bool.{true, false}
use mathlib.Core.List.{List}
use Prim.Native.Nat.{ℕ, ◌≤◌}
use native.Mathlib.Omega.{arith}
use lib.ListN.{length, get_or}
use lib.Dec.{eqb}
use borrow.Author.Tests.{ne_eqb, eq-eqb}
use Rattle.laws.proofs.Cases.{bool_cases}
use Rattle.card.specs.Layout.{depth_limit}
use Rattle.card.specs.Lines.{has_line, root_of, seen}
use Rattle.card.specs.Header.{nodes_of_length, card_refusal}
use Rattle.card.proofs.LineLaws.{seen_node, seen_accepted, line_one}
use Rattle.walk.specs.Descent.{root_position, Way, way_from, way, leaf_of, depth_of}
use Rattle.walk.proofs.Along.{way_depth_le}
use Rattle.walk.proofs.LineWays.{way_seen}
use Rattle.call_find.specs.Find.{found_at, find_in, find_of, depth_in, find_depth}
use Rattle.call_find.specs.Found.{Refused as FoundRefused}
use Rattle.std.specs.Prelude.{Option, Some, None}
use Rattle.walk.specs.declared.Reached.{Reached}

found_seen : (line : ℕ) (card : List ℕ) (key : ℕ) (r : Option Reached) → found_at (seen line card) key r ≡ found_at card key r
unfolding found_at
found_seen line card key None = refl
found_seen line card key (Some r) = rw (seen_node line card r.node)

module _ (greatest line : ℕ) (card : List ℕ) (key : ℕ) where
  -- the way of the key below the line's root
  abbrev pub way_on : Way
  way_on = way_from card (nodes_of_length greatest (length card)) key depth_limit (root_position (get_or card (root_of line) 0))

  pub find_refused : (card_refusal greatest card ≡ 0 → ⊥) → find_of greatest line card key ≡ FoundRefused (card_refusal greatest card)
  unfolding find_of
  find_refused p = simp (ne_eqb (card_refusal greatest card) 0 p)

  pub find_no_line : card_refusal greatest card ≡ 0 → has_line card line ≡ false → find_of greatest line card key ≡ FoundRefused 18
  unfolding find_of
  find_no_line r l = rw (eq-eqb (card_refusal greatest card) 0 r, l)

  pub find_no_key : card_refusal greatest card ≡ 0 → has_line card line ≡ true → key ≡ 0 → find_of greatest line card key ≡ FoundRefused 6
  unfolding find_of find_in
  find_no_key r l z = rw (eq-eqb (card_refusal greatest card) 0 r, l, eq-eqb key 0 z)

  pub find_key : card_refusal greatest card ≡ 0 → has_line card line ≡ true → (key ≡ 0 → ⊥) → find_of greatest line card key ≡ found_at card key (leaf_of way_on)
  unfolding find_of find_in
  find_key r l p =
      rw (eq-eqb (card_refusal greatest card) 0 r, l, ne_eqb key 0 p)
      (found_seen line card key _ ∙ ap (λ (w : Way). found_at card key (leaf_of w)) (way_seen line card (nodes_of_length greatest (length card)) key))

  -- how many internal nodes it passed
  pub depth_refused : (card_refusal greatest card ≡ 0 → ⊥) → find_depth greatest line card key ≡ 0
  unfolding find_depth
  depth_refused p = simp (ne_eqb (card_refusal greatest card) 0 p)

  pub depth_no_line : card_refusal greatest card ≡ 0 → has_line card line ≡ false → find_depth greatest line card key ≡ 0
  unfolding find_depth
  depth_no_line r l = rw (eq-eqb (card_refusal greatest card) 0 r, l)

  pub depth_no_key : card_refusal greatest card ≡ 0 → has_line card line ≡ true → key ≡ 0 → find_depth greatest line card key ≡ 0
  unfolding find_depth depth_in
  depth_no_key r l z = rw (eq-eqb (card_refusal greatest card) 0 r, l, eq-eqb key 0 z)

  pub depth_key : card_refusal greatest card ≡ 0 → has_line card line ≡ true → (key ≡ 0 → ⊥) → find_depth greatest line card key ≡ depth_of (leaf_of way_on)
  unfolding find_depth depth_in
  depth_key r l p =
      rw (eq-eqb (card_refusal greatest card) 0 r, l, ne_eqb key 0 p) (ap (λ (w : Way). depth_of (leaf_of w)) (way_seen line card (nodes_of_length greatest (length card)) key))

  pub find_depth_le : find_depth greatest line card key ≤ depth_limit
  unfolding find_depth depth_in
  find_depth_le =
      bool_cases (eqb (card_refusal greatest card) 0)
      (λ r. bool_cases (has_line card line)
      (λ l. bool_cases (eqb key 0) (λ z. rw (r, l, z) (omega arith)) (λ z. rw (r, l, z) (way_depth_le (seen line card) (nodes_of_length greatest (length card)) key)))
      (λ l. rw (r, l) (omega arith)))
      (λ r. rw r (omega arith))

-- the only line of a card
module _ (greatest : ℕ) (card : List ℕ) (key : ℕ) (r : card_refusal greatest card ≡ 0) (p : key ≡ 0 → ⊥) where
  pub find_only : find_of greatest 1 card key ≡ found_at card key (leaf_of (way card (nodes_of_length greatest (length card)) key))
  unfolding find_of find_in
  find_only = rw (eq-eqb (card_refusal greatest card) 0 r, line_one card, seen_accepted greatest card r, ne_eqb key 0 p)

  pub depth_only : find_depth greatest 1 card key ≡ depth_of (leaf_of (way card (nodes_of_length greatest (length card)) key))
  unfolding find_depth depth_in
  depth_only = rw (eq-eqb (card_refusal greatest card) 0 r, line_one card, seen_accepted greatest card r, ne_eqb key 0 p)
