-- Laws of the next pair: one for each branch of the code.
use mathlib.Core.Path.{◌≡◌, refl, sym, ◌∙◌, ap, ap₂, subst}
use mathlib.Core.Bool.{Bool, true, false, not}
use mathlib.Core.List.{List, ◌∷◌, [], ◌++◌}
use mathlib.Core.Option.{Option as Maybe, none, some}
use Prim.Native.Nat.{ℕ, zero, suc, ◌+◌, ◌≤◌, ◌<◌}
use native.Mathlib.Omega.{arith}
use lib.ListN.{length, get_or}
use borrow.Author.Tests.{lt-ltb, le-ltb, eq-eqb, ne_eqb}
use lib.Dec.{eqb}
use Rattle.card.specs.Lines.{has_line, root_of, seen}
use Rattle.card.specs.Header.{card_refusal, nodes_of_length}
use Rattle.card.specs.Layout.{depth_limit, key_limit, node_at, slot_pairs, leaf_pairs}
use Rattle.card.proofs.LineLaws.{seen_node, seen_accepted, line_one}
use Rattle.card.proofs.NodeLaws.{leaf_from, leaf_start, leaf_next, leaf_end}
use Rattle.laws.specs.Cases.{pick}
use Rattle.laws.proofs.Cases.{order, impossible}
use Rattle.walk.specs.Descent.{slot_of, root_position, Way, way_from, way, leaf_of, depth_of, beside_all}
use Rattle.walk.proofs.Along.{way_depth_le}
use Rattle.walk.proofs.LineWays.{way_from_seen, way_seen, beside_seen}
use Rattle.walk.proofs.DescentLaws.{slot_from, slot_start, slot_here, slot_next}
use Rattle.walk_next.specs.Successor.{IsKey, nearer_key, nearer, nearer_above, least_above, found, next_in_leaf, in_next_leaf, or_next_leaf, next_along, next_in, next_of}
use Rattle.walk_next.specs.Successor.{carried, next_depth}
use Rattle.walk_next.specs.Next.{Successor}
use Rattle.walk_next.specs.Next.{Pair, Nothing, Refused}
use Rattle.std.specs.Prelude.{Option, Some, None, IfSome, is_some, unwrap_or}
use Rattle.walk.proofs.DescentLaws.{leaf_reached}
use Rattle.walk.specs.declared.Reached.{Reached}

-- ---- a slot more

module _ (after : ℕ) (p : ℕ × ℕ) where
  pub nearer_below : (least : Maybe (ℕ × ℕ)) → p.0 ≤ after → nearer_above after p least ≡ least
  unfolding nearer_above
  nearer_below least h = rw (le-ltb after p.0 h)

  pub nearer_first : after < p.0 → nearer_above after p none ≡ some p
  unfolding nearer_above nearer
  nearer_first h = rw (lt-ltb after p.0 h)

  pub nearer_other : (q : ℕ × ℕ) → after < p.0 → q.0 < p.0 → nearer_above after p (some q) ≡ some q
  unfolding nearer_above nearer
  nearer_other q h l = rw (lt-ltb after p.0 h, lt-ltb q.0 p.0 l)

  pub nearer_now : (q : ℕ × ℕ) → after < p.0 → p.0 ≤ q.0 → nearer_above after p (some q) ≡ some p
  unfolding nearer_above nearer
  nearer_now q h l = rw (lt-ltb after p.0 h, le-ltb q.0 p.0 l)

-- ---- the slots from number i on

slot_more : (after k v : ℕ) (rest : List (ℕ × ℕ)) → least_above after (slot_pairs (k ∷ []) (v ∷ []) ++ rest) ≡ nearer_above after (k, v) (least_above after rest)
unfolding least_above
slot_more after zero v rest = sym (nearer_below after (0, v) (least_above after rest) (omega arith))
slot_more after (suc k) v rest = refl

module _ (after : ℕ) (node : List ℕ) (l : length node ≡ 24) where
  pub least_end : (i : ℕ) → i ≡ 11 → least_above after (leaf_from node i) ≡ none
  unfolding least_above
  least_end i e = ap (least_above after) (leaf_end node l i (omega arith))

  pub least_slot : (i : ℕ) → i < 11 → least_above after (leaf_from node i) ≡ nearer_above after (get_or node (1 + i) 0, get_or node (12 + i) 0) (least_above after (leaf_from node (i + 1)))
  least_slot i h = ap (least_above after) (leaf_next node l i h) ∙ slot_more after (get_or node (1 + i) 0) (get_or node (12 + i) 0) (leaf_from node (i + 1))

-- ---- its key

pub key_le : (o : Maybe (ℕ × ℕ)) (r : ℕ) → IsKey o r → r ≤ key_limit
key_le none r h = omega arith
key_le (some q) r h = omega (arith, h.1)

pub key_none : (o : Maybe (ℕ × ℕ)) (r : ℕ) → IsKey o r → r ≡ key_limit → o ≡ none
key_none none r h e = refl
key_none (some q) r h e = absurd (omega (arith, h.1))

pub key_some : (o : Maybe (ℕ × ℕ)) (r : ℕ) → IsKey o r → (r ≡ key_limit → ⊥) → (v : ℕ) × (o ≡ some (r, v))
key_some none r h p = absurd (p h)
key_some (some q) r h p = (q.1, ap (λ (k : ℕ). some (k, q.1)) (sym h.0))

module _ (after k least : ℕ) where
  pub key_below : k ≤ after → nearer_key after k least ≡ least
  unfolding nearer_key
  key_below h = rw (le-ltb after k h)

  pub key_other : after < k → least < k → nearer_key after k least ≡ least
  unfolding nearer_key
  key_other h l = rw (lt-ltb after k h, lt-ltb least k l)

  pub key_now : after < k → k ≤ least → nearer_key after k least ≡ k
  unfolding nearer_key
  key_now h l = rw (lt-ltb after k h, le-ltb least k l)

-- a slot more
module _ (after k v : ℕ) (word : k < key_limit) where
  pub key_nearer : (o : Maybe (ℕ × ℕ)) (least : ℕ) → IsKey o least → IsKey (nearer_above after (k, v) o) (nearer_key after k least)
  key_nearer o least h = order after k (λ l. above o h l) (λ l. subst (λ (x : Maybe (ℕ × ℕ)). IsKey x (nearer_key after k least)) (sym (nearer_below after (k, v) o l))
      (subst (IsKey o) (sym (key_below after k least l)) h))
    where
      now : (p : Maybe (ℕ × ℕ)) → nearer_above after (k, v) p ≡ some (k, v) → after < k → k ≤ least → IsKey (nearer_above after (k, v) p) (nearer_key after k least)
      now p e l s = subst (λ (x : Maybe (ℕ × ℕ)). IsKey x (nearer_key after k least)) (sym e) (key_now after k least l s, omega (arith, key_now after k least l s))

      above : (p : Maybe (ℕ × ℕ)) → IsKey p least → after < k → IsKey (nearer_above after (k, v) p) (nearer_key after k least)
      above none g l = now none (nearer_first after (k, v) l) l (omega arith)
      above (some q) g l =
          order least k
          (λ s. subst (λ (x : Maybe (ℕ × ℕ)). IsKey x (nearer_key after k least)) (sym (nearer_other after (k, v) q l (omega (arith, g.0))))
          (key_other after k least l s ∙ g.0, omega (arith, key_other after k least l s, g.1)))
          (λ s. now (some q) (nearer_now after (k, v) q l (omega (arith, g.0))) l s)

-- ---- the slot of the pair: the first one with its key

abbrev SlotHeld : List ℕ → ℕ → ℕ → Maybe (ℕ × ℕ) → Type 0
SlotHeld node after i none = Unit {0}
SlotHeld node after i (some q) = (after < q.0) × (s : ℕ) × (slot_from node q.0 i ≡ Some s) × (q.1 ≡ get_or node (12 + s) 0)

module _ (node : List ℕ) (len : length node ≡ 24) (after i : ℕ) (below : i < 11) where
  slot_kept : (q : ℕ × ℕ) → SlotHeld node after (i + 1) (some q) → (get_or node (1 + i) 0 ≡ q.0 → ⊥) → SlotHeld node after i (some q)
  slot_kept q h other = (h.0, h.1, slot_next node len q.0 i below other ∙ h.2, h.3)

  slot_now : after < get_or node (1 + i) 0 → SlotHeld node after i (some (get_or node (1 + i) 0, get_or node (12 + i) 0))
  slot_now l = (l, i, slot_here node len (get_or node (1 + i) 0) i below refl, refl)

  slot_step : (o : Maybe (ℕ × ℕ)) → SlotHeld node after (i + 1) o → SlotHeld node after i (nearer_above after (get_or node (1 + i) 0, get_or node (12 + i) 0) o)
  slot_step none h =
      order after (get_or node (1 + i) 0) (λ l. subst (SlotHeld node after i) (sym (nearer_first after _ l)) (slot_now l))
      (λ l. subst (SlotHeld node after i) (sym (nearer_below after _ none l)) tt)
  slot_step (some q) h =
      order after (get_or node (1 + i) 0)
      (λ l. order q.0 (get_or node (1 + i) 0)
      (λ s. subst (SlotHeld node after i) (sym (nearer_other after _ q l s)) (slot_kept q h (λ e. omega arith)))
      (λ s. subst (SlotHeld node after i) (sym (nearer_now after _ q l s)) (slot_now l)))
      (λ l. subst (SlotHeld node after i) (sym (nearer_below after _ (some q) l)) (slot_kept q h (λ e. omega (arith, h.0))))

slots_held : (node : List ℕ) → length node ≡ 24 → (after j i : ℕ) → i + j ≡ 11 → SlotHeld node after i (least_above after (leaf_from node i))
slots_held node len after zero i e = subst (SlotHeld node after i) (sym (least_end after node len i (omega arith))) tt
slots_held node len after (suc j) i e =
    subst (SlotHeld node after i) (sym (least_slot after node len i (omega arith)))
    (slot_step node len after i (omega arith) (least_above after (leaf_from node (i + 1))) (slots_held node len after j (i + 1) (omega arith)))

pub least_at : (node : List ℕ) → length node ≡ 24 → (after k v i : ℕ) → least_above after (leaf_pairs node) ≡ some (k, v) → slot_of node k ≡ Some i → v ≡ get_or node (12 + i) 0
least_at node len after k v i e at =
    let h = subst (SlotHeld node after 0) (ap (least_above after) (leaf_start node) ∙ e) (slots_held node len after 11 0 refl) in
    h.3 ∙ ap (λ (x : ℕ). get_or node (12 + x) 0) (same_slot (sym h.2 ∙ sym (slot_start node k) ∙ at))
  where
    same_slot : {a b : ℕ} → Some a ≡ Some b → a ≡ b
    same_slot q = cc

pub least_found : (node : List ℕ) → length node ≡ 24 → (after k v : ℕ) → least_above after (leaf_pairs node) ≡ some (k, v) → slot_of node k ≡ None → ⊥
least_found node len after k v e absent =
    let h = subst (SlotHeld node after 0) (ap (least_above after) (leaf_start node) ∙ e) (slots_held node len after 11 0 refl) in
    let z = sym h.2 ∙ sym (slot_start node k) ∙ absent in impossible (cc)

-- ---- the call

module _ (card : List ℕ) (n after beside : ℕ) where
  pub next_none : beside ≡ 0 → in_next_leaf card n after beside ≡ Nothing
  unfolding in_next_leaf
  next_none e = rw (eq-eqb beside 0 e)

  pub next_there : (beside ≡ 0 → ⊥) → in_next_leaf card n after beside ≡ next_in_leaf card after (leaf_of (way_from card n 0 depth_limit (root_position beside)))
  unfolding in_next_leaf
  next_there h = rw (ne_eqb beside 0 h)

-- in the leaf that a way ends at
module _ (card : List ℕ) (after : ℕ) (w : Way) where
  pub in_no_leaf : leaf_of w ≡ None → next_in_leaf card after (leaf_of w) ≡ Refused 9
  unfolding next_in_leaf
  in_no_leaf e = ap (next_in_leaf card after) e

  pub in_leaf : (m depth : ℕ) → leaf_of w ≡ leaf_reached m depth → (o : Maybe (ℕ × ℕ)) → least_above after (leaf_pairs (node_at card m)) ≡ o
      → next_in_leaf card after (leaf_of w) ≡ found o
  unfolding next_in_leaf
  in_leaf m depth e o q = ap (next_in_leaf card after) e ∙ ap found q

-- the second round, and the first, by a flag that says whether it is the number's own
pub second_round : (own : Bool) → not own ≡ true → own ≡ false
second_round true e = impossible (cc)
second_round false e = refl

pub first_round : (own : Bool) → not own ≡ false → own ≡ true
first_round true e = refl
first_round false e = impossible (cc)

-- what a leaf's answer comes to in the round of the number's own leaf, and in the second one
unfoldable pub in_round : Option ℕ → List ℕ → ℕ → ℕ → Way → Successor → Successor
in_round None card n after w s = or_next_leaf card n after w s
in_round (Some depth) card n after w s = s

module _ (card : List ℕ) (n after : ℕ) (w : Way) where
  pub round_first : next_along card n after w ≡ in_round None card n after w (next_in_leaf card after (leaf_of w))
  unfolding in_round next_along
  round_first = refl

  pub round_refused : (own : Option ℕ) (r : ℕ) → in_round own card n after w (Refused r) ≡ Refused r
  unfolding in_round or_next_leaf
  round_refused None r = refl
  round_refused (Some depth) r = refl

  pub round_pair : (own : Option ℕ) (k v : ℕ) → in_round own card n after w (Pair k v) ≡ Pair k v
  unfolding in_round or_next_leaf
  round_pair None k v = refl
  round_pair (Some depth) k v = refl

  pub round_last : (own : Option ℕ) → is_some own ≡ true → in_round own card n after w Nothing ≡ Nothing
  unfolding in_round
  round_last None e = impossible (cc)
  round_last (Some depth) e = refl

  pub round_on : (own : Option ℕ) → is_some own ≡ false → in_round own card n after w Nothing ≡ in_next_leaf card n after (beside_all card after 0 w.inner)
  unfolding in_round or_next_leaf
  round_on None e = refl
  round_on (Some depth) e = impossible (cc)

in_leaf_seen : (line : ℕ) (card : List ℕ) (after : ℕ) (r : Option Reached) → next_in_leaf (seen line card) after r ≡ next_in_leaf card after r
unfolding next_in_leaf
in_leaf_seen line card after None = refl
in_leaf_seen line card after (Some r) = rw (seen_node line card r.node)

in_next_seen : (line : ℕ) (card : List ℕ) (n after beside : ℕ) → in_next_leaf (seen line card) n after beside ≡ in_next_leaf card n after beside
unfolding in_next_leaf
in_next_seen line card n after beside =
    ap (λ (s : Successor). pick (eqb beside 0) Nothing s)
    (in_leaf_seen line card after _ ∙ ap (λ (w : Way). next_in_leaf card after (leaf_of w)) (way_from_seen line card n 0 depth_limit (root_position beside)))

or_next_seen : (line : ℕ) (card : List ℕ) (n after : ℕ) (w : Way) (s : Successor) → or_next_leaf (seen line card) n after w s ≡ or_next_leaf card n after w s
unfolding or_next_leaf
or_next_seen line card n after w Nothing = in_next_seen line card n after _ ∙ ap (in_next_leaf card n after) (beside_seen line card n after 0 w.inner)
or_next_seen line card n after w (Pair key value) = refl
or_next_seen line card n after w (Refused r) = refl

-- a line's answer is the card's from the line's root
next_seen : (line : ℕ) (card : List ℕ) (n after : ℕ) → next_in (seen line card) n after ≡ next_along card n after (way_from card n after depth_limit (root_position (get_or card (root_of line) 0)))
unfolding next_in next_along
next_seen line card n after =
    or_next_seen line card n after _ _
    ∙ ap (or_next_leaf card n after (way (seen line card) n after)) (in_leaf_seen line card after _)
    ∙ ap (λ (w : Way). or_next_leaf card n after w (next_in_leaf card after (leaf_of w))) (way_seen line card n after)

module _ (greatest line : ℕ) (card : List ℕ) (after : ℕ) where
  pub next_refused : (card_refusal greatest card ≡ 0 → ⊥) → next_of greatest line card after ≡ Refused (card_refusal greatest card)
  unfolding next_of
  next_refused h = rw (ne_eqb (card_refusal greatest card) 0 h)

  pub next_no_line : card_refusal greatest card ≡ 0 → has_line card line ≡ false → next_of greatest line card after ≡ Refused 18
  unfolding next_of
  next_no_line e l = rw (eq-eqb (card_refusal greatest card) 0 e, l)

  -- on the line's table
  pub next_taken : card_refusal greatest card ≡ 0 → has_line card line ≡ true → next_of greatest line card after ≡ next_in (seen line card) (nodes_of_length greatest (length card)) after
  unfolding next_of
  next_taken e l = rw (eq-eqb (card_refusal greatest card) 0 e, l)

  -- and on the card, from the line's root
  abbrev pub way_on : Way
  way_on = way_from card (nodes_of_length greatest (length card)) after depth_limit (root_position (get_or card (root_of line) 0))

  pub next_along_lem : card_refusal greatest card ≡ 0 → has_line card line ≡ true → next_of greatest line card after ≡ next_along card (nodes_of_length greatest (length card)) after way_on
  next_along_lem e l = next_taken e l ∙ next_seen line card (nodes_of_length greatest (length card)) after

  pub depth_along : next_depth greatest line card after ≡ carried (depth_of (leaf_of way_on)) (next_of greatest line card after)
  unfolding next_depth
  depth_along = ap (λ (w : Way). carried (depth_of (leaf_of w)) (next_of greatest line card after)) (way_seen line card (nodes_of_length greatest (length card)) after)

-- the only line of a card
pub next_only : (greatest : ℕ) (card : List ℕ) (after : ℕ) → card_refusal greatest card ≡ 0 → next_of greatest 1 card after ≡ next_in card (nodes_of_length greatest (length card)) after
next_only greatest card after e = next_taken greatest 1 card after e (line_one card) ∙ ap (λ (c : List ℕ). next_in c (nodes_of_length greatest (length card)) after) (seen_accepted greatest card e)

pub depth_only : (greatest : ℕ) (card : List ℕ) (after : ℕ) → card_refusal greatest card ≡ 0
    → next_depth greatest 1 card after ≡ carried (depth_of (leaf_of (way card (nodes_of_length greatest (length card)) after))) (next_of greatest 1 card after)
unfolding next_depth
depth_only greatest card after e =
    ap (λ (c : List ℕ). carried (depth_of (leaf_of (way c (nodes_of_length greatest (length card)) after))) (next_of greatest 1 card after)) (seen_accepted greatest card e)

-- ---- how many internal nodes the number's own way passes

carried_le : (depth most : ℕ) (s : Successor) → depth ≤ most → carried depth s ≤ most
unfolding carried
carried_le depth most (Pair key value) h = h
carried_le depth most Nothing h = h
carried_le depth most (Refused r) h = omega arith

pub next_depth_le : (greatest line : ℕ) (card : List ℕ) (after : ℕ) → next_depth greatest line card after ≤ depth_limit
unfolding next_depth
next_depth_le greatest line card after = carried_le _ depth_limit (next_of greatest line card after) (way_depth_le (seen line card) (nodes_of_length greatest (length card)) after)

-- what is told of it in the first round and kept in the second
pub own_depth : (card : List ℕ) (n after root key from depth : ℕ) (own : Option ℕ)
    → (is_some own ≡ false → (from ≡ root) × (key ≡ after)) → IfSome own (λ (d : ℕ). d ≡ depth_of (leaf_of (way_from card n after depth_limit (root_position root))))
    → (m : ℕ) → leaf_of (way_from card n key depth_limit (root_position from)) ≡ leaf_reached m depth
    → unwrap_or own depth ≡ depth_of (leaf_of (way_from card n after depth_limit (root_position root)))
unfolding depth_of
own_depth card n after root key from depth None at kept m e =
    ap depth_of (sym e) ∙ ap₂ (λ (k r : ℕ). depth_of (leaf_of (way_from card n k depth_limit (root_position r)))) (at refl).1 (at refl).0
own_depth card n after root key from depth (Some first) at kept m e = kept
