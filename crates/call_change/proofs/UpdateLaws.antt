-- Laws of the updates: one for each branch of the code.
use mathlib.Core.Path.{◌≡◌, refl, ap, sym, subst, ◌∙◌}
use mathlib.Core.List.{List, [], ◌∷◌}
use mathlib.Core.Option.{Option as Maybe, none, some}
use Prim.Native.Nat.{ℕ, zero, suc, ◌+◌, ◌*◌, ◌^◌, ◌≤◌, ◌<◌}
use native.Mathlib.Omega.{arith}
use lib.ListN.{length, get_or}
use borrow.Author.Tests.{ne_eqb}
use Rattle.card.specs.Header.{Sized}
use Rattle.card.specs.Lines.{seen}
use Rattle.card.proofs.LineLaws.{seen_node, seen_sized}
use Rattle.card.specs.Layout.{depth_limit, greatest_nodes, root_place, node_at, key_words, value_words, children, slot_pairs, leaf_pairs}
use Rattle.card.proofs.NodeLaws.{length_node, length_key_words, length_value_words}
use Rattle.walk.specs.Descent.{first_equal, slot_of, look_at, root_position, child_position, Way, way, run_over, landed_at, landing_of}
use Rattle.walk.proofs.DescentLaws.{Inside, index_le, leaf_inside, inner_inside}
use Rattle.walk.proofs.Along.{along, run_over_le}
use Rattle.laws.proofs.Cases.{impossible}
use Rattle.call_change.specs.Updates.{landing, empty_reason}
use Rattle.walk.specs.declared.Position.{Position}
use Rattle.walk.specs.declared.Look.TheVariants.{Inner as IsInner}
use Rattle.state.specs.declared.Doing.{Doing}
use Rattle.state.specs.declared.Doing.TheVariants.{Inserting}
use Rattle.state.specs.declared.Phase.TheVariants.{InHand}
use Rattle.state.specs.declared.Answer.TheVariants.{Absent}
use Rattle.change_decide.specs.declared.Decision.TheVariants.{Refused as NoStep}
use Rattle.call_change.specs.Decided.{placed, insert_answer, insert_decided, decided_in}
use Rattle.call_change.specs.Results.{Arrives}
use Rattle.call_change.specs.declared.First.{First}
use Rattle.std.specs.Prelude.{Option, Some, None}
use Rattle.walk.proofs.DescentLaws.{landing_at, same_landing}
use Rattle.call_change.specs.declared.Arrival.{Arrival}

-- a leaf without an empty slot has eleven pairs
full_pairs : (ks vs : List ℕ) (a : ℕ) → length ks ≡ length vs → first_equal ks 0 a ≡ None → length (slot_pairs ks vs) ≡ length ks
unfolding first_equal
full_pairs [] vs a l e = refl
full_pairs (k ∷ ks) [] a l e = absurd (omega arith)
full_pairs (zero ∷ ks) (v ∷ vs) a l e = impossible (cc)
full_pairs (suc k ∷ ks) (v ∷ vs) a l e = ap suc (full_pairs ks vs (suc a) (omega arith) (rw (ne_eqb (suc k) 0 (λ z. omega arith)) at e))

pub leaf_full_lem : (leaf : List ℕ) → length leaf ≡ 24 → slot_of leaf 0 ≡ None → length (leaf_pairs leaf) ≡ 11
unfolding slot_of leaf_pairs
leaf_full_lem leaf l e = full_pairs (key_words leaf) (value_words leaf) 0 (length_key_words leaf l ∙ sym (length_value_words leaf l)) e ∙ length_key_words leaf l

-- the link to a leaf is a word of a card
pub record Landed (n m link : ℕ) : Type 0 where
  pub inside : Inside n m
  pub linked : link < 2 ^ 32

-- a landing is at the leaf of the way
pub record LeafOn (w : Way) (card : List ℕ) (m link run : ℕ) : Type 0 where
  pub position : Position
  pub on_way : w.leaf ≡ some position
  pub node_is : position.node ≡ m
  pub link_is : position.link ≡ link
  pub run_is : run_over card 0 w.inner ≡ run

pub leaf_on : (card : List ℕ) (w : Way) (m link run : ℕ) → landing_of card w ≡ landing_at m link run → LeafOn w card m link run
unfolding landing_of landed_at
leaf_on card w m link run e = go w.leaf refl e
  where
    go : (l : Maybe Position) → w.leaf ≡ l → landed_at (run_over card 0 w.inner) l ≡ landing_at m link run → LeafOn w card m link run
    go none f z = impossible (cc)
    go (some p) f z = let same = same_landing _ _ _ _ _ _ z in record { position = p; on_way = f; node_is = same.0; link_is = same.1; run_is = same.2 }

module _ (greatest : ℕ) (card : List ℕ) (n key m link run : ℕ) (fits : Sized greatest (length card) n) where
  child_linked : (q : Position) → q.link < 2 ^ 32 → look_at card n q.node ≡ IsInner → 0 < length (children (node_at card q.node)) → (child_position (node_at card q.node) key q).link < 2 ^ 32
  unfolding child_position
  child_linked q l e h =
      let on = inner_inside card n q.node e in
      let w : length (node_at card q.node) ≡ 24 = length_node card q.node on.one (omega (arith, on.most, fits.words)) in
      omega (arith, on.one, on.most, fits.most, index_le (node_at card q.node) key w)

  pub landed : landing card n key ≡ landing_at m link run → Landed n m link
  unfolding landing way root_position
  landed e =
      let f = leaf_on card (way card n key) m link run e in
      let a = along card n (λ q. q.link < 2 ^ 32) key child_linked depth_limit (root_position (get_or card root_place 0)) (omega arith) in
      let on = a.leaf f.position f.on_way in
      record { inside = rw f.node_is at (leaf_inside card n f.position.node on.1); linked = rw f.link_is at on.0 }

module _ (card : List ℕ) (n key m link run : ℕ) where
  -- the run above a leaf is no longer than the way to it
  pub landed_run : landing card n key ≡ landing_at m link run → run ≤ depth_limit
  unfolding landing way
  landed_run e =
      let f = leaf_on card (way card n key) m link run e in
      let a = along card n (λ q. Unit {0}) key (λ q l z h. tt) depth_limit (root_position (get_or card root_place 0)) tt in
      omega (arith, f.run_is, run_over_le card 0 (way card n key).inner, a.short f.position f.on_way)

-- what is decided where the key is not held, by the lowest empty slot
pub answer_empty : (leaf : List ℕ) (key value m link : ℕ)
    → record { doing = Inserting key value InHand; answer = Absent; decision = placed key value m link (empty_reason (slot_of leaf 0)) }
    ≡ insert_decided key value m link (empty_reason (slot_of leaf 0))
unfolding insert_answer empty_reason
answer_empty leaf key value m link = go (slot_of leaf 0)
  where
    go : (found : Option ℕ) → record { doing = Inserting key value InHand; answer = Absent; decision = placed key value m link (empty_reason found) }
        ≡ insert_decided key value m link (empty_reason found)
    go (Some i) = refl
    go None = refl

abbrev pub arrives_at : ℕ → ℕ → Option Arrival
arrives_at m link = Some (record { node = m; link = link })

-- where an update's key leads to in a line's table, as the code finds it, and what is decided there
module _ (greatest line : ℕ) (card : List ℕ) (n key : ℕ) (a : Option Arrival) (arrives : Arrives a (landing (seen line card) n key)) where
  pub decided_nowhere : (doing : Doing) (at : ℕ → ℕ → List ℕ → First) → a ≡ None
      → record { doing = doing; answer = Absent; decision = NoStep } ≡ decided_in (seen line card) doing at (landing (seen line card) n key)
  unfolding Arrives decided_in
  decided_nowhere doing at e = sym (ap (decided_in (seen line card) doing at) (subst (λ (r : Option Arrival). Arrives r (landing (seen line card) n key)) e arrives))

  module _ (m link : ℕ) (e : a ≡ arrives_at m link) where
    somewhere : (run : ℕ) × (landing (seen line card) n key ≡ landing_at m link run)
    unfolding Arrives
    somewhere = subst (λ (r : Option Arrival). Arrives r (landing (seen line card) n key)) e arrives

    pub decided_there : (doing : Doing) (at : ℕ → ℕ → List ℕ → First) → at m link (node_at card m) ≡ decided_in (seen line card) doing at (landing (seen line card) n key)
    unfolding decided_in
    decided_there doing at = ap (at m link) (sym (seen_node line card m)) ∙ sym (ap (decided_in (seen line card) doing at) somewhere.1)

    -- the leaf is one of the card's nodes
    pub leaf_there : Sized greatest (length card) n → (1 ≤ m) × (m ≤ greatest_nodes) × (8 + 24 * m ≤ length card)
    leaf_there fits =
        let on = (landed greatest (seen line card) n key m link somewhere.0 (seen_sized line card fits) somewhere.1).inside in
        (on.one, omega (arith, on.most, fits.most), omega (arith, on.most, fits.words))

    pub leaf_words : Sized greatest (length card) n → length (node_at card m) ≡ 24
    leaf_words fits = let on = leaf_there fits in length_node card m on.0 on.2
