-- Laws of the starts: one for each branch of the code.
use mathlib.Core.Path.{◌≡◌, refl, ap, ap₂, sym, subst, ◌∙◌}
use mathlib.Core.List.{List}
use mathlib.Core.Bool.{Bool, true, false, not}
use mathlib.Core.Logic.{by_cases}
use mathlib.Core.Option.{none}
use Prim.Native.Nat.{ℕ, ◌-◌, ◌≤◌, ◌<◌}
use native.Mathlib.Omega.{arith}
use native.Mathlib.Decide.{ℕ_discrete}
use lib.ListN.{length, set}
use lib.Dec.{ltb, leb, eqb}
use borrow.Author.Tests.{lt-ltb, le-ltb, le-leb, lt-leb, eqb-true, eqb-false, ne_eqb, eq-eqb}
use Rattle.card.specs.Header.{nodes_of_length, header_refusal, Sized}
use Rattle.card.specs.Layout.{depth_limit, formatted_root}
use Rattle.card.proofs.HeaderLaws.{nodes_sized, sized_nodes}
use Rattle.card.specs.Lines.{IsLine, has_line, seen}
use Rattle.card.proofs.LineLaws.{has_is, seen_node}
use Rattle.walk.specs.Descent.{slot_of, Way, reached_at, leaf_of, depth_of}
use Rattle.walk.proofs.Along.{way_depth_le}
use Rattle.card_family.specs.Families.{no_totals}
use Rattle.card_free.specs.NodeSet.{all_nodes}
use Rattle.laws.proofs.Cases.{bool_cases, order, impossible}
use Rattle.laws.specs.Cases.{pick}
use Rattle.state.specs.Steps.{Handed, is_idle, no_beginning}
use Rattle.call_start.specs.Starts.{format_of, start_refused, start_accepted, start_depth, start_landed, start_checked, start_of}
use Rattle.state.specs.Memory.{Memory, resting}
use Rattle.call_start.specs.Refusals.{start_refusal, early_refusal, landing_refusal, due_refusal, due_depth, begun_by}
use Rattle.call_change.specs.Updates.{landing, empty_reason, reason_in, insert_reason, split_need, room_for, start_room}
use Rattle.state.specs.Block.{depth_at, state_words, memory_in}
use Rattle.state.specs.Blocks.{begun_block, started_block}
use Rattle.state.specs.Clauses.{StartCall}
use Rattle.state.proofs.Blocks.{with_doing, memory_begun, with_depth, memory_deep, begun_length}
use Rattle.state.specs.declared.Doing.{Doing}
use Rattle.state.specs.declared.Doing.TheVariants.{Formatting}
use Rattle.state.specs.Begun.{Begun}
use Rattle.state.specs.Begun.{Started, Refused as BegunRefused}
use Rattle.std.specs.Prelude.{Option, Some, None, is_some}
use Rattle.walk.specs.declared.Landing.{Landing}

-- "1: length not 8 + 24 × N, N 4 to 600; or N not the state's"
pub start_unsized : (greatest line : ℕ) (card : List ℕ) (nodes : ℕ) (idle : Bool) (key : ℕ) → (Sized greatest (length card) nodes → ⊥) → start_refusal greatest line card nodes idle key ≡ 1
unfolding start_refusal
start_unsized greatest line card nodes idle key p =
    bool_cases (eqb (nodes_of_length greatest (length card)) 0) (λ y. rw y refl)
    (λ n. bool_cases (eqb (nodes_of_length greatest (length card)) nodes)
    (λ y. absurd (p (subst (Sized greatest (length card)) (eqb-true _ _ y) (nodes_sized greatest (length card) (eqb-false _ _ n)))))
    (λ z. rw (n, z) refl))

-- the refusals of starting an update on a card of the state's N nodes
module _ (greatest line : ℕ) (card : List ℕ) (nodes : ℕ) (idle : Bool) (key : ℕ) (size : Sized greatest (length card) nodes) where
  length_is : nodes_of_length greatest (length card) ≡ nodes
  length_is = sized_nodes greatest (length card) nodes size

  length_some : nodes_of_length greatest (length card) ≡ 0 → ⊥
  length_some z = omega (arith, size.least, length_is)

  after_length : start_refusal greatest line card nodes idle key
      ≡ pick (eqb (header_refusal card nodes) 0) (pick idle (pick (has_line card line) (pick (eqb key 0) 6 0) 18) 7) (header_refusal card nodes)
  unfolding start_refusal
  after_length = simp (ne_eqb (nodes_of_length greatest (length card)) 0 length_some, eq-eqb (nodes_of_length greatest (length card)) nodes length_is)

  pub start_header : (h : ℕ) → h ≡ header_refusal card nodes → (h ≡ 0 → ⊥) → start_refusal greatest line card nodes idle key ≡ h
  start_header h g w = after_length ∙ rw (ne_eqb (header_refusal card nodes) 0 (λ z. w (g ∙ z))) (sym g)

  module _ (w : header_refusal card nodes ≡ 0) where
    after_header : start_refusal greatest line card nodes idle key ≡ pick idle (pick (has_line card line) (pick (eqb key 0) 6 0) 18) 7
    after_header = after_length ∙ rw (eq-eqb (header_refusal card nodes) 0 w) refl

    pub start_busy : idle ≡ false → start_refusal greatest line card nodes idle key ≡ 7
    start_busy b = after_header ∙ rw b refl

    pub start_no_line : idle ≡ true → has_line card line ≡ false → start_refusal greatest line card nodes idle key ≡ 18
    start_no_line b h = after_header ∙ rw (b, h) refl

    pub start_no_key : idle ≡ true → has_line card line ≡ true → key ≡ 0 → start_refusal greatest line card nodes idle key ≡ 6
    start_no_key b h k = after_header ∙ rw (b, h, eq-eqb key 0 k) refl

    pub start_none : idle ≡ true → has_line card line ≡ true → (key ≡ 0 → ⊥) → start_refusal greatest line card nodes idle key ≡ 0
    start_none b h k = after_header ∙ rw (b, h, ne_eqb key 0 k) refl

-- the same six tests decide what starting an update hands back
chain_refused : (a b c d l e : Bool) (h : ℕ) (m : Memory) (x : Handed) → (pick a 1 (pick b (pick c (pick d (pick l (pick e 6 0) 18) 7) h) 1) ≡ 0 → ⊥)
    → pick a (start_refused 1 m) (pick b (pick c (pick d (pick l (pick e (start_refused 6 m) x) (start_refused 18 m)) (start_refused 7 m)) (start_refused h m)) (start_refused 1 m))
    ≡ start_refused (pick a 1 (pick b (pick c (pick d (pick l (pick e 6 0) 18) 7) h) 1)) m
chain_refused true b c d l e h m x p = refl
chain_refused false false c d l e h m x p = refl
chain_refused false true false d l e h m x p = refl
chain_refused false true true false l e h m x p = refl
chain_refused false true true true false e h m x p = refl
chain_refused false true true true true true h m x p = refl
chain_refused false true true true true false h m x p = absurd (p refl)

chain_taken : (a b c d l e : Bool) (h : ℕ) (m : Memory) (x : Handed) → (c ≡ false → h ≡ 0 → ⊥) → pick a 1 (pick b (pick c (pick d (pick l (pick e 6 0) 18) 7) h) 1) ≡ 0
    → pick a (start_refused 1 m) (pick b (pick c (pick d (pick l (pick e (start_refused 6 m) x) (start_refused 18 m)) (start_refused 7 m)) (start_refused h m)) (start_refused 1 m)) ≡ x
chain_taken true b c d l e h m x p q = absurd (omega arith)
chain_taken false false c d l e h m x p q = absurd (omega arith)
chain_taken false true false d l e h m x p q = absurd (p refl q)
chain_taken false true true false l e h m x p q = absurd (omega arith)
chain_taken false true true true false e h m x p q = absurd (omega arith)
chain_taken false true true true true true h m x p q = absurd (omega arith)
chain_taken false true true true true false h m x p q = refl

-- an update that is not refused early has its line
chain_line : (a b c d l e : Bool) (h : ℕ) → (c ≡ false → h ≡ 0 → ⊥) → pick a 1 (pick b (pick c (pick d (pick l (pick e 6 0) 18) 7) h) 1) ≡ 0 → l ≡ true
chain_line true b c d l e h p q = absurd (omega arith)
chain_line false false c d l e h p q = absurd (omega arith)
chain_line false true false d l e h p q = absurd (p refl q)
chain_line false true true false l e h p q = absurd (omega arith)
chain_line false true true true false e h p q = absurd (omega arith)
chain_line false true true true true e h p q = refl

module _ (greatest line : ℕ) (card : List ℕ) (m : Memory) (key : ℕ) where
  pub depth_early : (early_refusal greatest line card m key ≡ 0 → ⊥) → due_depth greatest line card m key ≡ 0
  depth_early p = rw (ne_eqb (early_refusal greatest line card m key) 0 p) refl

  pub depth_landing : early_refusal greatest line card m key ≡ 0 → due_depth greatest line card m key ≡ start_depth line card m key
  depth_landing z = rw (eq-eqb (early_refusal greatest line card m key) 0 z) refl

-- "more than 10 internal nodes" are refused
pub depth_bound : (greatest line : ℕ) (card : List ℕ) (m : Memory) (key : ℕ) → due_depth greatest line card m key ≤ depth_limit
depth_bound greatest line card m key =
    bool_cases (eqb (early_refusal greatest line card m key) 0) (λ q. rw q (way_depth_le (seen line card) m.nodes key)) (λ q. rw q (omega arith))

-- a way that is refused tells none
pub no_depth : (w : Way) → w.leaf ≡ none → depth_of (leaf_of w) ≡ 0
unfolding depth_of leaf_of reached_at
no_depth w e = rw e refl

module _ (greatest line : ℕ) (card : List ℕ) (m : Memory) (key : ℕ) (room : Option Landing → Bool) where
  abbrev there : Option Landing
  there = landing (seen line card) m.nodes key

  pub due_early : (early_refusal greatest line card m key ≡ 0 → ⊥) → due_refusal greatest line card m key room ≡ early_refusal greatest line card m key
  due_early p = rw (ne_eqb (early_refusal greatest line card m key) 0 p) refl

  pub due_landing : early_refusal greatest line card m key ≡ 0 → due_refusal greatest line card m key room ≡ landing_refusal (room there) there
  due_landing z = rw (eq-eqb (early_refusal greatest line card m key) 0 z) refl

landed_due : (m : Memory) (doing : Doing) (depth : ℕ) (room : Bool) (l : Option Landing) → start_landed m doing depth room l ≡ begun_by (landing_refusal room l) depth m doing
unfolding start_landed landing_refusal
landed_due m doing depth room None = refl
landed_due m doing depth true (Some l) = refl
landed_due m doing depth false (Some l) = refl

module _ (greatest line : ℕ) (card : List ℕ) (m : Memory) (key : ℕ) (doing : Doing) (room : Option Landing → Bool) where
  start_refused_lem : (early_refusal greatest line card m key ≡ 0 → ⊥) → start_of greatest line card m key doing room ≡ start_refused (early_refusal greatest line card m key) m
  unfolding start_refusal start_of start_checked
  start_refused_lem p =
      chain_refused (eqb (nodes_of_length greatest (length card)) 0) (eqb (nodes_of_length greatest (length card)) m.nodes)
      (eqb (header_refusal card m.nodes) 0) (is_idle m.doing) (has_line card line) (eqb key 0) (header_refusal card m.nodes) m _ p

  start_taken : early_refusal greatest line card m key ≡ 0
      → start_of greatest line card m key doing room ≡ start_landed m doing (start_depth line card m key) (room (there greatest line card m key room)) (there greatest line card m key room)
  unfolding start_refusal start_of start_checked
  start_taken q =
      chain_taken (eqb (nodes_of_length greatest (length card)) 0) (eqb (nodes_of_length greatest (length card)) m.nodes)
      (eqb (header_refusal card m.nodes) 0) (is_idle m.doing) (has_line card line) (eqb key 0) (header_refusal card m.nodes) m _
      (λ c z. eqb-false (header_refusal card m.nodes) 0 c z) q

  -- the refusal due decides what is handed back
  pub start_due : start_of greatest line card m key doing room ≡ begun_by (due_refusal greatest line card m key room) (due_depth greatest line card m key) m doing
  start_due =
      by_cases (ℕ_discrete (early_refusal greatest line card m key) 0)
      (λ z. start_taken z ∙ landed_due m doing _ (room (there greatest line card m key room)) (there greatest line card m key room)
      ∙ sym (ap₂ (λ (r depth : ℕ). begun_by r depth m doing) (due_landing greatest line card m key room z) (depth_landing greatest line card m key z)))
      (λ p. start_refused_lem p ∙ sym (ap (λ (r : ℕ). begun_by r (due_depth greatest line card m key) m doing) (due_early greatest line card m key room p)
      ∙ ap (λ (b : Bool). pick b (start_accepted m doing (due_depth greatest line card m key)) (start_refused (early_refusal greatest line card m key) m))
      (ne_eqb (early_refusal greatest line card m key) 0 p)))

pub start_sized : (greatest line : ℕ) (card : List ℕ) (nodes : ℕ) (idle : Bool) (key : ℕ) → start_refusal greatest line card nodes idle key ≡ 0 → Sized greatest (length card) nodes
start_sized greatest line card nodes idle key r =
    by_cases (ℕ_discrete (nodes_of_length greatest (length card)) nodes)
    (λ q. by_cases (ℕ_discrete (nodes_of_length greatest (length card)) 0) (λ z. refused_else (λ s. omega (arith, s.least, q, z)))
    (λ p. subst (Sized greatest (length card)) q (nodes_sized greatest (length card) p)))
    (λ q. refused_else (λ s. q (sized_nodes greatest (length card) nodes s)))
  where
    refused_else : (Sized greatest (length card) nodes → ⊥) → Sized greatest (length card) nodes
    refused_else p = let w = sym (start_unsized greatest line card nodes idle key p) ∙ r in absurd (omega arith)

pub start_lined : (greatest line : ℕ) (card : List ℕ) (nodes : ℕ) (idle : Bool) (key : ℕ) → start_refusal greatest line card nodes idle key ≡ 0 → IsLine line
unfolding start_refusal
start_lined greatest line card nodes idle key r =
    has_is card line
    (chain_line (eqb (nodes_of_length greatest (length card)) 0) (eqb (nodes_of_length greatest (length card)) nodes)
    (eqb (header_refusal card nodes) 0) idle (has_line card line) (eqb key 0) (header_refusal card nodes) (λ c z. eqb-false (header_refusal card nodes) 0 c z) r)

-- room for an insert: what a line's leaf has is what the card's has
pub room_seen : (line : ℕ) (card : List ℕ) (key room : ℕ) (l : Option Landing) → start_room (seen line card) key room l ≡ start_room card key room l
unfolding start_room
room_seen line card key room None = refl
room_seen line card key room (Some l) = ap (λ (leaf : List ℕ). room_for room l.run (insert_reason leaf key)) (seen_node line card l.node)

held_slot : (leaf : List ℕ) (run : ℕ) (room : ℕ) (t : Option ℕ) → is_some t ≡ true → room_for room run (reason_in leaf t) ≡ true
unfolding room_for reason_in
held_slot leaf run room (Some i) h = refl
held_slot leaf run room None h = impossible (cc)

pub absent_reason : (leaf : List ℕ) (t : Option ℕ) → is_some t ≡ false → reason_in leaf t ≡ empty_reason (slot_of leaf 0)
unfolding reason_in
absent_reason leaf (Some i) h = impossible (cc)
absent_reason leaf None h = refl

empty_slot : (run : ℕ) (room : ℕ) (t : Option ℕ) → is_some t ≡ true → room_for room run (empty_reason t) ≡ true
unfolding room_for empty_reason
empty_slot run room (Some i) h = refl
empty_slot run room None h = impossible (cc)

full_slot : (run : ℕ) (room : ℕ) (t : Option ℕ) → is_some t ≡ false → room_for room run (empty_reason t) ≡ not (ltb room (split_need run))
unfolding room_for empty_reason
full_slot run room (Some i) h = impossible (cc)
full_slot run room None h = refl

module _ (leaf : List ℕ) (key run : ℕ) (room : ℕ) where
  pub room_held : is_some (slot_of leaf key) ≡ true → room_for room run (insert_reason leaf key) ≡ true
  unfolding insert_reason
  room_held e = held_slot leaf run room (slot_of leaf key) e

  module _ (a : is_some (slot_of leaf key) ≡ false) where
    pub room_slot : is_some (slot_of leaf 0) ≡ true → room_for room run (insert_reason leaf key) ≡ true
    unfolding insert_reason
    room_slot e = ap (room_for room run) (absent_reason leaf (slot_of leaf key) a) ∙ empty_slot run room (slot_of leaf 0) e

    pub room_full : is_some (slot_of leaf 0) ≡ false → room_for room run (insert_reason leaf key) ≡ not (ltb room (split_need run))
    unfolding insert_reason
    room_full e = ap (room_for room run) (absent_reason leaf (slot_of leaf key) a) ∙ full_slot run room (slot_of leaf 0) e

pub not_scarce : (count run : ℕ) → count < split_need run → not (ltb count (split_need run)) ≡ false
not_scarce count run h = ap not (lt-ltb count (split_need run) h)

pub not_enough : (count run : ℕ) → split_need 0 ≤ count → not (ltb count (split_need run)) ≡ leb run (count - split_need 0)
not_enough count run h =
    order count (split_need run) (λ o. ap not (lt-ltb count (split_need run) o) ∙ sym (lt-leb run (count - split_need 0) (omega arith)))
    (λ o. ap not (le-ltb count (split_need run) o) ∙ sym (le-leb run (count - split_need 0) (omega arith)))

-- a start that is no refusal
pub started_no_refusal : (n : ℕ) → ◌≡◌ {A = Begun} Started (BegunRefused n) → ⊥
started_no_refusal n e = impossible (cc)

-- ---- what a start on the block leaves, by the refusal that it is due

module _ (block : List ℕ) (l : length block ≡ state_words) (doing : Doing) (refusal depth : ℕ) where
  pub start_refused_in : (refusal ≡ 0 → ⊥) → StartCall block block (BegunRefused refusal) doing (begun_by refusal depth (memory_in block) doing)
  unfolding start_refused started_block
  start_refused_in p =
      rw (ne_eqb refusal 0 p) (record { answered = λ k. refl; handed = λ k. refl; words = λ k. refl; no_state_lem = λ n. absurd (n l) })

  pub started_in : (after : List ℕ) → refusal ≡ 0 → after ≡ set (begun_block block doing) depth_at depth
      → StartCall block after Started doing (begun_by refusal depth (memory_in block) doing)
  unfolding start_accepted started_block with_doing with_depth
  started_in after z e =
      rw (eq-eqb refusal 0 z) (
      record {
        answered = λ k. refl;
        handed = λ k. ap memory_in e ∙ memory_deep (begun_block block doing) depth (begun_length block doing l)
            ∙ ap (λ (m : Memory). with_depth m depth) (memory_begun block doing (omega arith));
        words = λ k. e;
        no_state_lem = λ n. absurd (n l);
      }
      )

-- ---- starting to format

module _ (greatest : ℕ) (card : List ℕ) (n : ℕ) (e : n ≡ nodes_of_length greatest (length card)) where
  pub format_no_length : n ≡ 0 → format_of greatest card ≡ no_beginning 1
  unfolding format_of
  format_no_length z = simp (eq-eqb (nodes_of_length greatest (length card)) 0 (sym e ∙ z))

  pub format_length : (n ≡ 0 → ⊥) → format_of greatest card ≡ record { begun = Started; memory = resting n (set (all_nodes n) formatted_root false) formatted_root no_totals (Formatting 0) }
  unfolding format_of
  format_length p = simp (ne_eqb (nodes_of_length greatest (length card)) 0 (λ z. p (e ∙ z)), ← e)
