-- DEMAND 1, of the starts.
use mathlib.Core.Path.{◌≡◌, refl, ap, sym, subst, ◌∙◌}
use mathlib.Core.Bool.{Bool, true, false}
use mathlib.Core.List.{List}
use mathlib.Core.Logic.{◌⊎◌, inl, inr}
use mathlib.Core.Option.{Option as Maybe, none, some}
use Prim.Native.Nat.{ℕ}
use native.Mathlib.Omega.{arith}
use native.Mathlib.Decide.{ℕ_discrete}
use lib.ListN.{length}
use lib.Dec.{eqb}
use borrow.Author.Tests.{eq-eqb, ne_eqb, lt-ltb, le-ltb, eqb-true, eqb-false}
use Rattle.card.specs.Lines.{has_line, seen}
use Rattle.card.proofs.LineLaws.{seen_only}
use Rattle.call_start.proofs.StartLaws.{room_seen}
use Rattle.card.specs.Header.{nodes_of_length, header_refusal, Sized, Formatted}
use Rattle.card.proofs.HeaderLaws.{nodes_sized, sized_nodes, formatted_header}
use Rattle.card.specs.Layout.{node_at, key_words}
use Rattle.demands.specs.Demand1.{HandsBack, Starts}
use Rattle.demands.specs.Table.{inserting, deleting}
use Rattle.demands.specs.Way.{leads_to, among}
use Rattle.demands.specs.Refusals.{Rows, ByRows, Idle, NoRoom, start_rows, end, row}
use Rattle.demands.specs.RationTable.{has_begun, work_of, handed, ration_table}
use Rattle.demands.proofs.Starting.{start_checked_lem}
use Rattle.demands.proofs.Work.{true_false, idle_work, busy_work}
use Rattle.demands.proofs.CardRows.{none_some}
use Rattle.demands.proofs.FirstRows.{NoCard, by_card}
use Rattle.demands.proofs.WayDown.{landed, leads_is, slot_found, sized_on, slot_is}
use Rattle.walk.specs.Descent.{slot_of}
use Rattle.card_free.specs.NodeSet.{count_true}
use Rattle.laws.proofs.Cases.{bool_cases, order, impossible}
use Rattle.laws.specs.Cases.{pick}
use Rattle.call_start.specs.Starts.{start_depth, start_refused, start_accepted, start_landed, start_checked, start_of, insert_of, delete_of, room_of}
use Rattle.state.specs.Answers.{start_reply}
use Rattle.state.specs.Steps.{Handed}
use Rattle.state.specs.Memory.{Memory}
use Rattle.state.specs.Begun.{Begun}
use Rattle.state.specs.Begun.{Started, Refused as BegunRefused}
use Rattle.state.specs.Steps.{is_idle}
use Rattle.state.specs.declared.Doing.{Doing}
use Rattle.state.specs.declared.Doing.TheVariants.{Inserting, Deleting}
use Rattle.state.specs.declared.Phase.TheVariants.{NotBegun}
use Rattle.call_change.specs.Updates.{landing, reason_in, empty_reason, insert_reason, split_need, room_for, start_room}
use Rattle.std.specs.Prelude.{Option, Some, None}
use Rattle.walk.proofs.DescentLaws.{landing_at}
use Rattle.walk.specs.declared.Landing.{Landing}

-- a state whose N does not fit the card
pub not_sized : (greatest : ℕ) (c : List ℕ) (n : ℕ) → NoCard greatest c n → (nodes_of_length greatest (length c) ≡ 0 → ⊥) → nodes_of_length greatest (length c) ≡ n → ⊥
not_sized greatest c n p d e = p (subst (λ x. Sized greatest (length c) x) e (nodes_sized greatest (length c) d))

module _ (greatest : ℕ) (c : List ℕ) (m : Memory) (key : ℕ) (doing : Doing) (room : Option Landing → Bool) where
  pub start_one : NoCard greatest c m.nodes → start_of greatest 1 c m key doing room ≡ start_refused 1 m
  unfolding start_of
  start_one p =
      bool_cases (eqb (nodes_of_length greatest (length c)) 0) (λ q. rw q) (λ q.
      bool_cases (eqb (nodes_of_length greatest (length c)) m.nodes)
      (λ q₁. absurd (not_sized greatest c m.nodes p (eqb-false (nodes_of_length greatest (length c)) 0 q) (eqb-true (nodes_of_length greatest (length c)) m.nodes q₁)))
      (λ q₁. rw (q, q₁)))

  start_header : (r : ℕ) → Sized greatest (length c) m.nodes → header_refusal c m.nodes ≡ r → (r ≡ 0 → ⊥) → start_of greatest 1 c m key doing room ≡ start_refused r m
  unfolding start_of
  start_header r s e d = rw (sized_nodes greatest (length c) m.nodes s, ne_eqb m.nodes 0 (λ z. omega (arith, z, s.least)), eq-eqb m.nodes m.nodes refl, e, ne_eqb r 0 d)

  start_passed : Sized greatest (length c) m.nodes → Formatted c m.nodes → start_of greatest 1 c m key doing room ≡ start_checked 1 c m key doing room
  start_passed s f = start_checked_lem greatest 1 c m key doing room s (formatted_header c m.nodes f)

  pub refused_back : (r : ℕ) → HandsBack (ration_table greatest) m (handed (start_refused r m)) r
  unfolding start_refused start_reply
  refused_back r = record { number_given = refl; unchanged = refl }

  start_begun : Starts (ration_table greatest) m (handed (start_accepted m doing (start_depth 1 c m key))) (work_of doing)
  unfolding start_accepted start_reply
  start_begun = record { reply_given = refl; in_progress = refl; all_kept = record { nodes_kept = refl; free_kept = refl; last_kept = refl } }

  -- the rows of a start, to where the key has led to its leaf
  by_start : (rows : Rows) (works : Type 0)
      → ((leaf link j : ℕ) → leads_to c key ≡ some (leaf, j)
      → start_of greatest 1 c m key doing room ≡ pick (room (landing_at leaf link j)) (start_accepted m doing (start_depth 1 c m key)) (start_refused 8 m)
      → ByRows rows (HandsBack (ration_table greatest) m (handed (start_of greatest 1 c m key doing room))) works)
      → ByRows (start_rows greatest (ration_table greatest) c m key rows) (HandsBack (ration_table greatest) m (handed (start_of greatest 1 c m key doing room))) works
  unfolding ByRows start_checked start_landed landed has_line
  by_start rows works next =
      by_card greatest (row 7 (Idle (ration_table greatest) m → ⊥) (row 6 (key ≡ 0) (row 9 (leads_to c key ≡ none) rows)))
      (HandsBack (ration_table greatest) m (handed (start_of greatest 1 c m key doing room))) works c m.nodes
      (λ p. rw (start_one p) (refused_back 1)) (λ r s e d. rw (start_header r s e d) (refused_back r)) past
    where
      past : Sized greatest (length c) m.nodes → Formatted c m.nodes
          → ByRows (row 7 (Idle (ration_table greatest) m → ⊥) (row 6 (key ≡ 0) (row 9 (leads_to c key ≡ none) rows)))
          (HandsBack (ration_table greatest) m (handed (start_of greatest 1 c m key doing room))) works
      past s f =
          bool_cases (is_idle m.doing) (λ q. inr (λ b. b (idle_work m.doing q), keyed q (ℕ_discrete key 0))) (λ q. inl (busy_work m.doing q, rw (start_passed s f, q) (refused_back 7)))
        where
          lands : landed (landing c m.nodes key) ≡ leads_to c key
          lands = leads_is c m.nodes key (sized_on greatest c m.nodes s)

          -- the card's only table
          there : {x : Option Landing} → landing c m.nodes key ≡ x → landing (seen 1 c) m.nodes key ≡ x
          there e = ap (λ (d : List ℕ). landing d m.nodes key) (seen_only c m.nodes (omega (arith, s.words)) f) ∙ e

          at : is_idle m.doing ≡ true → (key ≡ 0 → ⊥) → (x : Option Landing) → landing c m.nodes key ≡ x
              → ((leads_to c key ≡ none) × HandsBack (ration_table greatest) m (handed (start_of greatest 1 c m key doing room)) 9)
              ⊎ ((leads_to c key ≡ none → ⊥) × ByRows rows (HandsBack (ration_table greatest) m (handed (start_of greatest 1 c m key doing room))) works)
          at q d None e = inl (sym lands ∙ ap landed e, rw (start_passed s f, q, ne_eqb key 0 d, there e) (refused_back 9))
          at q d (Some l) e =
              let to : leads_to c key ≡ some (l.node, l.run) = sym lands ∙ ap landed e in
              inr (λ z. none_some (l.node, l.run) (sym z ∙ to), next l.node l.link l.run to (start_passed s f ∙ rw (q, ne_eqb key 0 d, there e)))

          keyed : is_idle m.doing ≡ true → Dec (key ≡ 0) → ((key ≡ 0) × HandsBack (ration_table greatest) m (handed (start_of greatest 1 c m key doing room)) 6)
              ⊎ ((key ≡ 0 → ⊥) × (((leads_to c key ≡ none) × HandsBack (ration_table greatest) m (handed (start_of greatest 1 c m key doing room)) 9)
              ⊎ ((leads_to c key ≡ none → ⊥) × ByRows rows (HandsBack (ration_table greatest) m (handed (start_of greatest 1 c m key doing room))) works)))
          keyed q (yes z) = inl (z, rw (start_passed s f, q, eq-eqb key 0 z) (refused_back 6))
          keyed q (no d) = inr (d, at q d (landing c m.nodes key) refl)

-- what a start that works hands back
pub started_is : (greatest : ℕ) (c : List ℕ) (m : Memory) (doing : Doing) (room : Option Landing → Bool) (key : ℕ) → (start_of greatest 1 c m key doing room).begun ≡ Started
    → start_of greatest 1 c m key doing room ≡ start_accepted m doing (start_depth 1 c m key)
unfolding start_of start_checked start_landed start_refused start_accepted has_line
started_is greatest c m doing room key e =
    bool_cases (eqb (nodes_of_length greatest (length c)) 0) (λ q. absurd (never 1 (rw q at e))) (λ q.
    bool_cases (eqb (nodes_of_length greatest (length c)) m.nodes) (λ q₁.
    bool_cases (eqb (header_refusal c m.nodes) 0) (λ q₂.
    bool_cases (is_idle m.doing) (λ q₃.
    bool_cases (eqb key 0) (λ q₄. absurd (never 6 (rw (q, q₁, q₂, q₃, q₄) at e))) (λ q₄. rw (q, q₁, q₂, q₃, q₄) (at (landing (seen 1 c) m.nodes key) (rw (q, q₁, q₂, q₃, q₄) at e))))
    (λ q₃. absurd (never 7 (rw (q, q₁, q₂, q₃) at e))))
    (λ q₂. absurd (never (header_refusal c m.nodes) (rw (q, q₁, q₂) at e))))
    (λ q₁. absurd (never 1 (rw (q, q₁) at e))))
  where
    never : (r : ℕ) → ◌≡◌ {A = Begun} (BegunRefused r) Started → ⊥
    never r y = impossible (cc)

    at : (l : Option Landing) → (start_landed m doing (start_depth 1 c m key) (room l) l).begun ≡ Started
        → start_landed m doing (start_depth 1 c m key) (room l) l ≡ start_accepted m doing (start_depth 1 c m key)
    at None y = absurd (never 9 y)
    at (Some l) y = bool_cases (room (Some l)) (λ k. rw k) (λ k. absurd (never 8 (rw k at y)))

-- so what is being done then
pub started_doing : (greatest : ℕ) (c : List ℕ) (m : Memory) (doing : Doing) (room : Option Landing → Bool) (key : ℕ)
    → (start_of greatest 1 c m key doing room).begun ≡ Started → (start_of greatest 1 c m key doing room).memory.doing ≡ doing
unfolding start_accepted
started_doing greatest c m doing room key e = ap (λ (h : Handed). h.memory.doing) (started_is greatest c m doing room key e)

-- an update's first change leaves it begun

pub deletes : (greatest : ℕ) (c : List ℕ) (m : Memory) (key : ℕ) → ByRows (start_rows greatest (ration_table greatest) c m key end)
    (HandsBack (ration_table greatest) m ((ration_table greatest).delete c m key)) (Starts (ration_table greatest) m ((ration_table greatest).delete c m key) (deleting key false))
unfolding ByRows delete_of work_of has_begun
deletes greatest c m key =
    by_start greatest c m key (Deleting key NotBegun 0) (λ l. true) end (Starts (ration_table greatest) m (handed (delete_of greatest 1 c m key)) (deleting key false))
    (λ leaf link j to e. rw e (start_begun greatest c m key (Deleting key NotBegun 0) (λ l. true)))

-- where a key leads is one place
at_leaf : Maybe (ℕ × ℕ) → ℕ
at_leaf none = 0
at_leaf (some l) = l.0

at_run : Maybe (ℕ × ℕ) → ℕ
at_run none = 0
at_run (some l) = l.1

pub one_leaf : (c : List ℕ) (key leaf j leaf' j' : ℕ) → leads_to c key ≡ some (leaf, j) → leads_to c key ≡ some (leaf', j') → (leaf ≡ leaf') × (j ≡ j')
unfolding at_leaf at_run
one_leaf c key leaf j leaf' j' e f = (ap at_leaf (sym e ∙ f), ap at_run (sym e ∙ f))

-- an insert has no room exactly by row 8
pub room_row : (c : List ℕ) (free : List Bool) (key leaf link j : ℕ) → leads_to c key ≡ some (leaf, j)
    → (NoRoom c free key × (start_room c key (count_true free) (landing_at leaf link j) ≡ false)) ⊎ ((NoRoom c free key → ⊥) × (start_room c key (count_true free) (landing_at leaf link j) ≡ true))
unfolding start_room room_for insert_reason reason_in empty_reason slot_found
room_row c free key leaf link j to = at (slot_of (node_at c leaf) key) refl (slot_of (node_at c leaf) 0) refl
  where
    same : (r : NoRoom c free key) → (r.0 ≡ leaf) × (r.1 ≡ j)
    same r = one_leaf c key r.0 r.1 leaf j r.2.leads to

    at : (x : Option ℕ) → slot_of (node_at c leaf) key ≡ x → (y : Option ℕ) → slot_of (node_at c leaf) 0 ≡ y
        → (NoRoom c free key × (start_room c key (count_true free) (landing_at leaf link j) ≡ false)) ⊎ ((NoRoom c free key → ⊥) × (start_room c key (count_true free) (landing_at leaf link j) ≡ true))
    at (Some i) e y f = inr (λ r. true_false (slot_is (node_at c leaf) key (Some i) e ∙ ap (λ (x : ℕ). among key (key_words (node_at c x))) (sym (same r).0) ∙ r.2.absent), rw e)
    at None e (Some i) f = inr (λ r. true_false (slot_is (node_at c leaf) 0 (Some i) f ∙ ap (λ (x : ℕ). among 0 (key_words (node_at c x))) (sym (same r).0) ∙ r.2.full), rw (e, f))
    at None e None f =
        order (count_true free) (split_need j)
        (λ o. inl (
          (leaf, j, record { leads = to; absent = sym (slot_is (node_at c leaf) key None e); full = sym (slot_is (node_at c leaf) 0 None f) }, o),
          rw (e, f, lt-ltb (count_true free) (split_need j) o),
        ))
        (λ o. inr (λ r. omega (arith, r.3, (same r).1), rw (e, f, le-ltb (count_true free) (split_need j) o)))

pub inserts : (greatest : ℕ) (c : List ℕ) (m : Memory) (key value : ℕ)
    → ByRows (start_rows greatest (ration_table greatest) c m key (row 8 (NoRoom c m.free key) end)) (HandsBack (ration_table greatest) m ((ration_table greatest).insert c m key value))
    (Starts (ration_table greatest) m ((ration_table greatest).insert c m key value) (inserting key value false))
unfolding ByRows insert_of work_of has_begun
inserts greatest c m key value =
    by_start greatest c m key (Inserting key value NotBegun) (start_room (seen 1 c) key (room_of m)) (row 8 (NoRoom c m.free key) end)
    (Starts (ration_table greatest) m (handed (insert_of greatest 1 c m key value)) (inserting key value false))
    (λ leaf link j to e. at leaf link j e (room_row c m.free key leaf link j to))
  where
    at : (leaf link j : ℕ) → start_of greatest 1 c m key (Inserting key value NotBegun) (start_room (seen 1 c) key (room_of m))
        ≡ pick (start_room (seen 1 c) key (room_of m) (landing_at leaf link j)) (start_accepted m (Inserting key value NotBegun) (start_depth 1 c m key)) (start_refused 8 m)
        → (NoRoom c m.free key × (start_room c key (room_of m) (landing_at leaf link j) ≡ false)) ⊎ ((NoRoom c m.free key → ⊥) × (start_room c key (room_of m) (landing_at leaf link j) ≡ true))
        → (NoRoom c m.free key × HandsBack (ration_table greatest) m (handed (insert_of greatest 1 c m key value)) 8)
        ⊎ ((NoRoom c m.free key → ⊥) × Starts (ration_table greatest) m (handed (insert_of greatest 1 c m key value)) (inserting key value false))
    at leaf link j e (inl (r, q)) =
        inl (
          r,
          rw (e, room_seen 1 c key (room_of m) (landing_at leaf link j), q)
              (refused_back greatest c m key (Inserting key value NotBegun) (start_room (seen 1 c) key (room_of m)) 8),
        )
    at leaf link j e (inr (r, q)) =
        inr (
          r,
          rw (e, room_seen 1 c key (room_of m) (landing_at leaf link j), q)
              (start_begun greatest c m key (Inserting key value NotBegun) (start_room (seen 1 c) key (room_of m))),
        )
