-- DEMAND 1, of a step: what it stores and answers, the rows before 9, and 9 within a change.
use mathlib.Core.Path.{◌≡◌, refl, ap, sym, subst, ◌∙◌}
use mathlib.Core.Bool.{Bool, true}
use mathlib.Core.List.{List, [], ◌∷◌}
use mathlib.Core.Logic.{◌⊎◌, inl, inr}
use Prim.Native.Nat.{ℕ, ◌≤◌, ◌<◌}
use native.Mathlib.Omega.{arith}
use lib.ListN.{length}
use lib.Dec.{eqb, ltb}
use borrow.Author.Tests.{lt-ltb, le-ltb, ltb-true}
use Rattle.card.specs.Lines.{seen}
use Rattle.card.specs.Header.{Sized}
use Rattle.card.proofs.HeaderLaws.{formatted_header}
use Rattle.card.specs.Stores.{Store}
use Rattle.demands.specs.Demand1.{begun, HandsBack, Stores, StoresNext, Answers, Refuses}
use Rattle.demands.specs.Table.{no_work, formatting}
use Rattle.demands.specs.Refusals.{Rows, ByRows, Idle, card_rows, end, row}
use Rattle.demands.specs.RationTable.{work_of, as_stepped, ration_table}
use Rattle.demands.proofs.Work.{IdleOrTask, idle_or_task, settled_work, work_formatting}
use Rattle.demands.proofs.StartRows.{start_one, refused_back}
use Rattle.demands.proofs.FirstRows.{NoCard, sized?, by_card}
use Rattle.laws.proofs.Cases.{bool_cases, order, impossible}
use Rattle.state.specs.Answers.{step_reply}
use Rattle.state.specs.Memory.{Memory, idled, advanced}
use Rattle.state.specs.Steps.{held_by, Step, step_refused, step_final, format_store, step_format, step_store, formatting_from as formattingThen}
use Rattle.state.specs.declared.Task.{Task}
use Rattle.state.specs.declared.Held.TheVariants.{Nothing as NoneHeld, Task as HeldTask}
use Rattle.state.proofs.Tasks.{TaskOf}
use Rattle.state.specs.Answer.{Answer}
use Rattle.state.specs.Answer.{Stored, Ready, Absent, Value, Refused}
use Rattle.state.specs.declared.Doing.{Doing}
use Rattle.state.specs.declared.Doing.TheVariants.{Formatting, Inserting, Deleting}
use Rattle.state.specs.declared.Phase.TheVariants.{NotBegun}
use Rattle.call_start.specs.Starts.{insert_of, delete_of, room_of}
use Rattle.call_step.specs.Calls.{step_task, step_held, step_of}
use Rattle.call_step.proofs.StepMemory.{Ends, next_ends}
use Rattle.call_step.proofs.StepLaws.{step_sized, step_unsized, idle_refused, task_due, held_unchecked}
use Rattle.call_change.specs.Updates.{start_room, next_change}

-- an answer that is final
abbrev pub Final : Answer → Type 0
Final a = (a ≡ Ready) ⊎ (((v : ℕ) × (a ≡ Value v)) ⊎ (a ≡ Absent))

-- ---- the final answer of whatever is planned

ends_final : (a : Answer) → Ends a → Final a
unfolding Ends
ends_final (Stored place) e = absurd e
ends_final Ready e = inl refl
ends_final Absent e = inr (inr refl)
ends_final (Value v) e = inr (inl (v, refl))
ends_final (Refused r) e = absurd e

pub next_final : (greatest : ℕ) (c : List ℕ) (n : ℕ) (free : List Bool) (last : ℕ) {doing : Doing} {task : Task} → TaskOf doing task → Final (next_change c n free last doing task).final
next_final greatest c n free last t = ends_final _ (next_ends greatest c n free last _ _ t)

-- ---- the cases

abbrev pub Works : ℕ → List ℕ → Memory → Step → Type 0
Works greatest c m s = Stores (ration_table greatest) c m (as_stepped s) ⊎ Answers (ration_table greatest) c m (as_stepped s)

pub refused_same : (greatest : ℕ) (r : ℕ) (c : List ℕ) (m : Memory) → Refuses (ration_table greatest) c m (as_stepped (step_refused r c m)) r
unfolding step_refused step_reply
refused_same greatest r c m = record { number_given = refl; same_card = refl; unchanged = refl }

pub final_idle : (greatest : ℕ) (a : Answer) (c : List ℕ) (m : Memory) → Final a → Answers (ration_table greatest) c m (as_stepped (step_final a c m))
unfolding step_final idled work_of step_reply
final_idle greatest a c m (inl e) = record { final = inl (ap step_reply e); same_card = refl; idle_then = refl; all_kept = record { nodes_kept = refl; free_kept = refl; last_kept = refl } }
final_idle greatest a c m (inr (inl (v, e))) =
    record {
      final = inr (inl (v, ap step_reply e));
      same_card = refl;
      idle_then = refl;
      all_kept = record { nodes_kept = refl; free_kept = refl; last_kept = refl };
    }
final_idle greatest a c m (inr (inr e)) =
    record {
      final = inr (inr (ap step_reply e));
      same_card = refl;
      idle_then = refl;
      all_kept = record { nodes_kept = refl; free_kept = refl; last_kept = refl };
    }

-- a store leaves N and the work in hand
pub advanced_nodes : (m : Memory) (rest : List Store) → (advanced m rest).nodes ≡ m.nodes
unfolding advanced
advanced_nodes m [] = refl
advanced_nodes m (s ∷ rest) = refl

pub advanced_work : (m : Memory) (rest : List Store) → work_of (advanced m rest).doing ≡ work_of m.doing
unfolding advanced
advanced_work m [] = settled_work m.doing
advanced_work m (s ∷ rest) = refl

pub advanced_rest : (m : Memory) (rest : List Store) → (advanced m rest).rest ≡ rest
unfolding advanced
advanced_rest m [] = refl
advanced_rest m (s ∷ rest) = refl

pub advanced_last : (m : Memory) (rest : List Store) → (advanced m rest).last ≡ m.last
unfolding advanced
advanced_last m [] = refl
advanced_last m (s ∷ rest) = refl

pub store_inside : (greatest : ℕ) (c : List ℕ) (m : Memory) (s : Store) (next : Memory) → next.nodes ≡ m.nodes
    → work_of next.doing ≡ begun (work_of m.doing) → s.0 < length c → Stores (ration_table greatest) c m (as_stepped (step_store c m s next))
unfolding step_store step_reply
store_inside greatest c m s next en ew o =
    rw (lt-ltb s.0 (length c) o) (s, o, record { reply_given = refl; one_store = refl; nodes_kept = en; work_then = ew })

pub store_outside : (greatest : ℕ) (c : List ℕ) (m : Memory) (s : Store) (next : Memory) → length c ≤ s.0 → Refuses (ration_table greatest) c m (as_stepped (step_store c m s next)) 9
unfolding step_store
store_outside greatest c m s next o = rw (le-ltb s.0 (length c) o) (refused_same greatest 9 c m)

-- formatting: its place is always on the card
format_cases : (greatest : ℕ) (c : List ℕ) (m : Memory) (made : ℕ) → work_of m.doing ≡ formatting → 0 < length c → Works greatest c m (step_format c m made (format_store m.nodes (length c) made))
unfolding step_format format_store step_reply formattingThen work_of begun
format_cases greatest c m made ew pos =
    bool_cases (eqb made 0) (λ q. inl (rw q ((0, 0), pos, record { reply_given = refl; one_store = refl; nodes_kept = refl; work_then = sym (ap begun ew) }))) (λ q.
    bool_cases (ltb made (length c)) (λ q₁. inl (rw (q, q₁) (
      (made, _),
      ltb-true made (length c) q₁,
      record { reply_given = refl; one_store = refl; nodes_kept = refl; work_then = sym (ap begun ew) },
    ))) (λ q₁.
    bool_cases (eqb made (length c)) (λ q₂. inl (rw (q, q₁, q₂) ((0, 1), pos, record { reply_given = refl; one_store = refl; nodes_kept = refl; work_then = sym (ap begun ew) })))
    (λ q₂. inr (rw (q, q₁, q₂) (final_idle greatest Ready c m (inl refl))))))

-- ---- the rows

module _ (greatest : ℕ) (c : List ℕ) (m : Memory) where
  pub formatting_rows : work_of m.doing ≡ formatting → ByRows (row 1 (NoCard greatest c m.nodes) end)
      (Refuses (ration_table greatest) c m (as_stepped (step_of greatest 1 c m))) (Works greatest c m (step_of greatest 1 c m))
  unfolding ByRows held_by step_held
  formatting_rows q = go (sized? greatest (length c) m.nodes) (work_formatting m.doing q)
    where
      go : Dec (Sized greatest (length c) m.nodes) → ((made : ℕ) × (m.doing ≡ Formatting made))
          → (NoCard greatest c m.nodes × Refuses (ration_table greatest) c m (as_stepped (step_of greatest 1 c m)) 1)
          ⊎ ((NoCard greatest c m.nodes → ⊥) × Works greatest c m (step_of greatest 1 c m))
      go (no p) d = inl (p, rw (step_unsized greatest 1 c m p) (refused_same greatest 1 c m))
      go (yes s) (made, e) = inr (λ p. p s, rw (step_sized greatest 1 c m s ∙ ap (λ (d : Doing). step_held 1 c m (held_by d)) e) (format_cases greatest c m made q (omega (arith, s.words))))

  -- 1, 2 and 3, and then 10 where nothing is held, whatever comes after it, or what comes after it where a task is
  pub idle_rows : held_by m.doing ≡ NoneHeld → work_of m.doing ≡ no_work → (rows : Rows) (works : Type 0)
      → ByRows (card_rows greatest c m.nodes (row 10 (Idle (ration_table greatest) m) rows)) (Refuses (ration_table greatest) c m (as_stepped (step_of greatest 1 c m))) works
  unfolding ByRows
  idle_rows e w rows works =
      by_card greatest (row 10 (Idle (ration_table greatest) m) rows) (Refuses (ration_table greatest) c m (as_stepped (step_of greatest 1 c m))) works c m.nodes
      (λ p. rw (step_unsized greatest 1 c m p) (refused_same greatest 1 c m))
      (λ r s k d. rw (step_sized greatest 1 c m s ∙ ap (step_held 1 c m) e ∙ held_unchecked 1 c m r (sym k) d NoneHeld (λ made z. impossible (cc))) (refused_same greatest r c m))
      (λ s f. inl (w, rw (step_sized greatest 1 c m s ∙ ap (step_held 1 c m) e ∙ idle_refused 1 c m (formatted_header c m.nodes f)) (refused_same greatest 10 c m)))

  pub task_rows : (task : Task) → held_by m.doing ≡ HeldTask task → (work_of m.doing ≡ no_work → ⊥) → (rows : Rows) (works : Type 0)
      → (Sized greatest (length c) m.nodes → step_of greatest 1 c m ≡ step_task c m task m.rest → ByRows rows (Refuses (ration_table greatest) c m (as_stepped (step_of greatest 1 c m))) works)
      → ByRows (card_rows greatest c m.nodes (row 10 (Idle (ration_table greatest) m) rows)) (Refuses (ration_table greatest) c m (as_stepped (step_of greatest 1 c m))) works
  unfolding ByRows
  task_rows task e w rows works next =
      by_card greatest (row 10 (Idle (ration_table greatest) m) rows) (Refuses (ration_table greatest) c m (as_stepped (step_of greatest 1 c m))) works c m.nodes
      (λ p. rw (step_unsized greatest 1 c m p) (refused_same greatest 1 c m))
      (λ r s k d. rw (step_sized greatest 1 c m s ∙ ap (step_held 1 c m) e ∙ held_unchecked 1 c m r (sym k) d (HeldTask task) (λ made z. impossible (cc))) (refused_same greatest r c m))
      (λ s f. inr (w, next s (step_sized greatest 1 c m s ∙ ap (step_held 1 c m) e ∙ task_due c m (omega (arith, s.words)) (formatted_header c m.nodes f) task)))

-- with a change in hand
next_cases : (greatest : ℕ) (c : List ℕ) (m : Memory) (x : Store) (rest : List Store)
    → ByRows (row 9 (length c ≤ x.0) end) (Refuses (ration_table greatest) c m (as_stepped (step_store c m x (advanced m rest))))
    (StoresNext (ration_table greatest) c m (as_stepped (step_store c m x (advanced m rest))) x rest)
unfolding ByRows step_store step_reply
next_cases greatest c m x rest =
    order x.0 (length c)
    (λ o. inr (
      λ z. omega (arith, o, z),
      rw (lt-ltb x.0 (length c) o) (
        record { reply_given = refl; one_store = refl; nodes_kept = advanced_nodes m rest; work_then = advanced_work m rest },
        advanced_rest m rest,
      ),
    ))
    (λ o. inl (o, rw (le-ltb x.0 (length c) o) (refused_same greatest 9 c m)))

pub in_hand_rows : (greatest : ℕ) (c : List ℕ) (m : Memory) (x : Store) (rest : List Store) → m.rest ≡ x ∷ rest → (work_of m.doing ≡ formatting → ⊥)
    → ByRows (card_rows greatest c m.nodes (row 10 (Idle (ration_table greatest) m) (row 9 (length c ≤ x.0) end)))
    (Refuses (ration_table greatest) c m (as_stepped (step_of greatest 1 c m))) (StoresNext (ration_table greatest) c m (as_stepped (step_of greatest 1 c m)) x rest)
unfolding step_task
in_hand_rows greatest c m x rest r q = go (idle_or_task m.doing q)
  where
    go : IdleOrTask m.doing → ByRows (card_rows greatest c m.nodes (row 10 (Idle (ration_table greatest) m) (row 9 (length c ≤ x.0) end)))
        (Refuses (ration_table greatest) c m (as_stepped (step_of greatest 1 c m))) (StoresNext (ration_table greatest) c m (as_stepped (step_of greatest 1 c m)) x rest)
    go (inl (e, w)) = idle_rows greatest c m e w (row 9 (length c ≤ x.0) end) (StoresNext (ration_table greatest) c m (as_stepped (step_of greatest 1 c m)) x rest)
    go (inr (task, e, w)) =
        task_rows greatest c m task e w (row 9 (length c ≤ x.0) end) (StoresNext (ration_table greatest) c m (as_stepped (step_of greatest 1 c m)) x rest)
        (λ s due. subst (λ (y : Step). ByRows (row 9 (length c ≤ x.0) end) (Refuses (ration_table greatest) c m (as_stepped y))
        (StoresNext (ration_table greatest) c m (as_stepped y) x rest)) (sym (due ∙ ap (step_task c m task) r)) (next_cases greatest c m x rest))

-- no card has N = 0
none_sized : (greatest : ℕ) (c : List ℕ) (n : ℕ) → n ≡ 0 → NoCard greatest c n
none_sized greatest c n e s = omega (arith, e, s.least)

pub none_refused : (greatest : ℕ) (c : List ℕ) (m : Memory) → m.nodes ≡ 0 → (key value : ℕ)
    → HandsBack (ration_table greatest) m ((ration_table greatest).insert c m key value) 1
    × HandsBack (ration_table greatest) m ((ration_table greatest).delete c m key) 1
    × Refuses (ration_table greatest) c m ((ration_table greatest).step c m) 1
unfolding insert_of delete_of
none_refused greatest c m e key value =
    let p = none_sized greatest c m.nodes e in (
      rw (start_one greatest c m key (Inserting key value NotBegun) (start_room (seen 1 c) key (room_of m)) p)
          (refused_back greatest c m key (Inserting key value NotBegun) (start_room (seen 1 c) key (room_of m)) 1),
      rw (start_one greatest c m key (Deleting key NotBegun 0) (λ l. true) p) (refused_back greatest c m key (Deleting key NotBegun 0) (λ l. true) 1),
      rw (step_unsized greatest 1 c m p) (refused_same greatest 1 c m),
    )
