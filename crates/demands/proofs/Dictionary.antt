-- DEMAND 2 of the ration table.
use mathlib.Core.Path.{◌≡◌, ap, sym, subst, ◌∙◌}
use mathlib.Core.Bool.{true, false}
use mathlib.Core.List.{List}
use mathlib.Core.Logic.{inl, inr}
use mathlib.Core.Option.{Option, none, some}
use Prim.Native.Nat.{ℕ, ◌<◌}
use native.Mathlib.Omega.{arith}
use lib.ListN.{length}
use Rattle.card.specs.Lines.{seen}
use Rattle.theory_change.proofs.Line.{only}
use Rattle.card.specs.Header.{Sized, Formatted}
use Rattle.card.proofs.HeaderLaws.{formatted_header}
use Rattle.demands.proofs.Invariant.{Inv}
use Rattle.demands.specs.Events.{World, reply_to, happens, insert, delete, step}
use Rattle.demands.specs.Book.{Book}
use Rattle.demands.specs.RationTable.{ration_table}
use Rattle.demands.proofs.Work.{work_idle, idle_work, busy_work}
use Rattle.card.specs.Layout.{key_limit}
use Rattle.card.specs.Replies.{Reply, refusal}
use Rattle.demands.specs.Demand1.{HandsBack, Starts}
use Rattle.demands.specs.Worked.{dictionary}
use Rattle.demands.specs.Demand2.{Finishes, Updates, Rests, Works, Dictionary, Demand2}
use Rattle.demands.specs.Table.{inserting, deleting}
use Rattle.demands.specs.Way.{leads_to}
use Rattle.demands.specs.Refusals.{Rows, ByRows, Idle as Resting, NoRoom, card_rows, row, end}
use Rattle.demands.specs.Rules.{InsertRule, DeleteRule}
use Rattle.demands.proofs.CardRows.{none_some}
use Rattle.demands.proofs.PowerCuts.{dictionary_same, Covered, always, rests_right}
use Rattle.demands.proofs.FirstSteps.{demand_1}
use Rattle.demands.proofs.AnswerNumbers.{start_small}
use Rattle.demands.proofs.ReplyLaws.{begun_started}
use Rattle.demands.proofs.UpdatesByRules.{insert_by_rules, delete_by_rules, opening_by_rules}
use Rattle.demands.proofs.Formatting.{formats_right}
use Rattle.demands.proofs.WayDown.{landed, leads_is, sized_on}
use Rattle.laws.proofs.Cases.{bool_cases, order}
use Rattle.demands.proofs.Accepting.{find_answers}
use Rattle.demands.proofs.BookLaws.{dictionary_answer}
use Rattle.demands.proofs.UpdateAnswers.{Stores, insert_stores, delete_stores}
use Rattle.demands.proofs.Finished.{each_stores, then_answers, work_not_refused, inv_rests}
use Rattle.demands.proofs.Finishing.{Rests as WasRests}
use Rattle.demands.proofs.Starting.{nodes_same, lands, same_lookup}
use Rattle.call_start.specs.Starts.{insert_of, delete_of, room_of}
use Rattle.state.specs.Answers.{step_reply, start_reply}
use Rattle.state.specs.Steps.{is_idle, held_by, Step, step_refused}
use Rattle.state.specs.Answer.{Answer}
use Rattle.state.specs.Answer.{Stored, Ready, Absent, Value, Refused}
use Rattle.state.specs.declared.Doing.{Doing}
use Rattle.state.specs.declared.Doing.TheVariants.{Idle, Inserting, Deleting}
use Rattle.state.specs.declared.Phase.TheVariants.{NotBegun}
use Rattle.call_step.specs.Calls.{step_held, step_of}
use Rattle.call_step.proofs.StepLaws.{step_sized, idle_refused}
use Rattle.theory_tree.specs.Pairs.{pairs, lookup}
use Rattle.call_change.specs.Updates.{start_room}
use Rattle.demands.proofs.RepairedCard.{is_idle_lem}

-- so many stores, and then the final answer
pub finishes_by : (greatest : ℕ) (o : Option ℕ) (most : ℕ) (w : World (ration_table greatest))
    → Stores greatest most (step_reply (dictionary_answer o)) w → Finishes (ration_table greatest) most (dictionary o) w
finishes_by greatest o most w (k, few, c) =
    record { count = k; few_stores = few; each_stores = λ qs u h. each_stores greatest c qs u h; then_answers = λ qs u h. then_answers greatest c qs u h ∙ dictionary_same o }

past_card : (greatest : ℕ) (rows : Rows) (refuses : ℕ → Type 0) (works : Type 0) (c : List ℕ) (n : ℕ)
    → Sized greatest (length c) n → Formatted c n → ByRows (card_rows greatest c n rows) refuses works → ByRows rows refuses works
unfolding ByRows
past_card greatest rows refuses works c n s f (inl p) = absurd (p.0 s)
past_card greatest rows refuses works c n s f (inr (_, inl p)) = absurd (p.0 f.mark)
past_card greatest rows refuses works c n s f (inr (_, inr (_, inl p))) = absurd (p.0 f)
past_card greatest rows refuses works c n s f (inr (_, inr (_, inr (_, q)))) = q

answer_refused : (a : Answer) (r : ℕ) → r < 64 → step_reply a ≡ refusal r → a ≡ Refused r
unfolding step_reply
answer_refused (Stored place) r h e = absurd (omega (arith, h, ap (λ (x : Reply). x.code) e))
answer_refused Ready r h e = absurd (omega (arith, h, ap (λ (x : Reply). x.code) e))
answer_refused Absent r h e = absurd (omega (arith, h, ap (λ (x : Reply). x.code) e))
answer_refused (Value v) r h e = absurd (omega (arith, h, ap (λ (x : Reply). x.code) e))
answer_refused (Refused k) r h e = ap Refused (ap (λ (x : Reply). x.code) e)

module _ (greatest : ℕ) (w : World (ration_table greatest)) (b : Book) (v : Covered greatest w b) where
  abbrev n : ℕ
  n = v.size

  abbrev i : Inv greatest (only v.size) v.steps w b
  i = v.inv

  nodes_are : w.state.nodes ≡ n
  nodes_are = nodes_same greatest (only n) v.steps w b i

  sized : Sized greatest (length w.card) w.state.nodes
  sized = subst (λ x. Sized greatest (length w.card) x) (sym nodes_are) i.table.sized

  header : Formatted w.card w.state.nodes
  header = subst (λ x. Formatted w.card x) (sym nodes_are) i.table.header

  finds_right : (key : ℕ) → 0 < key → key < key_limit → (ration_table greatest).find w.card key ≡ dictionary (lookup key b.held)
  finds_right key low high =
      find_answers greatest w.card n i.tree key i.table low high ∙ dictionary_same (lookup key (pairs i.tree)) ∙ ap dictionary (same_lookup greatest i key)

  leads_somewhere : (key : ℕ) → (key ≡ 0 → ⊥) → key < key_limit → leads_to w.card key ≡ none → ⊥
  unfolding landed
  leads_somewhere key d high e =
      let g = lands greatest (only n) v.steps w b i key (order key 1 (λ o. absurd (d (omega arith))) (λ o. o)) high in
      none_some (g.0, g.2) (sym e ∙ sym (leads_is w.card w.state.nodes key (sized_on greatest w.card w.state.nodes sized)) ∙ ap landed g.3)

  rests_now : w.state.doing ≡ Idle → WasRests greatest w b.held
  rests_now e = inv_rests greatest n v.steps w b i e

  insert_works : (key value : ℕ) → key < key_limit
      → Starts (ration_table greatest) w.state ((ration_table greatest).insert w.card w.state key value) (inserting key value false)
      → Works (ration_table greatest) greatest (insert key value) ((a : ℕ) × (lookup key b.held ≡ some a)) (InsertRule w.card key value) key w b.held
  unfolding reply_to insert_of start_reply
  insert_works key value high s =
      let e = begun_started (insert_of greatest 1 w.card w.state key value).begun
      (start_small greatest w.card w.state key (Inserting key value NotBegun) (start_room (seen 1 w.card) key (room_of w.state))) s.reply_given in
      record {
        begins = s.reply_given;
        by_rules = subst (λ (r : Reply). Updates (ration_table greatest) ((a : ℕ) × (lookup key b.held ≡ some a)) (InsertRule w.card key value) r
            (happens (ration_table greatest) (insert key value) w)) (dictionary_same (lookup key b.held)) (insert_by_rules greatest w b v key value high e);
        finishes = finishes_by greatest (lookup key b.held) _ (happens (ration_table greatest) (insert key value) w) (insert_stores greatest i key high value e);
      }

  delete_works : (key : ℕ) → key < key_limit
      → Starts (ration_table greatest) w.state ((ration_table greatest).delete w.card w.state key) (deleting key false)
      → Works (ration_table greatest) greatest (delete key) (lookup key b.held ≡ none) (DeleteRule w.card key) key w b.held
  unfolding reply_to delete_of start_reply
  delete_works key high s =
      let e = begun_started (delete_of greatest 1 w.card w.state key).begun (start_small greatest w.card w.state key (Deleting key NotBegun 0) (λ l. true)) s.reply_given in
      record {
        begins = s.reply_given;
        by_rules = subst (λ (r : Reply). Updates (ration_table greatest) (lookup key b.held ≡ none) (DeleteRule w.card key) r
            (happens (ration_table greatest) (delete key) w)) (dictionary_same (lookup key b.held)) (delete_by_rules greatest w b v key high e);
        finishes = finishes_by greatest (lookup key b.held) _ (happens (ration_table greatest) (delete key) w) (delete_stores greatest i key high e);
      }

  inserts_right : (key value : ℕ) → key < key_limit → ByRows (row 7 (Resting (ration_table greatest) w.state → ⊥) (row 6 (key ≡ 0) (row 8 (NoRoom w.card w.state.free key) end)))
      (λ r. reply_to (ration_table greatest) (insert key value) w ≡ refusal r) (Works (ration_table greatest) greatest (insert key value)
      ((a : ℕ) × (lookup key b.held ≡ some a)) (InsertRule w.card key value) key w b.held)
  unfolding ByRows reply_to
  inserts_right key value high =
      go (past_card greatest (row 7 (Resting (ration_table greatest) w.state → ⊥)
      (row 6 (key ≡ 0) (row 9 (leads_to w.card key ≡ none) (row 8 (NoRoom w.card w.state.free key) end))))
      (HandsBack (ration_table greatest) w.state ((ration_table greatest).insert w.card w.state key value))
      (Starts (ration_table greatest) w.state ((ration_table greatest).insert w.card w.state key value) (inserting key value false)) w.card
      w.state.nodes sized header ((demand_1 greatest).inserts w.card w.state key value))
    where
      go : ByRows (row 7 (Resting (ration_table greatest) w.state → ⊥)
          (row 6 (key ≡ 0) (row 9 (leads_to w.card key ≡ none) (row 8 (NoRoom w.card w.state.free key) end))))
          (HandsBack (ration_table greatest) w.state ((ration_table greatest).insert w.card w.state key value))
          (Starts (ration_table greatest) w.state ((ration_table greatest).insert w.card w.state key value) (inserting key value false))
          → ByRows (row 7 (Resting (ration_table greatest) w.state → ⊥) (row 6 (key ≡ 0) (row 8 (NoRoom w.card w.state.free key) end)))
          (λ r. reply_to (ration_table greatest) (insert key value) w ≡ refusal r)
          (Works (ration_table greatest) greatest (insert key value) ((a : ℕ) × (lookup key b.held ≡ some a)) (InsertRule w.card key value) key w b.held)
      go (inl (p, h)) = inl (p, h.number_given)
      go (inr (a, inl (p, h))) = inr (a, inl (p, h.number_given))
      go (inr (a, inr (d, inl (p, h)))) = absurd (leads_somewhere key d high p)
      go (inr (a, inr (d, inr (l, inl (p, h))))) = inr (a, inr (d, inl (p, h.number_given)))
      go (inr (a, inr (d, inr (l, inr (r, s))))) = inr (a, inr (d, inr (r, insert_works key value high s)))

  deletes_right : (key : ℕ) → key < key_limit
      → ByRows (row 7 (Resting (ration_table greatest) w.state → ⊥) (row 6 (key ≡ 0) end)) (λ r. reply_to (ration_table greatest) (delete key) w ≡ refusal r)
      (Works (ration_table greatest) greatest (delete key) (lookup key b.held ≡ none) (DeleteRule w.card key) key w b.held)
  unfolding ByRows reply_to
  deletes_right key high =
      go (past_card greatest (row 7 (Resting (ration_table greatest) w.state → ⊥) (row 6 (key ≡ 0) (row 9 (leads_to w.card key ≡ none) end)))
      (HandsBack (ration_table greatest) w.state ((ration_table greatest).delete w.card w.state key))
      (Starts (ration_table greatest) w.state ((ration_table greatest).delete w.card w.state key) (deleting key false)) w.card
      w.state.nodes sized header ((demand_1 greatest).deletes w.card w.state key))
    where
      go : ByRows (row 7 (Resting (ration_table greatest) w.state → ⊥) (row 6 (key ≡ 0) (row 9 (leads_to w.card key ≡ none) end)))
          (HandsBack (ration_table greatest) w.state ((ration_table greatest).delete w.card w.state key))
          (Starts (ration_table greatest) w.state ((ration_table greatest).delete w.card w.state key) (deleting key false))
          → ByRows (row 7 (Resting (ration_table greatest) w.state → ⊥) (row 6 (key ≡ 0) end)) (λ r. reply_to (ration_table greatest) (delete key) w ≡ refusal r)
          (Works (ration_table greatest) greatest (delete key) (lookup key b.held ≡ none) (DeleteRule w.card key) key w b.held)
      go (inl (p, h)) = inl (p, h.number_given)
      go (inr (a, inl (p, h))) = inr (a, inl (p, h.number_given))
      go (inr (a, inr (d, inl (p, h)))) = absurd (leads_somewhere key d high p)
      go (inr (a, inr (d, inr (l, s)))) = inr (a, inr (d, delete_works key high s))

  idle_ten : w.state.doing ≡ Idle → step_reply (step_of greatest 1 w.card w.state).answer ≡ refusal 10
  unfolding held_by step_refused step_reply
  idle_ten e =
      ap (λ (x : Step). step_reply x.answer)
      (step_sized greatest 1 w.card w.state sized ∙ ap (λ (d : Doing). step_held 1 w.card w.state (held_by d)) e
      ∙ idle_refused 1 w.card w.state (formatted_header w.card w.state.nodes header))

  steps_right : ByRows (row 10 (Resting (ration_table greatest) w.state) end) (λ r. reply_to (ration_table greatest) step w ≡ refusal r)
      ((r : ℕ) → r < 64 → reply_to (ration_table greatest) step w ≡ refusal r → ⊥)
  unfolding ByRows reply_to
  steps_right =
      bool_cases (is_idle w.state.doing)
      (λ q. inl (idle_work w.state.doing q, idle_ten (is_idle_lem w.state.doing q)))
      (λ q. inr (busy_work w.state.doing q, λ r h e. work_not_refused greatest (only n) v.steps w b i q r (answer_refused (step_of greatest 1 w.card w.state).answer r h e)))

  rests_are : Resting (ration_table greatest) w.state → Rests (ration_table greatest) greatest w b.held
  rests_are q =
      let r = rests_now (is_idle_lem w.state.doing (work_idle w.state.doing q)) in
      record { right = rests_right greatest r; levels = r.levels; free_exact = r.free_exact; three_kept = r.three_kept }

  pub is_dictionary : Dictionary (ration_table greatest) greatest w b
  is_dictionary = record { finds = finds_right; inserts = inserts_right; deletes = deletes_right; repairs = opening_by_rules greatest w b v; steps = steps_right; rests = rests_are }

-- DEMAND 2 of the ration table
pub demand_2 : (greatest : ℕ) → Demand2 greatest (ration_table greatest)
demand_2 greatest = record { worked = always greatest (Dictionary (ration_table greatest) greatest) (is_dictionary greatest); formats = formats_right greatest }
