-- DEMAND 2, "each step stores exactly the word that the tree's rules in document 01 name": inserts, deletes and opening's repair.
use mathlib.Core.Path.{◌≡◌, refl, ap, sym, subst, ◌∙◌}
use mathlib.Core.Bool.{Bool, true, false}
use mathlib.Core.List.{List, []}
use mathlib.Core.Logic.{◌⊎◌, inl, inr}
use mathlib.Core.Option.{Option as Maybe, none, some}
use Prim.Native.Nat.{ℕ, suc, ◌+◌, ◌<◌}
use native.Mathlib.Omega.{arith}
use lib.Dec.{eqb, ltb}
use lib.ListN.{length, get_or}
use Rattle.card.specs.Lines.{seen}
use Rattle.theory_change.proofs.Line.{only}
use Rattle.card.specs.Header.{nodes_of_length, card_refusal}
use Rattle.card.specs.Layout.{key_limit, node_at, search_start}
use Rattle.card.specs.Replies.{Reply, ready, started}
use Rattle.card.specs.Stores.{Store}
use Rattle.demands.specs.Book.{Book, book, feed, told, put, remove, empty}
use Rattle.demands.specs.Demand2.{Repairs, Updates}
use Rattle.demands.specs.Events.{World, opened, happens, insert, delete}
use Rattle.demands.specs.Way.{nodes_on}
use Rattle.demands.specs.Rules.{InsertRule, DeleteRule}
use Rattle.demands.proofs.ByRules.{Begun, repairs_by_rules, first_by_rules, put_turns, remove_turns}
use Rattle.demands.specs.RationTable.{ration_table}
use Rattle.demands.proofs.PowerCuts.{Covered, covered_nodes}
use Rattle.demands.proofs.StartRows.{started_doing}
use Rattle.demands.proofs.StepRows.{next_final}
use Rattle.demands.proofs.Making.{Nears}
use Rattle.demands.proofs.AnswerNumbers.{card_small}
use Rattle.demands.proofs.PlannedUpdates.{insert_by_rule, delete_by_rule, insert_short, delete_short}
use Rattle.walk.specs.Descent.{slot_of}
use Rattle.card_free.specs.NodeSet.{count_true}
use Rattle.laws.proofs.Cases.{bool_cases, impossible}
use Rattle.call_open.specs.Opening.{open_sound, open_checked, open_of}
use Rattle.change_plan.specs.Change.{Change}
use Rattle.change_plan.specs.Planning.{take_numbers, over_numbers, giving, balanced, prepared}
use Rattle.demands.proofs.BookLaws.{dictionary_answer}
use Rattle.demands.proofs.Invariant.{job_repair, job_insert, job_delete}
use Rattle.demands.proofs.PowerLoss.{reopened_inv, reopened_due}
use Rattle.demands.proofs.Starting.{nodes_same, kept_insert, kept_delete}
use Rattle.card_check.specs.Check.{Findings, table_check}
use Rattle.card_check.specs.Counting.{table_counted}
use Rattle.call_start.specs.Starts.{insert_of, delete_of, room_of}
use Rattle.state.specs.Answers.{step_reply, start_reply}
use Rattle.state.specs.Memory.{no_memory, resting}
use Rattle.state.specs.Steps.{is_idle, Handed, no_beginning}
use Rattle.state.specs.Answer.{Answer}
use Rattle.state.specs.Answer.{Ready, Absent, Value}
use Rattle.state.specs.Begun.{Started}
use Rattle.state.specs.declared.Doing.TheVariants.{Inserting, Deleting, Repairing}
use Rattle.state.specs.declared.Phase.TheVariants.{NotBegun, InHand, Decided}
use Rattle.call_step.specs.Calls.{repair_steps}
use Rattle.theory_tree.specs.Pairs.{lookup}
use Rattle.call_change.proofs.Preparations.{next_stores}
use Rattle.state.proofs.Tasks.{in_hand_lem, putting, taking}
use Rattle.state.specs.declared.Task.TheVariants.{PutIn, TakeOut}
use Rattle.call_change.specs.Updates.{Reason, landing, insert_reason, insert_change, delete_change, insert_in, delete_in, no_way, in_leaf, next_change, start_room, held, slot, full}
use Rattle.std.specs.Prelude.{Option, Some, None}
use Rattle.walk.specs.declared.Landing.{Landing}

-- what opening hands back: no stores to come, and a repair where it says so
abbrev OpenDoing : Handed → Type 0
OpenDoing h = (h.memory.rest ≡ []) × ((start_reply h.begun ≡ started → ⊥) ⊎ ((key : ℕ) × (h.memory.doing ≡ Repairing key)))

none_doing : (r : ℕ) → r < 64 → OpenDoing (no_beginning r)
unfolding no_beginning no_memory start_reply
none_doing r h = (refl, inl (λ e. omega (arith, h, ap (λ (x : Reply). x.code) e)))

sound_doing : (n last : ℕ) (totals : List ℕ) (f : Findings) → OpenDoing (open_sound n last totals f)
unfolding open_sound resting start_reply
sound_doing n last totals f =
    bool_cases (ltb (count_true f.free) (3 + f.run)) (λ q. rw q (none_doing 5 (omega arith)))
    (λ q. bool_cases f.violated (λ a. rw (q, a) (refl, inr (_, refl))) (λ a. rw (q, a) (refl, inl (λ e. omega (arith, ap (λ (x : Reply). x.code) e)))))

checked_doing : (n last : ℕ) (totals : List ℕ) (found : Maybe (ℕ × Findings)) → OpenDoing (open_checked n last totals found)
unfolding open_checked
checked_doing n last totals none = none_doing 4 (omega arith)
checked_doing n last totals (some r) = sound_doing n last totals r.1

open_doing : (greatest : ℕ) (c : List ℕ) → OpenDoing (open_of greatest c)
unfolding open_of
open_doing greatest c =
    bool_cases (eqb (card_refusal greatest c) 0) (λ q. rw q
    (checked_doing (nodes_of_length greatest (length c)) (search_start c) (table_counted c) (table_check c (nodes_of_length greatest (length c)))))
    (λ q. rw q (none_doing (card_refusal greatest c) (card_small greatest c)))

-- a change that is given nodes is not nothing
giving_not_balanced : (k : ℕ) (free : List Bool) (last : ℕ) (change : List ℕ → Change) → giving k free last change ≡ balanced → ⊥
unfolding giving over_numbers
giving_not_balanced k free last change e = at (take_numbers k free last) e
  where
    at : (o : Maybe (List ℕ)) → over_numbers free last change o ≡ balanced → ⊥
    at none q = impossible (cc)
    at (some ms) q = impossible (cc)

module _ (greatest : ℕ) (w : World (ration_table greatest)) (b : Book) (v : Covered greatest w b) where
  -- a started update is near its end, and its answer is the dictionary's
  insert_nears : (key value : ℕ) → key < key_limit → (insert_of greatest 1 w.card w.state key value).begun ≡ Started
      → (most : ℕ) × Nears greatest (dictionary_answer (lookup key b.held)) most (happens (ration_table greatest) (insert key value) w)
      × (is_idle (happens (ration_table greatest) (insert key value) w).state.doing ≡ false)
  unfolding happens
  insert_nears key value high e =
      let q = kept_insert greatest v.size v.steps w b v.inv key value high in (
        q.0,
        record { book_now = feed (told (ration_table greatest) (insert key value) w) b; covered = record { size = v.size; steps = q.0; inv = q.1 }; soon = omega arith; is_due = q.2.new_due e },
        q.2.busy e,
      )

  delete_nears : (key : ℕ) → key < key_limit → (delete_of greatest 1 w.card w.state key).begun ≡ Started
      → (most : ℕ) × Nears greatest (dictionary_answer (lookup key b.held)) most (happens (ration_table greatest) (delete key) w)
      × (is_idle (happens (ration_table greatest) (delete key) w).state.doing ≡ false)
  unfolding happens
  delete_nears key high e =
      let q = kept_delete greatest (only v.size) v.steps w b v.inv key high in (
        q.0,
        record { book_now = feed (told (ration_table greatest) (delete key) w) b; covered = record { size = v.size; steps = q.0; inv = q.1 }; soon = omega arith; is_due = q.2.new_due e },
        q.2.busy e,
      )

  -- what is planned for a started update
  insert_begun : (key value : ℕ) (free : List Bool) (last m link : ℕ) (words : List ℕ) (r : Reason) → (insert_change key value free last m link words r).doing ≡ Inserting key value InHand
  unfolding insert_change
  insert_begun key value free last m link words (held a) = refl
  insert_begun key value free last m link words (slot i) = refl
  insert_begun key value free last m link words full = refl

  delete_begun : (key : ℕ) (free : List Bool) (last m : ℕ) (words : List ℕ) (s : Option ℕ) → (a : ℕ) × ((delete_change key free last m words s).doing ≡ Deleting key InHand a)
  unfolding delete_change
  delete_begun key free last m words (Some i) = (get_or words (12 + i) 0, refl)
  delete_begun key free last m words None = (0, refl)

  prepared_insert : (c : List ℕ) (key value : ℕ) (free : List Bool) (last : ℕ) (l : Option Landing) {ss : List Store} {fewer : List Bool} {now : ℕ}
      {out : List ℕ} → (in_leaf c (Inserting key value NotBegun) (insert_in key value free last) l).preparation ≡ prepared ss fewer now out
      → Begun (in_leaf c (Inserting key value NotBegun) (insert_in key value free last) l).doing
  unfolding in_leaf no_way
  prepared_insert c key value free last None e = impossible (cc)
  prepared_insert c key value free last (Some l) e =
      subst Begun (sym (insert_begun key value free last l.node l.link (node_at c l.node) (insert_reason (node_at c l.node) key)))
      (InHand, key, Absent, some (put key value), job_insert in_hand_lem)

  prepared_delete : (c : List ℕ) (key : ℕ) (free : List Bool) (last : ℕ) (l : Option Landing) {ss : List Store} {fewer : List Bool} {now : ℕ}
      {out : List ℕ} → (in_leaf c (Deleting key NotBegun 0) (delete_in key free last) l).preparation ≡ prepared ss fewer now out
      → Begun (in_leaf c (Deleting key NotBegun 0) (delete_in key free last) l).doing
  unfolding in_leaf no_way
  prepared_delete c key free last None e = impossible (cc)
  prepared_delete c key free last (Some l) e =
      let d = delete_begun key free last l.node (node_at c l.node) (slot_of (node_at c l.node) key) in
      subst Begun (sym d.1) (InHand, key, Value d.0, some (remove key), job_delete in_hand_lem)

  -- where nothing is planned, the key is held by an insert and absent to a delete
  insert_nothing : (c : List ℕ) (key value : ℕ) (free : List Bool) (last : ℕ) (l : Option Landing) (o : Maybe ℕ)
      → (in_leaf c (Inserting key value NotBegun) (insert_in key value free last) l).preparation ≡ balanced
      → (in_leaf c (Inserting key value NotBegun) (insert_in key value free last) l).final ≡ dictionary_answer o → (a : ℕ) × (o ≡ some a)
  unfolding in_leaf no_way insert_change dictionary_answer
  insert_nothing c key value free last None o e q = impossible (cc)
  insert_nothing c key value free last (Some l) o e q = at (insert_reason (node_at c l.node) key) e q o refl
    where
      at : (r : Reason) → (insert_change key value free last l.node l.link (node_at c l.node) r).preparation ≡ balanced
          → (insert_change key value free last l.node l.link (node_at c l.node) r).final ≡ dictionary_answer o → (p : Maybe ℕ) → o ≡ p → (a : ℕ) × (o ≡ some a)
      at (held a) e q none k = let y : ◌≡◌ {A = Answer} (Value a) Absent = q ∙ ap dictionary_answer k in impossible (cc)
      at (held a) e q (some v) k = (v, k)
      at (slot i) e q p k = impossible (cc)
      at full e q p k = absurd (giving_not_balanced 3 free last _ e)

  delete_nothing : (c : List ℕ) (key : ℕ) (free : List Bool) (last : ℕ) (l : Option Landing) (o : Maybe ℕ)
      → (in_leaf c (Deleting key NotBegun 0) (delete_in key free last) l).preparation ≡ balanced
      → (in_leaf c (Deleting key NotBegun 0) (delete_in key free last) l).final ≡ dictionary_answer o → o ≡ none
  unfolding in_leaf no_way delete_change dictionary_answer
  delete_nothing c key free last None o e q = impossible (cc)
  delete_nothing c key free last (Some l) o e q = at (slot_of (node_at c l.node) key) e q o refl
    where
      at : (s : Option ℕ) → (delete_change key free last l.node (node_at c l.node) s).preparation ≡ balanced
          → (delete_change key free last l.node (node_at c l.node) s).final ≡ dictionary_answer o → (p : Maybe ℕ) → o ≡ p → o ≡ none
      at (Some i) e q p k = impossible (cc)
      at None e q none k = k
      at None e q (some v) k = let y : ◌≡◌ {A = Answer} Absent (Value v) = q ∙ ap dictionary_answer k in impossible (cc)

  pub insert_by_rules : (key value : ℕ) → key < key_limit → (insert_of greatest 1 w.card w.state key value).begun ≡ Started
      → Updates (ration_table greatest) ((a : ℕ) × (lookup key b.held ≡ some a)) (InsertRule w.card key value)
      (step_reply (dictionary_answer (lookup key b.held))) (happens (ration_table greatest) (insert key value) w)
  unfolding happens insert_of next_change
  insert_by_rules key value high e =
      let q = insert_nears key value high e in
      let u = q.1.covered in
      let m = (insert_of greatest 1 w.card w.state key value).memory in
      let d : m.doing ≡ Inserting key value NotBegun = started_doing greatest w.card w.state (Inserting key value NotBegun) (start_room (seen 1 w.card) key (room_of w.state)) key e in
      let n : nodes_on w.card ≡ u.size = covered_nodes greatest u ∙ nodes_same greatest (only u.size) u.steps (happens (ration_table greatest) (insert key value) w)
      q.1.book_now u.inv in
      first_by_rules greatest (dictionary_answer (lookup key b.held)) q.0 (happens (ration_table greatest) (insert key value) w) q.1 q.2
      ((a : ℕ) × (lookup key b.held ≡ some a)) (InsertRule w.card key value) (λ given out ss r. insert_short r)
      (next_change w.card u.size m.free m.last (Inserting key value NotBegun) (PutIn key value))
      (put_turns greatest key value u.inv.table u.inv.stage d)
      (next_final greatest w.card u.size m.free m.last putting)
      (next_stores m.free m.last w.card u.size (Inserting key value NotBegun) (PutIn key value))
      (insert_nothing w.card key value m.free m.last (landing w.card u.size key) (lookup key b.held))
      (λ ss fewer now out p. (
        insert_by_rule w.card u.size key n (Inserting key value NotBegun) value p,
        prepared_insert w.card key value m.free m.last (landing w.card u.size key) p,
      ))

  pub delete_by_rules : (key : ℕ) → key < key_limit → (delete_of greatest 1 w.card w.state key).begun ≡ Started
      → Updates (ration_table greatest) (lookup key b.held ≡ none) (DeleteRule w.card key) (step_reply (dictionary_answer (lookup key b.held))) (happens (ration_table greatest) (delete key) w)
  unfolding happens delete_of next_change
  delete_by_rules key high e =
      let q = delete_nears key high e in
      let u = q.1.covered in
      let m = (delete_of greatest 1 w.card w.state key).memory in
      let d : m.doing ≡ Deleting key NotBegun 0 = started_doing greatest w.card w.state (Deleting key NotBegun 0) (λ l. true) key e in
      let n : nodes_on w.card ≡ u.size = covered_nodes greatest u ∙ nodes_same greatest (only u.size) u.steps (happens (ration_table greatest) (delete key) w) q.1.book_now u.inv in
      first_by_rules greatest (dictionary_answer (lookup key b.held)) q.0 (happens (ration_table greatest) (delete key) w) q.1 q.2
      (lookup key b.held ≡ none) (DeleteRule w.card key) (λ given out ss r. delete_short r)
      (next_change w.card u.size m.free m.last (Deleting key NotBegun 0) (TakeOut key))
      (remove_turns greatest key u.inv.table u.inv.stage d)
      (next_final greatest w.card u.size m.free m.last taking)
      (next_stores m.free m.last w.card u.size (Deleting key NotBegun 0) (TakeOut key))
      (delete_nothing w.card key m.free m.last (landing w.card u.size key) (lookup key b.held))
      (λ ss fewer now out p. (delete_by_rule w.card u.size key n (Deleting key NotBegun 0) p, prepared_delete w.card key m.free m.last (landing w.card u.size key) p))

  -- opening's repair
  pub opening_by_rules : ((ration_table greatest).open_card w.card).reply ≡ started → Repairs (ration_table greatest) ready (opened (ration_table greatest) w.card)
  unfolding start_reply step_reply
  opening_by_rules e = at (open_doing greatest w.card)
    where
      at : ((open_of greatest w.card).memory.rest ≡ [])
          × ((start_reply (open_of greatest w.card).begun ≡ started → ⊥) ⊎ ((key : ℕ) × ((open_of greatest w.card).memory.doing ≡ Repairing key)))
          → Repairs (ration_table greatest) ready (opened (ration_table greatest) w.card)
      at (r, inl not) = absurd (not e)
      at (r, inr (key, d)) =
          repairs_by_rules greatest Ready (suc repair_steps) repair_steps (opened (ration_table greatest) w.card) (omega arith)
          (record {
            book_now = book b.held empty;
            covered = record { size = v.size; steps = repair_steps; inv = reopened_inv greatest v.size w.card v.inv.tree b.held v.inv.table v.inv.openable v.inv.same };
            soon = omega arith;
            is_due = reopened_due greatest v.size w.card v.inv.tree b.held v.inv.table v.inv.openable v.inv.same;
          })
          r (subst Begun (sym d) (Decided, key, Ready, none, job_repair))
