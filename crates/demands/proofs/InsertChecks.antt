-- W-209, of the program `insert_check`.
use mathlib.Core.Path.{◌≡◌, ap, sym, subst, ◌∙◌}
use mathlib.Core.Bool.{true, false}
use mathlib.Core.List.{List, [], ◌∷◌}
use mathlib.Core.Logic.{◌⊎◌, inl, inr, ⊎_map, ◌↔◌}
use mathlib.Core.Option.{Option, none, some}
use Prim.Native.Nat.{ℕ, zero, suc, ◌≤◌, ◌<◌}
use native.Mathlib.Omega.{arith}
use native.Mathlib.Decide.{ℕ_discrete}
use lib.ListN.{length, drop, replicate, length-take}
use borrow.Author.Tests.{ne_eqb}
use Rattle.demands.specs.Demand1.{OpensTo}
use Rattle.demands.specs.Demand3.{most_repair_steps, Survives}
use Rattle.demands.specs.Events.{World, opened, reply_to, happens, run, Opens, Begins, step, from_open}
use Rattle.demands.specs.Book.{kept}
use Rattle.demands.specs.RationTable.{handed, ration_table}
use Rattle.demands.specs.Way.{nodes_on, leads_to, among}
use Rattle.demands.specs.Refusals.{ByRows, open_rows, end, row}
use Rattle.demands.specs.List.{repaired_world}
use Rattle.demands.proofs.ListRight.{repaired_world_lem}
use Rattle.demands.specs.W209.{SplitBelow, TellsHeld, LeadsAbsent, TellsSlot, TellsSplit, TellsOfKey, OfCard, W209}
use Rattle.demands.specs.Worked.{dictionary}
use Rattle.demands.proofs.CardRows.{opens}
use Rattle.demands.proofs.PowerCuts.{covered_nodes, always, demand_3}
use Rattle.demands.proofs.ReplyLaws.{begun_refused}
use Rattle.demands.specs.Dumps.{Damaged}
use Rattle.demands.proofs.DumpsRight.{damaged_exactly}
use Rattle.demands.proofs.RowLaws.{rows_map}
use Rattle.demands.proofs.WayDown.{landed, leads_is, slot_found, slot_is}
use Rattle.demands.proofs.Work.{true_false}
use Rattle.card.specs.Layout.{node_at, key_words, value_words, slot_pairs, leaf_pairs, key_limit}
use Rattle.card.specs.Replies.{refusal}
use Rattle.walk.specs.Descent.{slot_of}
use Rattle.card_dump.proofs.AnswerLaws.{undamaged_whole, read_damaged, read_whole, room_long}
use Rattle.card_dump.specs.Dump.{dump_words, read_answer, words_for, dump_nodes, damaged}
use Rattle.card_dump.specs.Answer.{Length}
use Rattle.card_free.specs.NodeSet.{count_true}
use Rattle.reason.specs.Reason.{Reason}
use Rattle.reason.specs.Reason.{Refused, NoKey, Held, Slot as EmptySlot, Split}
use Rattle.demands.proofs.ReasonText.{unread_text, unopened_text, no_key_text, text_holds, text_refused}
use Rattle.demands.proofs.Reasons.{ReasonHolds}
use Rattle.reason_key.proofs.KeyFileLaws.{key_below}
use Rattle.reason_key.specs.KeyFile.{key_in}
use Rattle.laws.proofs.Cases.{bool_cases}
use Rattle.call_open.specs.Opening.{open_of}
use Rattle.demands.proofs.PowerLoss.{insert_same}
use Rattle.demands.proofs.Room.{LeadsTo}
use Rattle.reason_text.specs.ReasonText.{split_line, reason_text, check_text}
use Rattle.call_repair.specs.Repairing.{card_room, opened_card}
use Rattle.demands.proofs.RepairedCard.{world_from, all_words, steps_uncut}
use Rattle.call_start.specs.Starts.{start_refused, insert_of}
use Rattle.state.specs.Answers.{start_reply}
use Rattle.state.specs.Memory.{Memory}
use Rattle.state.specs.Steps.{Handed}
use Rattle.state.specs.Begun.{Begun}
use Rattle.state.specs.Begun.{Refused as BegunRefused}
use Rattle.text_row.specs.Lines.{refusal_line}
use Rattle.theory_tree.specs.Pairs.{pairs, lookup}
use Rattle.theory_tree.specs.Tree.{Tree}
use Rattle.theory_tree.specs.WellFormed.{WellFormed}
use Rattle.std.specs.Prelude.{Some}

-- ---- a leaf of eleven pairs has no empty slot

pairs_most : (ks vs : List ℕ) → length (slot_pairs ks vs) ≤ length ks
pairs_most [] vs = omega arith
pairs_most (k ∷ ks) [] = omega arith
pairs_most (zero ∷ ks) (v ∷ vs) = omega (arith, pairs_most ks vs)
pairs_most (suc k ∷ ks) (v ∷ vs) = omega (arith, pairs_most ks vs)

pairs_fewer : (ks vs : List ℕ) → among 0 ks ≡ true → length (slot_pairs ks vs) < length ks
unfolding among
pairs_fewer [] vs e = true_false (sym e)
pairs_fewer (k ∷ ks) [] e = omega arith
pairs_fewer (zero ∷ ks) (v ∷ vs) e = omega (arith, pairs_most ks vs)
pairs_fewer (suc k ∷ ks) (v ∷ vs) e = omega (arith, pairs_fewer ks vs (rw (ne_eqb (suc k) 0 (λ z. omega arith)) at e))

no_empty_slot : (leaf : List ℕ) → length (leaf_pairs leaf) ≡ 11 → among 0 (key_words leaf) ≡ false
unfolding leaf_pairs key_words
no_empty_slot leaf eleven =
    bool_cases (among 0 (key_words leaf)) (λ q. absurd (omega (arith, eleven, pairs_fewer (key_words leaf) (value_words leaf) q, length-take 11 (drop 1 leaf)))) (λ q. q)

-- an insert is refused with 8, by its reply
refused_eight : (greatest : ℕ) (c : List ℕ) (m : Memory) (key value : ℕ)
    → (start_reply (insert_of greatest 1 c m key value).begun ≡ refusal 8) ↔ (insert_of greatest 1 c m key value ≡ start_refused 8 m)
unfolding start_refused start_reply happens reply_to
refused_eight greatest c m key value = (to, λ e. ap (λ (h : Handed). start_reply h.begun) e)
  where
    whole : (h : Handed) → h.begun ≡ BegunRefused 8 → h.memory ≡ m → h ≡ record { begun = BegunRefused 8; memory = m }
    whole h e f = ap (λ (b : Begun). record { begun = b; memory = h.memory }) e ∙ ap (λ (x : Memory). record { begun = BegunRefused 8; memory = x }) f

    to : start_reply (insert_of greatest 1 c m key value).begun ≡ refusal 8 → insert_of greatest 1 c m key value ≡ record { begun = BegunRefused 8; memory = m }
    to e =
        let b = begun_refused (insert_of greatest 1 c m key value).begun 8 (omega arith) e in
        whole (insert_of greatest 1 c m key value) b (ap (λ (w : World (ration_table greatest)). w.state)
        (insert_same greatest key value (record { card = c; state = m }) (rw b (omega arith))))

-- what a reason says of the leaf, of any card and state
abbrev SlotAt : (greatest : ℕ) → ℕ → World (ration_table greatest) → Type 0
SlotAt greatest key w = (leaf : ℕ) × (j : ℕ) × (i : ℕ) × LeadsTo greatest w key leaf j × (slot_of (node_at w.card leaf) 0 ≡ Some i)

abbrev FullAt : (greatest : ℕ) → ℕ → ℕ → World (ration_table greatest) → Type 0
FullAt greatest key j w = (leaf : ℕ) × LeadsTo greatest w key leaf j × (length (leaf_pairs (node_at w.card leaf)) ≡ 11)

module _ (greatest : ℕ) (c : List ℕ) where
  abbrev after : World (ration_table greatest)
  after = repaired_world (ration_table greatest) c

  is_after : world_from greatest (opened_card greatest c) ≡ after
  is_after = sym (repaired_world_lem greatest c)

  module _ (t : Tree) (well : WellFormed c t) (opening : Opens (ration_table greatest) c) where
    begins : Begins (ration_table greatest) (opened (ration_table greatest) c) (pairs t)
    begins = from_open c t opening well

    nodes_after : nodes_on after.card ≡ after.state.nodes
    unfolding repaired_world
    nodes_after =
        always greatest (λ w b. nodes_on w.card ≡ w.state.nodes) (λ w b v. covered_nodes greatest v)
        (opened (ration_table greatest) c) (pairs t) begins (replicate most_repair_steps step) (all_words most_repair_steps)

    survives : Survives (ration_table greatest) c (pairs t)
    unfolding run kept
    survives = demand_3 greatest (opened (ration_table greatest) c) (pairs t) begins [] tt

    leads_after : (key leaf j : ℕ) → LeadsTo greatest after key leaf j → leads_to after.card key ≡ some (leaf, j)
    unfolding landed
    leads_after key leaf j l = sym (leads_is after.card after.state.nodes key nodes_after) ∙ ap landed l.1

    module _ (key : ℕ) (low : 0 < key) (high : key < key_limit) (out : List ℕ) where
      found_after : (o : Option ℕ) → lookup key (pairs t) ≡ o → (ration_table greatest).find after.card key ≡ dictionary o
      unfolding repaired_world
      found_after o e = survives.finds (replicate most_repair_steps step) (steps_uncut greatest most_repair_steps (opened (ration_table greatest) c)) key low high ∙ ap dictionary e

      absent_at : (leaf j : ℕ) → lookup key (pairs t) ≡ none → LeadsTo greatest after key leaf j → LeadsAbsent (ration_table greatest) after key out leaf j
      unfolding dictionary
      absent_at leaf j e l = record { not_held = found_after none e; leads = leads_after key leaf j l }

      -- the text of a reason that holds
      tells : (r : Reason) → out ≡ reason_text r → ReasonHolds greatest c t key r → TellsHeld (ration_table greatest) after key out
          ⊎ (TellsSlot (ration_table greatest) after key out ⊎ TellsSplit (ration_table greatest) after key out)
      unfolding ReasonHolds reason_text dictionary slot_found
      tells (Refused r) e h = absurd h
      tells NoKey e h = absurd h
      tells (Held v) e h = inl (record { value = v; found = found_after (some v) h; printed = e })
      tells EmptySlot e h =
          let (leaf, j, i, to, s) = subst (SlotAt greatest key) is_after h.1 in
          inr (inl (record { leaf = leaf; j = j; place = absent_at leaf j h.0 to; empty = sym (slot_is (node_at after.card leaf) 0 (Some i) s); printed = e }))
      tells (Split j free need) e h =
          let (leaf, to, eleven) = subst (FullAt greatest key j) is_after h.1 in
          let are_free : free ≡ count_true after.state.free = sym h.2 ∙ ap (λ (x : World (ration_table greatest)). count_true x.state.free) is_after in
          inr (inr (record {
            leaf = leaf;
            j = j;
            place = absent_at leaf j h.0 to;
            full = no_empty_slot (node_at after.card leaf) eleven;
            printed = e ∙ ap (λ (x : ℕ). split_line j x need) are_free ∙ ap (split_line j (count_true after.state.free)) h.3;
          }))

-- ---- dumps

module _ (greatest : ℕ) (dump file : List ℕ) where
  module _ (whole : damaged greatest dump ≡ false) where
    abbrev size : ℕ
    size = words_for (dump_nodes dump)

    abbrev card : List ℕ
    card = dump_words size dump

    read : read_answer greatest dump (card_room greatest) ≡ Length size
    read = read_whole greatest dump (card_room greatest) whole ∙ room_long size (card_room greatest) (omega (arith, (undamaged_whole greatest dump whole).within))

    told : OpensTo (ration_table greatest) card (handed (open_of greatest card))
        → TellsOfKey (ration_table greatest) (repaired_world (ration_table greatest) card) (key_in file) (check_text greatest dump file)
    told o = go (ℕ_discrete (key_in file) 0)
      where
        opening : Opens (ration_table greatest) card
        opening = ⊎_map (λ z. z.1) (λ z. z.1) o.hands

        text : (key_in file ≡ 0 → ⊥) → (value : ℕ)
            → (insert_of greatest 1 (after greatest card).card (after greatest card).state (key_in file) value ≡ start_refused 8 (after greatest card).state)
            ↔ SplitBelow (check_text greatest dump file)
        text d value =
            subst (λ (x : World (ration_table greatest)).
            (insert_of greatest 1 x.card x.state (key_in file) value ≡ start_refused 8 x.state) ↔ SplitBelow (check_text greatest dump file))
            (is_after greatest card)
            (text_refused greatest dump file size read o.table opening o.sound d value)

        exactly : (key_in file ≡ 0 → ⊥) → (value : ℕ)
            → (start_reply (insert_of greatest 1 (after greatest card).card (after greatest card).state (key_in file) value).begun ≡ refusal 8)
            ↔ SplitBelow (check_text greatest dump file)
        exactly d value =
            let reply = refused_eight greatest (after greatest card).card (after greatest card).state (key_in file) value in
            (λ e. (text d value).0 (reply.0 e), λ p. reply.1 ((text d value).1 p))

        go : Dec (key_in file ≡ 0) → TellsOfKey (ration_table greatest) (repaired_world (ration_table greatest) card) (key_in file) (check_text greatest dump file)
        go (yes z) = inl (z, no_key_text greatest dump file size read o.table opening o.sound z)
        go (no d) =
            let (r, is, holding) = text_holds greatest dump file size read o.table opening o.sound d in
            inr (
              d,
              record {
                reason = tells greatest card o.table o.sound opening (key_in file) (omega (arith, d)) (key_below file) (check_text greatest dump file) r is holding;
                refused_exactly = exactly d;
              },
            )

    of_card : OfCard greatest (ration_table greatest) card (key_in file) (check_text greatest dump file)
    of_card =
        rows_map (open_rows greatest card) (omega arith, (omega arith, (omega arith, (omega arith, (omega arith, tt)))))
        (λ r h z. unopened_text greatest dump file size read r (begun_refused (open_of greatest card).begun r h z.number_given))
        told (opens greatest card)

  of_dump : ByRows (row 11 (Damaged greatest dump) end) (λ r. check_text greatest dump file ≡ refusal_line r)
      (OfCard greatest (ration_table greatest) (dump_words (words_for (dump_nodes dump)) dump) (key_in file) (check_text greatest dump file))
  unfolding ByRows
  of_dump =
      bool_cases (damaged greatest dump) (λ q. inl ((damaged_exactly greatest dump).1 q, unread_text greatest dump file 11 (read_damaged greatest dump (card_room greatest) q)))
      (λ q. inr (λ z. true_false (sym ((damaged_exactly greatest dump).0 z) ∙ q), of_card q))

pub w_209 : (greatest : ℕ) → W209 greatest (ration_table greatest) (check_text greatest)
w_209 greatest = record { dumps = of_dump greatest }
