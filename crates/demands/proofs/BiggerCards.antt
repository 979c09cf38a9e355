-- Document 02, W-210: the calls for a greatest N beside those for a greater one. Every call looks at the greatest N through the number of
-- nodes that a card's length gives it, and nowhere else.
use mathlib.Core.Path.{◌≡◌, refl, sym, ap, ◌∙◌}
use mathlib.Core.List.{List}
use mathlib.Core.Logic.{◌⊎◌, inl, inr}
use Prim.Native.Nat.{ℕ, ◌≤◌, ◌<◌}
use native.Mathlib.Omega.{arith}
use lib.ListN.{length}
use Rattle.laws.proofs.Cases.{bool_cases}
use Rattle.demands.proofs.Work.{true_false}
use Rattle.card.specs.Header.{nodes_of_length, card_refusal, Sized}
use Rattle.card.specs.Layout.{greatest_nodes, program_nodes}
use Rattle.card.proofs.HeaderLaws.{limited_within, nodes_long, sized_nodes, card_no_length}
use Rattle.card_dump.specs.Answers.{dump_reply}
use Rattle.card_dump.specs.Dump.{padded_length, dump_nodes, damaged, read_answer, write_answer}
use Rattle.card_dump.specs.Answer.{Refused}
use Rattle.card_dump.proofs.AnswerLaws.{Whole, undamaged_whole, whole_undamaged, damaged_long, damaged_many, read_damaged}
use Rattle.call_find.specs.Answers.{found_reply}
use Rattle.call_find.specs.Find.{find_of}
use Rattle.call_open.specs.Opening.{open_of}
use Rattle.call_start.specs.Starts.{format_of, start_of, insert_of, delete_of, start_refused}
use Rattle.call_step.specs.Calls.{step_of}
use Rattle.state.specs.Answers.{start_reply, step_reply}
use Rattle.state.specs.Steps.{no_beginning, step_refused}
use Rattle.walk_next.specs.Successor.{next_of, next_reply}
use Rattle.list_pairs.proofs.SummaryLaws.{dump_refused}
use Rattle.list_text.specs.Text.{list_text, dump_text}
use Rattle.reason_text.specs.ReasonText.{check_text}
use Rattle.call_repair.specs.Repairing.{card_room}
use Rattle.demands.proofs.ListText.{text_right}
use Rattle.demands.proofs.ReasonText.{unread_text}
use Rattle.demands.specs.W210.{SameCalls, RefusedAll, W210}

-- ---- cards

sized_more : {less more len n : ℕ} → less ≤ more → Sized less len n → Sized more len n
sized_more h s = record { words = s.words; least = s.least; most = s.most; within = omega (arith, s.within, h) }

same_nodes : (less more : ℕ) → less ≤ more → (len n : ℕ) → Sized less len n → nodes_of_length less len ≡ nodes_of_length more len
same_nodes less more h len n s = sized_nodes less len n s ∙ sym (sized_nodes more len n (sized_more h s))

module _ (less more : ℕ) (c : List ℕ) (e : nodes_of_length less (length c) ≡ nodes_of_length more (length c)) where
  same_refusal : card_refusal less c ≡ card_refusal more c
  unfolding card_refusal
  same_refusal = rw e

  same_calls : SameCalls less more c
  unfolding find_of next_of format_of open_of insert_of delete_of start_of step_of card_refusal
  same_calls =
      record {
        finds = λ key. rw e;
        nexts = λ number. rw e;
        formats = rw e;
        opens = rw e;
        inserts = λ m key value. rw e;
        deletes = λ m key. rw e;
        steps = λ m. rw e;
      }

-- a card of more nodes has, for these calls, the length of none
too_many : (greatest : ℕ) (c : List ℕ) (n : ℕ) → Sized greatest_nodes (length c) n → greatest < n → nodes_of_length greatest (length c) ≡ 0
too_many greatest c n s h = nodes_long greatest (length c) (omega (arith, s.words, s.least)) (omega (arith, s.words, limited_within greatest))

refused_all : (greatest : ℕ) (c : List ℕ) → nodes_of_length greatest (length c) ≡ 0 → RefusedAll greatest c
unfolding find_of next_of format_of open_of insert_of delete_of start_of step_of found_reply next_reply start_reply step_reply no_beginning start_refused step_refused
refused_all greatest c z =
    let r : card_refusal greatest c ≡ 1 = card_no_length greatest c 0 (sym z) refl in
    record {
      finds = λ key. rw r;
      nexts = λ number. rw r;
      formats = rw z;
      opens = rw r;
      inserts = λ m key value. rw z;
      deletes = λ m key. rw z;
      steps = λ m. rw z;
    }

-- ---- dumps

whole_more : {less more : ℕ} {dump : List ℕ} → less ≤ more → Whole less dump → Whole more dump
whole_more h w = record { least = w.least; most = w.most; within = omega (arith, w.within, h); padded = w.padded; zeros = w.zeros }

same_damage : (less more : ℕ) → less ≤ more → (dump : List ℕ) → dump_nodes dump ≤ less → damaged less dump ≡ damaged more dump
same_damage less more h dump few =
    bool_cases (damaged less dump)
    (λ l. bool_cases (damaged more dump) (λ m. l ∙ sym m)
    (λ m. let w = undamaged_whole more dump m in
    true_false (sym l ∙ whole_undamaged less dump (record { least = w.least; most = w.most; within = few; padded = w.padded; zeros = w.zeros }))))
    (λ l. l ∙ sym (whole_undamaged more dump (whole_more h (undamaged_whole less dump l))))

same_read : (less more : ℕ) → less ≤ more → (dump : List ℕ) → dump_nodes dump ≤ less → (lent : ℕ) → read_answer less dump lent ≡ read_answer more dump lent
unfolding read_answer
same_read less more h dump few lent = rw (same_damage less more h dump few)

same_write : (less more : ℕ) → less ≤ more → (c : List ℕ) (n : ℕ) → Sized less (length c) n → (lent : ℕ) → write_answer less c lent ≡ write_answer more c lent
unfolding write_answer
same_write less more h c n s lent = rw (same_refusal less more c (same_nodes less more h (length c) n s))

-- the dump of a card of more nodes
dump_of_more : (greatest : ℕ) (dump : List ℕ) → greatest < dump_nodes dump → (lent : ℕ) → read_answer greatest dump lent ≡ Refused 11
dump_of_more greatest dump h lent = read_damaged greatest dump lent (damaged_many greatest dump (omega (arith, limited_within greatest)))

-- ---- the programs

not_read : (dump : List ℕ) → (57856 < length dump) ⊎ (600 < dump_nodes dump) → read_answer program_nodes dump (card_room program_nodes) ≡ Refused 11
unfolding padded_length
not_read dump (inl h) = read_damaged program_nodes dump (card_room program_nodes) (damaged_long program_nodes dump h)
not_read dump (inr h) = dump_of_more program_nodes dump h (card_room program_nodes)

pub w_210 : W210 (λ greatest dump lent. dump_reply (read_answer greatest dump lent)) (λ greatest c lent. dump_reply (write_answer greatest c lent)) (dump_text program_nodes) (check_text program_nodes)
unfolding dump_reply
w_210 =
    record {
      cards = λ less more h c n s. same_calls less more c (same_nodes less more h (length c) n s);
      older = λ greatest c n s h. refused_all greatest c (too_many greatest c n s h);
      reads = λ less more h dump few lent. ap dump_reply (same_read less more h dump few lent);
      writes = λ less more h c n s lent. ap dump_reply (same_write less more h c n s lent);
      older_dump = λ greatest dump h lent. rw (dump_of_more greatest dump h lent);
      programs = λ dump file h. (
        text_right program_nodes dump ∙ ap list_text (dump_refused program_nodes dump (card_room program_nodes) 11 (not_read dump h)),
        unread_text program_nodes dump file 11 (not_read dump h),
      );
      ways = refl;
      levels_at_600 = refl;
      stores_at_600 = refl;
      levels_at_2600 = refl;
      stores_at_2600 = refl;
    }
