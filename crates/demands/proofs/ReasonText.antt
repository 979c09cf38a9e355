-- WHAT THE PROGRAM `insert_check` PRINTS (document 02, W-209): of every dump and every key file, the text of the reason that holds.
-- The function `reason_text::check_text` is proved to make the text `check_text`, and the program writes that.
use mathlib.Core.Path.{◌≡◌, ap, sym, ◌∙◌}
use mathlib.Core.List.{List, ◌++◌}
use mathlib.Core.Logic.{◌↔◌}
use Prim.Native.Nat.{ℕ, ◌≤◌, ◌<◌}
use native.Mathlib.Omega.{arith}
use Rattle.card.specs.Layout.{lowest_key}
use Rattle.card_dump.specs.Dump.{dump_words, read_answer}
use Rattle.card_dump.specs.Answer.{Length, Refused as ReadRefused}
use Rattle.reason.specs.InsertReason.{reason_of}
use Rattle.reason.proofs.InsertReasonLaws.{of_refused, dump_refused, dump_read}
use Rattle.reason.specs.Reason.{Reason}
use Rattle.reason.specs.Reason.{Split}
use Rattle.demands.proofs.Reasons.{ReasonHolds, no_key, reason_holds, refused_exactly}
use Rattle.demands.proofs.ReasonTold.{split_told}
use Rattle.reason_key.specs.KeyFile.{key_in}
use Rattle.reason_key.proofs.KeyFileLaws.{key_below}
use Rattle.call_open.specs.Opening.{open_of}
use Rattle.demands.specs.Events.{Opens}
use Rattle.demands.specs.RationTable.{ration_table}
use Rattle.reason_text.specs.ReasonText.{no_key_word, split_line, reason_text, check_text}
use Rattle.call_repair.specs.Repairing.{card_room, opened_card}
use Rattle.call_start.specs.Starts.{start_refused, insert_of}
use Rattle.state.specs.Begun.{Refused as BegunRefused}
use Rattle.text_row.specs.Lines.{line_feed, refusal_line}
use Rattle.theory_tree.specs.Tree.{Tree}
use Rattle.theory_tree.specs.WellFormed.{WellFormed}

module _ (greatest : ℕ) (dump file : List ℕ) where
  -- "refusals print first, as `list` prints them": where the dump is refused
  pub unread_text : (number : ℕ) → read_answer greatest dump (card_room greatest) ≡ ReadRefused number → check_text greatest dump file ≡ refusal_line number
  unfolding check_text reason_text
  unread_text number e = ap reason_text (dump_refused greatest dump (card_room greatest) (key_in file) number e)

  module _ (size : ℕ) (read : read_answer greatest dump (card_room greatest) ≡ Length size) where
    card_text : check_text greatest dump file ≡ reason_text (reason_of greatest (dump_words size dump) (key_in file))
    unfolding check_text
    card_text = ap reason_text (dump_read greatest dump (card_room greatest) (key_in file) size read)

    -- and where opening refuses its card
    pub unopened_text : (number : ℕ) → (open_of greatest (dump_words size dump)).begun ≡ BegunRefused number → check_text greatest dump file ≡ refusal_line number
    unfolding reason_text
    unopened_text number e = card_text ∙ ap reason_text (of_refused greatest (dump_words size dump) (key_in file) number e)

    module _ (t : Tree) (accepted : Opens (ration_table greatest) (dump_words size dump)) (well : WellFormed (dump_words size dump) t) where
      -- "prints `no key`"
      pub no_key_text : key_in file ≡ 0 → check_text greatest dump file ≡ no_key_word ++ line_feed
      unfolding reason_text
      no_key_text z = card_text ∙ ap (λ (key : ℕ). reason_text (reason_of greatest (dump_words size dump) key)) z ∙ ap reason_text (no_key greatest (dump_words size dump) t accepted well)

      module _ (some_key : key_in file ≡ 0 → ⊥) where
        low : lowest_key ≤ key_in file
        low = omega (arith, some_key)

        -- "the reason handed over for printing is the one that holds": the text is that of a reason that holds
        pub text_holds : (r : Reason) × (check_text greatest dump file ≡ reason_text r) × ReasonHolds greatest (dump_words size dump) t (key_in file) r
        text_holds = (reason_of greatest (dump_words size dump) (key_in file), card_text, reason_holds greatest (dump_words size dump) t accepted well (key_in file) low (key_below file))

        -- "an insert of that key would be refused 8 exactly when `split` is printed with F below M": J, F and M of the line printed
        pub text_refused : (value : ℕ)
            → (insert_of greatest 1 (opened_card greatest (dump_words size dump)).card (opened_card greatest (dump_words size dump)).memory (key_in file) value
            ≡ start_refused 8 (opened_card greatest (dump_words size dump)).memory)
            ↔ ((j : ℕ) × (free : ℕ) × (need : ℕ) × (check_text greatest dump file ≡ split_line j free need) × (free < need))
        unfolding reason_text
        text_refused value = (to, from)
          where
            exactly : (insert_of greatest 1 (opened_card greatest (dump_words size dump)).card
                (opened_card greatest (dump_words size dump)).memory (key_in file) value ≡ start_refused 8 (opened_card greatest (dump_words size dump)).memory)
                ↔ ((j : ℕ) × (free : ℕ) × (need : ℕ) × (reason_of greatest (dump_words size dump) (key_in file) ≡ Split j free need) × (free < need))
            exactly = refused_exactly greatest (dump_words size dump) t accepted well (key_in file) low (key_below file) value

            to : insert_of greatest 1 (opened_card greatest (dump_words size dump)).card (opened_card greatest (dump_words size dump)).memory (key_in file) value
                ≡ start_refused 8 (opened_card greatest (dump_words size dump)).memory
                → (j : ℕ) × (free : ℕ) × (need : ℕ) × (check_text greatest dump file ≡ split_line j free need) × (free < need)
            to e = let (j, free, need, is, less) = exactly.0 e in (j, free, need, card_text ∙ ap reason_text is, less)

            from : ((j : ℕ) × (free : ℕ) × (need : ℕ) × (check_text greatest dump file ≡ split_line j free need) × (free < need))
                → insert_of greatest 1 (opened_card greatest (dump_words size dump)).card (opened_card greatest (dump_words size dump)).memory (key_in file) value
                ≡ start_refused 8 (opened_card greatest (dump_words size dump)).memory
            from (j, free, need, is, less) = exactly.1 (j, free, need, split_told (reason_of greatest (dump_words size dump) (key_in file)) j free need (sym card_text ∙ is), less)
