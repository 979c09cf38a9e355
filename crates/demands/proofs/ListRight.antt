-- The program `list`, of the ration table.
use mathlib.Core.Path.{◌≡◌, ap, sym, ◌∙◌}
use mathlib.Core.Bool.{false}
use mathlib.Core.List.{List}
use mathlib.Core.Logic.{⊎_map, inl, inr}
use Prim.Native.Nat.{ℕ, ◌^◌, ◌<◌}
use native.Mathlib.Omega.{arith}
use lib.ListN.{length, get_or}
use Rattle.demands.proofs.WayDown.{sized_on}
use Rattle.demands.specs.Demand1.{OpensTo}
use Rattle.demands.specs.Events.{World, Opens}
use Rattle.demands.specs.List.{repaired_world, ListsRight, ListProgram}
use Rattle.demands.specs.Way.{nodes_on}
use Rattle.demands.specs.Refusals.{ByRows, open_rows, end, row}
use Rattle.demands.specs.RationTable.{handed, ration_table}
use Rattle.demands.proofs.CardRows.{opens}
use Rattle.demands.proofs.ReplyLaws.{begun_refused}
use Rattle.demands.proofs.Work.{true_false}
use Rattle.demands.specs.Dumps.{Damaged}
use Rattle.demands.proofs.DumpsRight.{damaged_exactly}
use Rattle.demands.proofs.RowLaws.{rows_map}
use Rattle.card.proofs.HeaderLaws.{sized_nodes}
use Rattle.card.specs.Header.{nodes_of_length, Sized, Formatted}
use Rattle.card.specs.Replies.{refusal}
use Rattle.card_dump.proofs.AnswerLaws.{Good, undamaged_whole, whole_undamaged, read_damaged, read_whole, room_long}
use Rattle.card_dump.proofs.RoundTrip.{dump_words_lem, dump_whole, dump_nodes_lem}
use Rattle.card_dump.specs.Dump.{dump_of, dump_words, words_for, dump_nodes, damaged}
use Rattle.laws.proofs.Cases.{bool_cases}
use Rattle.list_pairs.proofs.SummaryLaws.{card_refused, dump_refused, dump_read}
use Rattle.list_pairs.specs.Listing.{Listing, refused, listed, list_card, list_dump}
use Rattle.demands.proofs.ListedMap.{ListedRight, listing_right}
use Rattle.call_open.specs.Opening.{open_of}
use Rattle.list_text.specs.Text.{list_text, dump_text}
use Rattle.demands.proofs.ListText.{text_right}
use Rattle.demands.proofs.Accepting.{accepted_card}
use Rattle.call_repair.specs.Repairing.{card_room, opened_card}
use Rattle.demands.proofs.RepairedCard.{world_from, opened_run}
use Rattle.theory_shapes.proofs.Unique.{one_held}
use Rattle.theory_tree.specs.Tree.{Tree}
use Rattle.theory_tree.specs.WellFormed.{WellFormed}

-- ---- the repaired card

pub repaired_world_lem : (greatest : ℕ) (c : List ℕ) → repaired_world (ration_table greatest) c ≡ world_from greatest (opened_card greatest c)
unfolding repaired_world
repaired_world_lem greatest c = sym (opened_run greatest c)

repaired_is : (greatest : ℕ) (c : List ℕ) → (repaired_world (ration_table greatest) c).card ≡ (opened_card greatest c).card
repaired_is greatest c = ap (λ (x : World (ration_table greatest)). x.card) (repaired_world_lem greatest c)

-- ---- cards

module _ (greatest : ℕ) (c : List ℕ) where
  lists_right : Opens (ration_table greatest) c → (t : Tree) → WellFormed c t → (x : ListedRight greatest c t) → ListsRight (ration_table greatest) c x.listing
  lists_right a t w x =
      let n = sym (sized_on greatest c (nodes_of_length greatest (length c)) (accepted_card greatest c a).1) in
      record {
        table = x.table;
        balanced = rw (repaired_is greatest c) x.balanced;
        nodes = x.nodes ∙ n;
        unreached = x.unreached;
        exact = rw n at x.exact;
        free = omega (arith, x.free);
        levels = x.level;
        all_families = x.counted.words;
        families = x.counted.each;
        all_pairs = x.all_pairs;
        rising = x.rising;
        alike = λ s v key. rw (one_held c s t v.holds w.holds) (x.alike key);
        as_many = λ s v. rw (one_held c s t v.holds w.holds) x.as_many;
      }

  of_card : ByRows (open_rows greatest c) (λ r. (((ration_table greatest).open_card c).reply ≡ refusal r) × (list_card greatest c ≡ refused r))
      ((l : Listing) × (list_card greatest c ≡ listed l) × ListsRight (ration_table greatest) c l)
  of_card =
      rows_map (open_rows greatest c) (omega arith, (omega arith, (omega arith, (omega arith, (omega arith, tt)))))
      (λ r h z. (z.number_given, card_refused greatest c r (begun_refused (open_of greatest c).begun r h z.number_given)))
      works (opens greatest c)
    where
      works : OpensTo (ration_table greatest) c (handed (open_of greatest c)) → (l : Listing) × (list_card greatest c ≡ listed l) × ListsRight (ration_table greatest) c l
      works o = let a = ⊎_map (λ z. z.1) (λ z. z.1) o.hands in let x = listing_right greatest c o.table o.sound a in (x.listing, x.is_listed, lists_right a o.table o.sound x)

-- ---- dumps

module _ (greatest : ℕ) (dump : List ℕ) where
  read_room : damaged greatest dump ≡ false → list_dump greatest dump (card_room greatest) ≡ list_card greatest (dump_words (words_for (dump_nodes dump)) dump)
  read_room q =
      let size = words_for (dump_nodes dump) in
      dump_read greatest dump (card_room greatest) size (read_whole greatest dump (card_room greatest) q
      ∙ room_long size (card_room greatest) (omega (arith, (undamaged_whole greatest dump q).within)))

  of_dump : ByRows (row 11 (Damaged greatest dump) end) (λ r. dump_text greatest dump ≡ list_text (refused r))
      (dump_text greatest dump ≡ list_text (list_card greatest (dump_words (words_for (dump_nodes dump)) dump)))
  unfolding ByRows
  of_dump =
      bool_cases (damaged greatest dump) (λ q. inl (
        (damaged_exactly greatest dump).1 q,
        text_right greatest dump ∙ ap list_text (dump_refused greatest dump (card_room greatest) 11 (read_damaged greatest dump (card_room greatest) q)),
      ))
      (λ q. inr (λ z. true_false (sym ((damaged_exactly greatest dump).0 z) ∙ q), text_right greatest dump ∙ ap list_text (read_room q)))

own : (greatest : ℕ) (c : List ℕ) → ((i : ℕ) → get_or c i 0 < 2 ^ 32) → Sized greatest (length c) (nodes_on c) → Formatted c (nodes_on c)
    → dump_text greatest (dump_of c) ≡ list_text (list_card greatest c)
own greatest c fits s f =
    let e = sized_nodes greatest (length c) (nodes_on c) s in
    let good : Good greatest c = record { sized = rw e s; header = rw e f } in
    let q = whole_undamaged greatest (dump_of c) (dump_whole greatest c fits good) in
    let size : words_for (dump_nodes (dump_of c)) ≡ length c = ap words_for (dump_nodes_lem greatest c fits good) ∙ sym good.sized.words in
    text_right greatest (dump_of c) ∙ ap list_text (read_room greatest (dump_of c) q ∙ ap (list_card greatest) (ap (λ (k : ℕ). dump_words k (dump_of c)) size ∙ dump_words_lem greatest c fits))

pub list_program : (greatest : ℕ) → ListProgram greatest (ration_table greatest) (list_card greatest) (dump_text greatest)
list_program greatest = record { cards = of_card greatest; dumps = of_dump greatest; own_dump = own greatest }
