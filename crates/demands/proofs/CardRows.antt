-- DEMAND 1, of find, formatting, opening and the starts.
use mathlib.Core.Path.{◌≡◌, refl, ap, sym, ◌∙◌}
use mathlib.Core.Bool.{true, false}
use mathlib.Core.List.{List, [], ◌∷◌}
use mathlib.Core.Logic.{◌⊎◌, inl, inr}
use mathlib.Core.Option.{Option as Maybe, none, some}
use Prim.Native.Nat.{ℕ, suc, ◌+◌, ◌≤◌, ◌<◌}
use native.Mathlib.Omega.{arith}
use native.Mathlib.Decide.{ℕ_discrete}
use lib.ListN.{length, get_or, drop, length-take}
use lib.Dec.{eqb}
use borrow.Author.Tests.{ne_eqb, lt-ltb}
use Rattle.card.specs.Header.{nodes_of_length, card_refusal, Sized, Formatted}
use Rattle.card.specs.Layout.{node_at, key_words, value_words, search_start}
use Rattle.card.proofs.NodeLaws.{get_value_word}
use Rattle.card.specs.Replies.{Reply, refusal, holds, absent}
use Rattle.demands.specs.Demand1.{beside_first, ReadsLeaf, HandsNone, StartsFormat, OpensTo}
use Rattle.demands.specs.Way.{nodes_on, leads_to}
use Rattle.demands.specs.Refusals.{ByRows, Scarce, find_rows, format_rows, open_rows, end, row}
use Rattle.demands.specs.RationTable.{work_of, handed, ration_table}
use Rattle.demands.proofs.FirstRows.{NoCard, sized?, no_nodes, by_card, card_one}
use Rattle.demands.proofs.WayDown.{arrived, reached_leaf, leaf_way}
use Rattle.walk.specs.Descent.{first_equal, slot_of, way, leaf_of}
use Rattle.theory_format.proofs.FormatSteps.{format_memory, format_starts, format_refused}
use Rattle.card_free.specs.NodeSet.{count_true}
use Rattle.laws.proofs.Bits.{bit_true, bit_false}
use Rattle.laws.proofs.Cases.{bool_cases, order, impossible}
use Rattle.call_find.specs.Answers.{found_reply}
use Rattle.call_find.specs.Find.{found_in, found_at, find_of}
use Rattle.call_find.proofs.FindLaws.{find_refused, find_no_key, find_only}
use Rattle.card.proofs.LineLaws.{line_one}
use Rattle.call_open.specs.Opening.{open_sound, open_checked, open_of}
use Rattle.demands.proofs.OpenRefusals.{refuses_unsound, refuses_few}
use Rattle.demands.proofs.Reopen.{length_accepted, card_accepted, open_sound_lem, open_repair, open_idle, facts_exact}
use Rattle.card_check.specs.Check.{Findings, table_check}
use Rattle.card_check.specs.Counting.{table_counted}
use Rattle.theory_check.proofs.Facts.{Facts}
use Rattle.theory_check.proofs.Soundness.{accepts_sound}
use Rattle.call_start.specs.Starts.{format_of}
use Rattle.state.specs.Answers.{start_reply}
use Rattle.state.specs.Memory.{no_memory, resting}
use Rattle.state.specs.Steps.{no_beginning}
use Rattle.state.specs.Begun.{Started}
use Rattle.theory_tree.specs.Tree.{Tree}
use Rattle.theory_tree.specs.WellFormed.{WellFormed}
use Rattle.std.specs.Prelude.{Option, Some, None}
use Rattle.walk.specs.declared.Reached.{Reached}

-- ---- finds

-- the card's refusal is not 0, whichever it is
find_due : (greatest : ℕ) (c : List ℕ) (key r : ℕ) → card_refusal greatest c ≡ r → (r ≡ 0 → ⊥) → found_reply (find_of greatest 1 c key) ≡ refusal r
unfolding found_reply
find_due greatest c key r e d = rw (find_refused greatest 1 c key (λ z. d (sym e ∙ z)), e)

pub none_some : {A P : Type 0} (x : A) → ◌≡◌ {A = Maybe A} none (some x) → P
none_some x e = impossible (cc)

leaf_none : (o : Maybe (ℕ × ℕ)) → reached_leaf o ≡ none → o ≡ none
unfolding reached_leaf
leaf_none none e = refl
leaf_none (some l) e = none_some l.0 (sym e)

leaf_some : (o : Maybe (ℕ × ℕ)) (m : ℕ) → reached_leaf o ≡ some m → (j : ℕ) × (o ≡ some (m, j))
unfolding reached_leaf
leaf_some none m e = none_some m e
leaf_some (some (leaf, j)) m e = (j, cc)

-- what is read in a leaf, from slot i on
found_reads : (node : List ℕ) (key : ℕ) (ks : List ℕ) (i : ℕ) → i + length ks ≤ 11
    → found_reply (found_in node (first_equal ks key i)) ≡ beside_first key ks (value_words node) i
unfolding found_in found_reply first_equal beside_first
found_reads node key [] i h = refl
found_reads node key (k ∷ ks) i h =
    bool_cases (eqb k key) (λ y. rw (y, get_value_word node i (omega arith))) (λ n. rw n (found_reads node key ks (suc i) (omega arith)))

found_works : (node : List ℕ) (key : ℕ) → found_reply (found_in node (slot_of node key)) ≡ beside_first key (key_words node) (value_words node) 0
unfolding slot_of key_words
found_works node key = found_reads node key (key_words node) 0 (omega (arith, length-take 11 (drop 1 node)))

-- a value or "absent"
abbrev pub Finds : Reply → Type 0
Finds r = ((v : ℕ) × (r ≡ holds v)) ⊎ (r ≡ absent)

pub reads_finds : (key : ℕ) (keys values : List ℕ) (i : ℕ) → Finds (beside_first key keys values i)
unfolding beside_first
reads_finds key [] values i = inr refl
reads_finds key (k ∷ keys) values i =
    bool_cases (eqb k key) (λ y. rw y (inl (get_or values i 0, refl))) (λ n. rw n (reads_finds key keys values (suc i)))

pub finds : (greatest : ℕ) (c : List ℕ) (key : ℕ) → ByRows (find_rows greatest c key) (λ r. (ration_table greatest).find c key ≡ refusal r) (ReadsLeaf c key ((ration_table greatest).find c key))
unfolding ByRows found_at found_reply arrived reached_leaf
finds greatest c key =
    by_card greatest (row 6 (key ≡ 0) (row 9 (leads_to c key ≡ none) end)) (λ r. found_reply (find_of greatest 1 c key) ≡ refusal r)
    (ReadsLeaf c key (found_reply (find_of greatest 1 c key))) c (nodes_on c)
    (λ p. find_due greatest c key 1 (card_one greatest c p) (λ z. omega (arith, z)))
    (λ r s e d. find_due greatest c key r (length_accepted greatest c (nodes_on c) s ∙ e) d)
    past
  where
    past : Sized greatest (length c) (nodes_on c) → Formatted c (nodes_on c) → ByRows (row 6 (key ≡ 0) (row 9 (leads_to c key ≡ none) end))
        (λ r. found_reply (find_of greatest 1 c key) ≡ refusal r) (ReadsLeaf c key (found_reply (find_of greatest 1 c key)))
    past s f = keyed (ℕ_discrete key 0)
      where
        a : (card_refusal greatest c ≡ 0) × (nodes_of_length greatest (length c) ≡ nodes_on c)
        a = card_accepted greatest s f

        at : (key ≡ 0 → ⊥) → (x : Option Reached) → leaf_of (way c (nodes_on c) key) ≡ x
            → ((leads_to c key ≡ none) × (found_reply (find_of greatest 1 c key) ≡ refusal 9))
            ⊎ ((leads_to c key ≡ none → ⊥) × ReadsLeaf c key (found_reply (find_of greatest 1 c key)))
        at d None e = inl (leaf_none (leads_to c key) (sym (leaf_way c key) ∙ ap arrived e), rw (find_only greatest c key a.0 d, a.1, e))
        at d (Some t) e =
            let l = leaf_some (leads_to c key) t.node (sym (leaf_way c key) ∙ ap arrived e) in
            inr (
              λ z. none_some (t.node, l.0) (sym z ∙ l.1),
              (t.node, l.0, l.1, rw (find_only greatest c key a.0 d, a.1, e) (found_works (node_at c t.node) key)),
            )

        keyed : Dec (key ≡ 0) → ((key ≡ 0) × (found_reply (find_of greatest 1 c key) ≡ refusal 6))
            ⊎ ((key ≡ 0 → ⊥) × (((leads_to c key ≡ none) × (found_reply (find_of greatest 1 c key) ≡ refusal 9))
            ⊎ ((leads_to c key ≡ none → ⊥) × ReadsLeaf c key (found_reply (find_of greatest 1 c key)))))
        keyed (yes z) = inl (z, rw (find_no_key greatest 1 c key a.0 (line_one c) z))
        keyed (no d) = inr (d, at d (leaf_of (way c (nodes_on c) key)) refl)

-- ---- formatting

none_handed : (greatest : ℕ) (r : ℕ) → HandsNone (ration_table greatest) (handed (no_beginning r)) r
unfolding no_beginning no_memory work_of start_reply
none_handed greatest r = record { number_given = refl; idle_state = refl; no_nodes = refl }

format_begun_lem : (greatest : ℕ) (c : List ℕ) → StartsFormat (ration_table greatest) c (handed (record { begun = Started; memory = format_memory (nodes_on c) 0 }))
unfolding resting work_of start_reply
format_begun_lem greatest c = record { reply_given = refl; in_progress = refl; nodes_noted = refl }

pub formats : (greatest : ℕ) (c : List ℕ)
    → ByRows (format_rows greatest c (nodes_on c)) (HandsNone (ration_table greatest) ((ration_table greatest).format c))
    (StartsFormat (ration_table greatest) c ((ration_table greatest).format c))
unfolding ByRows
formats greatest c = go (sized? greatest (length c) (nodes_on c))
  where
    go : Dec (Sized greatest (length c) (nodes_on c))
        → (NoCard greatest c (nodes_on c) × HandsNone (ration_table greatest) (handed (format_of greatest c)) 1)
        ⊎ ((NoCard greatest c (nodes_on c) → ⊥) × StartsFormat (ration_table greatest) c (handed (format_of greatest c)))
    go (no p) = inl (p, rw (format_refused greatest c (no_nodes greatest c p)) (none_handed greatest 1))
    go (yes s) = inr (λ p. p s, rw (format_starts greatest c (nodes_on c) s) (format_begun_lem greatest c))

-- ---- opening

-- no tree stands on the card soundly
abbrev Unsound : List ℕ → Type 0
Unsound c = ((t : Tree) × WellFormed c t) → ⊥

open_due : (greatest : ℕ) (c : List ℕ) (r : ℕ) → card_refusal greatest c ≡ r → (r ≡ 0 → ⊥) → open_of greatest c ≡ no_beginning r
unfolding open_of
open_due greatest c r e d = rw (e, ne_eqb r 0 d)

sound_five : (n last : ℕ) (totals : List ℕ) (f : Findings) → count_true f.free < 3 + f.run → open_sound n last totals f ≡ no_beginning 5
unfolding open_sound
sound_five n last totals f o = rw (lt-ltb (count_true f.free) (3 + f.run) o)

reply_five : (greatest : ℕ) (c : List ℕ) (r : ℕ) → open_of greatest c ≡ no_beginning r → start_reply (open_of greatest c).begun ≡ refusal r
unfolding no_beginning start_reply
reply_five greatest c r e = rw e

pub opens : (greatest : ℕ) (c : List ℕ) → ByRows (open_rows greatest c) (HandsNone (ration_table greatest) ((ration_table greatest).open_card c))
    (OpensTo (ration_table greatest) c ((ration_table greatest).open_card c))
unfolding ByRows open_of open_checked no_beginning start_reply resting work_of
opens greatest c =
    by_card greatest (row 4 (Unsound c) (row 5 (Scarce c) end)) (HandsNone (ration_table greatest) (handed (open_of greatest c)))
    (OpensTo (ration_table greatest) c (handed (open_of greatest c))) c (nodes_on c)
    (λ p. rw (open_due greatest c 1 (card_one greatest c p) (λ z. omega (arith, z))) (none_handed greatest 1))
    (λ r s e d. rw (open_due greatest c r (length_accepted greatest c (nodes_on c) s ∙ e) d) (none_handed greatest r))
    past
  where
    past : Sized greatest (length c) (nodes_on c) → Formatted c (nodes_on c) → ByRows (row 4 (Unsound c) (row 5 (Scarce c) end))
        (HandsNone (ration_table greatest) (handed (open_of greatest c))) (OpensTo (ration_table greatest) c (handed (open_of greatest c)))
    past s k = checked (table_check c (nodes_on c)) refl
      where
        checked : (x : Maybe (ℕ × Findings)) → table_check c (nodes_on c) ≡ x
            → (Unsound c × HandsNone (ration_table greatest) (handed (open_of greatest c)) 4) ⊎ ((Unsound c → ⊥)
            × ((Scarce c × HandsNone (ration_table greatest) (handed (open_of greatest c)) 5) ⊎ ((Scarce c → ⊥) × OpensTo (ration_table greatest) c (handed (open_of greatest c)))))
        checked none e =
            let a = card_accepted greatest s k in
            let is : open_of greatest c ≡ no_beginning 4 = rw (a.0, a.1, e) in
            inl ((refuses_unsound greatest c (nodes_on c) s k).0 (reply_five greatest c 4 is), rw is (none_handed greatest 4))
        checked (some (h, f)) e = inr (λ p. p (t.0, t.1), order (count_true f.free) (3 + f.run) few enough)
          where
            t : (t : Tree) × WellFormed c t × Facts c (nodes_on c) t h f
            t = accepts_sound c (nodes_on c) s.words s.most h f e

            few : count_true f.free < 3 + f.run → (Scarce c × HandsNone (ration_table greatest) (handed (open_of greatest c)) 5)
                ⊎ ((Scarce c → ⊥) × OpensTo (ration_table greatest) c (handed (open_of greatest c)))
            few o =
                let is : open_of greatest c ≡ no_beginning 5 = open_sound_lem greatest c (nodes_on c) h f s k e ∙ sound_five (nodes_on c) (search_start c) (table_counted c) f o in
                inl ((refuses_few greatest c (nodes_on c) s k).0 (reply_five greatest c 5 is), rw is (none_handed greatest 5))

            enough : 3 + f.run ≤ count_true f.free → (Scarce c × HandsNone (ration_table greatest) (handed (open_of greatest c)) 5)
                ⊎ ((Scarce c → ⊥) × OpensTo (ration_table greatest) c (handed (open_of greatest c)))
            enough o = bool_cases f.violated broken whole
              where
                broken : f.violated ≡ true → (Scarce c × HandsNone (ration_table greatest) (handed (open_of greatest c)) 5)
                    ⊎ ((Scarce c → ⊥) × OpensTo (ration_table greatest) c (handed (open_of greatest c)))
                broken q =
                    let is = open_repair greatest c (nodes_on c) h f s k e o q in
                    let code : (start_reply (open_of greatest c).begun).code ≡ 69 = rw is in
                    inr (
                      λ p. omega (arith, code, ap (λ (x : Reply). x.code) ((refuses_few greatest c (nodes_on c) s k).1 p)),
                      record {
                        table = t.0;
                        sound = t.1;
                        hands = inr (omega (arith, t.2.violated, bit_true f.violated q), rw is, (f.key, rw is));
                        nodes_noted = rw is;
                        free_noted = rw is (facts_exact t.2);
                        search_first = rw is;
                      },
                    )

                whole : f.violated ≡ false → (Scarce c × HandsNone (ration_table greatest) (handed (open_of greatest c)) 5)
                    ⊎ ((Scarce c → ⊥) × OpensTo (ration_table greatest) c (handed (open_of greatest c)))
                whole q =
                    let is = open_idle greatest c (nodes_on c) h f s k e o q in
                    let code : (start_reply (open_of greatest c).begun).code ≡ 68 = rw is in
                    inr (
                      λ p. omega (arith, code, ap (λ (x : Reply). x.code) ((refuses_few greatest c (nodes_on c) s k).1 p)),
                      record {
                        table = t.0;
                        sound = t.1;
                        hands = inl (omega (arith, t.2.violated, bit_false f.violated q), rw is, rw is);
                        nodes_noted = rw is;
                        free_noted = rw is (facts_exact t.2);
                        search_first = rw is;
                      },
                    )
