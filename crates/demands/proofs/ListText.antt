-- WHAT THE PROGRAM `list` PRINTS: of every dump, the text of its whole listing. A listing comes only of a table that the check
-- accepts, and that has at most 11 pairs for each of its nodes; so the rows lent have room for all, and no line is left out.
use mathlib.Core.Path.{◌≡◌, refl, ap, ◌∙◌}
use mathlib.Core.List.{List, [], ◌∷◌, ◌++◌}
use mathlib.Core.Option.{Option, none, some}
use Prim.Native.Nat.{ℕ, ◌+◌, ◌*◌, ◌≤◌}
use native.Mathlib.Omega.{arith}
use native.Mathlib.Decide.{ℕ_discrete}
use lib.ListN.{length, drop, length-replicate}
use lib.Dec.{ltb}
use lib.Seq.{take_at}
use borrow.Author.Tests.{ne_eqb, eq-eqb}
use Rattle.laws.proofs.Cases.{bool_cases}
use Rattle.card.specs.Header.{nodes_of_length, card_refusal}
use Rattle.card_dump.specs.Dump.{dump_words, words_for, dump_nodes, damaged, fitting_length, read_answer}
use Rattle.card_dump.proofs.AnswerLaws.{read_sized}
use Rattle.card_dump.proofs.ByteLaws.{length_dump_words}
use Rattle.card.proofs.HeaderLaws.{sized_nodes}
use Rattle.card_dump.specs.Answer.{Answer}
use Rattle.card_dump.specs.Answer.{Length, Refused as ReadRefused}
use Rattle.card_free.specs.NodeSet.{count_true}
use Rattle.list_pairs.specs.Listing.{Listed, refused, listed, list_card, list_dump, laid, lay_pairs, lay_listed}
use Rattle.list_pairs.specs.Summaries.{summarized, summary_of}
use Rattle.list_pairs.proofs.SummaryLaws.{card_refused, dump_refused, dump_read}
use Rattle.demands.proofs.ListedMap.{listing_right}
use Rattle.demands.proofs.ListRoom.{pair_words, all_laid}
use Rattle.list_text.specs.Text.{list_text, pairs_of_words, listing_told, pair_room, zeros, listing_handed, dump_text}
use Rattle.demands.proofs.Accepting.{accepted_table, opens_unrefused}
use Rattle.call_repair.specs.Repairing.{card_room}
use Rattle.card_check.specs.Check.{Findings, table_check}
use Rattle.card_check.specs.Counting.{table_counted}
use Rattle.state.specs.Steps.{no_beginning}
use Rattle.state.specs.Begun.{Begun}
use Rattle.state.specs.Begun.{Idle, Started, Refused}
use Rattle.card.specs.Layout.{search_start}
use Rattle.call_open.specs.Opening.{open_sound, open_checked, open_of}

-- ---- a listing that the rows have room for is told whole

-- a refusal has a number, and there are no more pairs than a card that the programs are made for holds
abbrev Fits : ℕ → Listed → Type 0
Fits greatest (refused number) = number ≡ 0 → ⊥
Fits greatest (listed l) = length l.pairs ≤ 11 * greatest

words_pairs : (ps : List (ℕ × ℕ)) → pairs_of_words (pair_words ps) ≡ ps
unfolding pairs_of_words
words_pairs [] = refl
words_pairs (p ∷ ps) = ap (λ (l : List (ℕ × ℕ)). p ∷ l) (words_pairs ps)

length_words : (ps : List (ℕ × ℕ)) → length (pair_words ps) ≡ 2 * length ps
length_words [] = refl
length_words (p ∷ ps) = omega (arith, length_words ps)

told_whole : (greatest : ℕ) (l : Listed) (words : List ℕ) → 22 * greatest ≤ length words → Fits greatest l → listing_told (summary_of l words) (lay_listed l words).words ≡ l
unfolding listing_told summary_of summarized lay_listed
told_whole greatest (refused number) words h f = rw (ne_eqb number 0 f)
told_whole greatest (listed l) words h f =
    let n = 2 * length l.pairs in
    let e : lay_pairs l.pairs (laid 0 words) ≡ laid n (pair_words l.pairs ++ drop n words) =
    all_laid l.pairs [] words (omega arith) ∙ ap (λ (k : ℕ). laid k (pair_words l.pairs ++ drop n words)) (omega arith) in
    rw (e, take_at (pair_words l.pairs) (drop n words) n (length_words l.pairs), words_pairs l.pairs)

-- ---- every listing is one

read_number : (greatest : ℕ) (dump : List ℕ) (lent number : ℕ) → read_answer greatest dump lent ≡ ReadRefused number → number ≡ 0 → ⊥
unfolding read_answer fitting_length
read_number greatest dump lent number e z =
    bool_cases (damaged greatest dump) (λ q. let k : ReadRefused 11 ≡ ReadRefused number = rw q at e in let w : ◌≡◌ {A = ℕ} 11 0 = cc in omega arith)
    (λ q. bool_cases (ltb lent (words_for (dump_nodes dump)))
    (λ s. let k : ReadRefused 12 ≡ ReadRefused number = rw (q, s) at e in let w : ◌≡◌ {A = ℕ} 12 0 = cc in omega arith)
    (λ s. let k : Length (words_for (dump_nodes dump)) ≡ ReadRefused number = rw (q, s) at e in let w : ◌≡◌ {A = ℕ} 0 1 = cc in omega arith))

module _ (number n last : ℕ) (totals : List ℕ) (z : number ≡ 0) where
  sound_number : (f : Findings) → (open_sound n last totals f).begun ≡ Refused number → ⊥
  unfolding open_sound no_beginning
  sound_number f e =
      bool_cases (ltb (count_true f.free) (3 + f.run)) (λ q. let k : Refused 5 ≡ Refused number = rw q at e in let w : ◌≡◌ {A = ℕ} 5 0 = cc in omega arith)
      (λ q. bool_cases f.violated
      (λ v. let k : Started ≡ Refused number = rw (q, v) at e in let w : ◌≡◌ {A = ℕ} 0 1 = cc in omega arith)
      (λ v. let k : Idle ≡ Refused number = rw (q, v) at e in let w : ◌≡◌ {A = ℕ} 0 1 = cc in omega arith))

  checked_number : (found : Option (ℕ × Findings)) → (open_checked n last totals found).begun ≡ Refused number → ⊥
  unfolding open_checked no_beginning
  checked_number none e = let w : ◌≡◌ {A = ℕ} 4 0 = cc in omega arith
  checked_number (some r) e = sound_number r.1 e

open_number : (greatest : ℕ) (c : List ℕ) (number : ℕ) → (open_of greatest c).begun ≡ Refused number → number ≡ 0 → ⊥
unfolding open_of no_beginning
open_number greatest c number e z = go (ℕ_discrete (card_refusal greatest c) 0)
  where
    go : Dec (card_refusal greatest c ≡ 0) → ⊥
    go (yes q) =
        checked_number number (nodes_of_length greatest (length c)) (search_start c) (table_counted c) z
        (table_check c (nodes_of_length greatest (length c))) (rw (eq-eqb (card_refusal greatest c) 0 q) at e)
    go (no d) = d (let k : Refused (card_refusal greatest c) ≡ Refused number = rw (ne_eqb (card_refusal greatest c) 0 d) at e in cc)

card_fits : (greatest : ℕ) (c : List ℕ) → nodes_of_length greatest (length c) ≤ greatest → Fits greatest (list_card greatest c)
card_fits greatest c few = go (open_of greatest c).begun refl
  where
    opened : ((number : ℕ) → (open_of greatest c).begun ≡ Refused number → ⊥) → Fits greatest (list_card greatest c)
    opened f =
        let a = opens_unrefused greatest c f in
        let t = accepted_table greatest c a in
        let k = listing_right greatest c t.0 t.1 a in
        rw k.is_listed (omega (arith, k.few_pairs, few))

    go : (b : Begun) → (open_of greatest c).begun ≡ b → Fits greatest (list_card greatest c)
    go (Refused number) e = rw (card_refused greatest c number e) (open_number greatest c number e)
    go Idle e = opened (λ number q. let z : ◌≡◌ {A = ℕ} 0 1 = cc in omega arith)
    go Started e = opened (λ number q. let z : ◌≡◌ {A = ℕ} 0 1 = cc in omega arith)

dump_fits : (greatest : ℕ) (dump : List ℕ) (lent : ℕ) → Fits greatest (list_dump greatest dump lent)
dump_fits greatest dump lent = go (read_answer greatest dump lent) refl
  where
    go : (a : Answer) → read_answer greatest dump lent ≡ a → Fits greatest (list_dump greatest dump lent)
    go (ReadRefused number) e = rw (dump_refused greatest dump lent number e) (read_number greatest dump lent number e)
    go (Length size) e =
        let s = (read_sized greatest dump lent size e).sized in
        let n : nodes_of_length greatest (length (dump_words size dump)) ≡ dump_nodes dump =
        ap (nodes_of_length greatest) (length_dump_words size dump) ∙ sized_nodes greatest size (dump_nodes dump) s in
        rw (dump_read greatest dump lent size e) (card_fits greatest (dump_words size dump) (omega (arith, n, s.within)))

-- ---- the text

-- what is handed to the printing is the listing of the dump
pub handed_whole : (greatest : ℕ) (dump : List ℕ) → listing_handed greatest dump ≡ list_dump greatest dump (card_room greatest)
unfolding listing_handed
handed_whole greatest dump =
    told_whole greatest (list_dump greatest dump (card_room greatest)) (zeros (pair_room greatest))
    (omega (arith, length-replicate {A = ℕ} (pair_room greatest) 0)) (dump_fits greatest dump (card_room greatest))

-- the text that `list_text::list_text` is proved to make is that of the listing
pub text_right : (greatest : ℕ) (dump : List ℕ) → dump_text greatest dump ≡ list_text (list_dump greatest dump (card_room greatest))
unfolding dump_text
text_right greatest dump = ap list_text (handed_whole greatest dump)
