-- Writing a card and reading the bytes back gives the card's words.
use mathlib.Core.Path.{◌≡◌, refl, sym, ap, ap₂, ◌∙◌}
use mathlib.Core.List.{List, [], ◌∷◌, ◌++◌}
use Prim.Native.Nat.{ℕ, suc, ◌+◌, ◌-◌, ◌*◌, ◌/◌, ◌%◌, ◌^◌, ◌≤◌, ◌<◌}
use native.Mathlib.Omega.{arith}
use lib.ListN.{length, get_or, take, drop, replicate}
use lib.Seq.{take_at, drop_at}
use Rattle.laws.proofs.Lists.{length_pad, all_zero_replicate}
use Rattle.card.specs.Header.{nodes_of_length}
use Rattle.card_dump.specs.Dump.{word_bytes, card_bytes, padded_length, dump_of, word_at, dump_words, words_for, dump_nodes, fitting_length, read_answer, read_over, write_answer, write_over}
use Rattle.card_dump.proofs.ByteLaws.{length_card_bytes, get_dump_words}
use Rattle.card_dump.proofs.AnswerLaws.{Whole, Good, padded_covers, whole_undamaged, room_long, read_whole, read_words, write_sized, write_bytes}
use Rattle.card_dump.specs.Answer.{Length}

pub length_dump : (card : List ℕ) → length (dump_of card) ≡ padded_length (length card)
unfolding dump_of
length_dump card = length_pad (padded_length (length card)) (card_bytes card) (omega (arith, padded_covers (length card), length_card_bytes card))

-- the four bytes of a word make the word again
digit_back : (x : ℕ) → x % 256 + 256 * (x / 256) ≡ x
digit_back x = omega arith

digits_back : (w x y z a b c : ℕ) → a + 256 * x ≡ w → b + 256 * y ≡ x → c + 256 * z ≡ y → a + 256 * b + 65536 * c + 16777216 * z ≡ w
digits_back w x y z a b c d e f = omega arith

word_back : (w : ℕ) → w < 2 ^ 32 → w % 256 + 256 * (w / 256 % 256) + 65536 * (w / 65536 % 256) + 16777216 * (w / 16777216 % 256) ≡ w
word_back w h =
    let two : w / 65536 ≡ w / 256 / 256 = omega arith in
    let three : w / 16777216 % 256 ≡ w / 256 / 256 / 256 = omega arith in
    rw (two, three) (digits_back w _ _ _ _ _ _ (digit_back w) (digit_back (w / 256)) (digit_back (w / 256 / 256)))

words_back : (card rest : List ℕ) → ((i : ℕ) → get_or card i 0 < 2 ^ 32) → dump_words (length card) (card_bytes card ++ rest) ≡ card
unfolding dump_words card_bytes word_bytes word_at
words_back [] rest fits = refl
words_back (w ∷ card) rest fits = ap₂ (λ (x : ℕ) (l : List ℕ). x ∷ l) (word_back w (fits 0)) (words_back card rest (λ i. fits (suc i)))

-- a card's words, as those of any lent slice, are below 2 ^ 32
module _ (greatest : ℕ) (card : List ℕ) (fits : (i : ℕ) → get_or card i 0 < 2 ^ 32) where
  pub dump_words_lem : dump_words (length card) (dump_of card) ≡ card
  unfolding dump_of
  dump_words_lem = words_back card _ fits

  dump_word : (i : ℕ) → i < length card → word_at (dump_of card) i ≡ get_or card i 0
  dump_word i h = sym (get_dump_words (length card) (dump_of card) i h) ∙ ap (λ (l : List ℕ). get_or l i 0) dump_words_lem

  -- the dump of a formatted card says the card's N
  module _ (good : Good greatest card) where
    pub dump_nodes_lem : dump_nodes (dump_of card) ≡ nodes_of_length greatest (length card)
    dump_nodes_lem = dump_word 1 (omega (arith, good.sized.words)) ∙ good.header.nodes

    words_same : words_for (dump_nodes (dump_of card)) ≡ length card
    words_same = ap words_for dump_nodes_lem ∙ sym good.sized.words

    zeros_after : drop (4 * length card) (dump_of card) ≡ replicate (padded_length (length card) - length (card_bytes card)) 0
    unfolding dump_of
    zeros_after = drop_at (card_bytes card) _ (4 * length card) (length_card_bytes card)

    pub dump_whole : Whole greatest (dump_of card)
    dump_whole =
        record {
          least = omega (arith, dump_nodes_lem, good.sized.least);
          most = omega (arith, dump_nodes_lem, good.sized.most);
          within = omega (arith, dump_nodes_lem, good.sized.within);
          padded = ap padded_length words_same ∙ sym (length_dump card);
          zeros = rw (words_same, zeros_after) (all_zero_replicate (padded_length (length card) - length (card_bytes card)));
        }

-- For a card that a write accepts, the written bytes are read as the card's words, over any slice that is long enough.
pub round_trip : (greatest : ℕ) (card bytes words : List ℕ) (size : ℕ) → ((i : ℕ) → get_or card i 0 < 2 ^ 32) → write_answer greatest card (length bytes) ≡ Length size → length card ≤ length words
    → (length card ≡ 8 + 24 * nodes_of_length greatest (length card))
    × (read_answer greatest (take size (write_over greatest card bytes)) (length words) ≡ Length (length card))
    × (read_over greatest (take size (write_over greatest card bytes)) words ≡ card ++ drop (length card) words)
round_trip greatest card bytes words size fits e room =
    let w = write_sized greatest card (length bytes) size e in
    let same : take size (write_over greatest card bytes) ≡ dump_of card =
    ap (take size) (write_bytes greatest card bytes size e) ∙ take_at (dump_of card) _ size (length_dump card ∙ sym w.size) in
    let answered : read_answer greatest (dump_of card) (length words) ≡ Length (length card) =
    read_whole greatest _ _ (whole_undamaged greatest (dump_of card) (dump_whole greatest card fits w.good))
    ∙ ap (λ (k : ℕ). fitting_length k (length words)) (words_same greatest card fits w.good) ∙ room_long _ _ room in
    rw same (w.good.sized.words, answered, read_words greatest (dump_of card) words (length card) answered ∙ ap (λ (l : List ℕ). l ++ drop (length card) words) (dump_words_lem greatest card fits))
