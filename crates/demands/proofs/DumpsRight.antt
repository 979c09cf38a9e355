-- Document 01, dumps, of the calls `card_dump::read_dump` and `write_dump`.
use mathlib.Core.Path.{◌≡◌, refl, ap, sym, subst, ◌∙◌}
use mathlib.Core.Bool.{true, false}
use mathlib.Core.List.{List, [], ◌∷◌, ◌++◌}
use mathlib.Core.Logic.{◌↔◌, inl, inr, by_cases}
use Prim.Native.Nat.{ℕ, zero, suc, ◌+◌, ◌-◌, ◌*◌, ◌/◌, ◌%◌, ◌^◌, ◌≤◌, ◌<◌}
use native.Mathlib.Omega.{arith}
use native.Mathlib.Decide.{ℕ_discrete}
use lib.ListN.{length, get_or, take, drop, length-drop, length-append, get_or-eq_default}
use lib.Seq.{get_or-drop, take_at}
use Rattle.card.specs.Header.{nodes_of_length, card_refusal, Sized, Formatted}
use Rattle.card.specs.Layout.{least_nodes, limited}
use Rattle.card.specs.Replies.{Reply, long}
use Rattle.demands.specs.Dumps.{word_of, byte_of, PaddedLength, nodes_in, words_in, Damaged, empty, no_multiple, too_long, bad_nodes}
use Rattle.demands.specs.Dumps.{other_length, not_zero, read_rows, write_rows, RefusesDump, Reads, Writes, Dumps}
use Rattle.demands.specs.Way.{nodes_on}
use Rattle.demands.specs.Refusals.{ByRows, end, row}
use Rattle.demands.proofs.AnswerNumbers.{card_small}
use Rattle.demands.proofs.FirstRows.{by_card, card_one}
use Rattle.demands.proofs.ReplyLaws.{code_of}
use Rattle.demands.proofs.Work.{true_false}
use Rattle.card.proofs.HeaderLaws.{limited_most, limited_within, within_limited}
use Rattle.card_dump.proofs.AnswerLaws.{padded_most, damaged_empty, damaged_odd, damaged_long, damaged_few, damaged_many}
use Rattle.card_dump.proofs.AnswerLaws.{damaged_length, damaged_padding, whole_undamaged, room_short, room_long, read_damaged, read_whole}
use Rattle.card_dump.proofs.AnswerLaws.{read_words, read_refused, write_refuses, write_good, write_sized, write_bytes, write_refused}
use Rattle.card_dump.proofs.ByteLaws.{length_dump_words, get_dump_words, length_card_bytes}
use Rattle.card_dump.proofs.RoundTrip.{length_dump, round_trip}
use Rattle.card_dump.specs.Answers.{dump_reply}
use Rattle.card_dump.specs.Dump.{word_bytes, card_bytes, padded_length, dump_of, word_at, dump_words, words_for, damaged, read_answer, read_over, write_answer, write_over}
use Rattle.card_dump.specs.Answer.{Length, Refused}
use Rattle.laws.proofs.Cases.{bool_cases, order}
use Rattle.laws.proofs.Lists.{get_d_left, get_d_right, get_d_pad, get_d_all_zero}
use Rattle.laws.specs.Lists.{all_zero}
use Rattle.demands.proofs.Reopen.{length_accepted, card_accepted}

-- ---- the padded length

padded_is : (words : ℕ) → PaddedLength words (padded_length words)
unfolding padded_length
padded_is words = record { in_blocks = omega arith; covers = omega arith; least = λ other a b. omega arith }

padded_one : {words a b : ℕ} → PaddedLength words a → PaddedLength words b → a ≡ b
padded_one {words} {a} {b} p q = omega (arith, p.least b q.in_blocks q.covers, q.least a p.in_blocks p.covers)

-- ---- refusal 11 is due exactly where the test says so

word_same : (bytes : List ℕ) (i : ℕ) → word_of bytes i ≡ word_at bytes i
unfolding word_at
word_same bytes i = refl

byte_found : (l : List ℕ) → all_zero l ≡ false → (i : ℕ) × (i < length l) × (get_or l i 0 ≡ 0 → ⊥)
byte_found [] e = true_false e
byte_found (zero ∷ l) e = let f = byte_found l e in (suc f.0, omega (arith, f.1), f.2)
byte_found (suc x ∷ l) e = (0, omega arith, λ z. omega (arith, z))

module _ (greatest : ℕ) (dump : List ℕ) where
  damaged_true : Damaged greatest dump → damaged greatest dump ≡ true
  unfolding word_at
  damaged_true (empty h) = damaged_empty greatest dump h
  damaged_true (no_multiple h) = damaged_odd greatest dump h
  damaged_true (too_long most p h) = damaged_long greatest dump (omega (arith, h, padded_one (padded_is (words_for (limited greatest))) p))
  damaged_true (bad_nodes h) =
      order (nodes_in dump) least_nodes (damaged_few greatest dump) (λ a. order (limited greatest) (nodes_in dump) (damaged_many greatest dump) (λ b. absurd (h (a, b))))
  damaged_true (other_length h) = damaged_length greatest dump (λ e. h (subst (λ (k : ℕ). PaddedLength (words_in dump) k) e (padded_is (words_in dump))))
  damaged_true (not_zero i a b d) =
      let from = 4 * words_in dump in
      damaged_padding greatest dump (bool_cases (all_zero (drop from dump))
      (λ t. absurd (d (ap (λ (j : ℕ). get_or dump j 0) (let z : i ≡ from + (i - from) = omega arith in z) ∙ sym (get_or-drop from dump (i - from) 0)
      ∙ get_d_all_zero (drop from dump) (i - from) t)))
      (λ f. f))

  true_damaged : damaged greatest dump ≡ true → Damaged greatest dump
  unfolding word_at
  true_damaged e =
      order n least_nodes (λ a. bad_nodes (λ h. omega (arith, a, h.0)))
      (λ a. order (limited greatest) n (λ b. bad_nodes (λ h. omega (arith, b, h.1)))
      (λ b. by_cases (ℕ_discrete (padded_length (words_for n)) (length dump))
      (λ p. bool_cases (all_zero (drop (4 * words_for n) dump))
      (λ t. true_false (sym e ∙ whole_undamaged greatest dump (record {
        least = a;
        most = omega (arith, b, limited_most greatest);
        within = omega (arith, b, limited_within greatest);
        padded = p;
        zeros = t;
      })))
      (λ t. at (byte_found (drop (4 * words_for n) dump) t)))
      (λ d. other_length (λ h. d (padded_one (padded_is (words_for n)) h)))))
    where
      n : ℕ
      n = nodes_in dump

      at : (i : ℕ) × (i < length (drop (4 * words_for n) dump)) × (get_or (drop (4 * words_for n) dump) i 0 ≡ 0 → ⊥) → Damaged greatest dump
      at (i, h, d) = not_zero (4 * words_for n + i) (omega arith) (omega (arith, h, length-drop (4 * words_for n) dump)) (λ z. d (get_or-drop (4 * words_for n) dump i 0 ∙ z))

  pub damaged_exactly : Damaged greatest dump ↔ (damaged greatest dump ≡ true)
  damaged_exactly = (damaged_true, true_damaged)

-- ---- reading

abbrev read : ℕ → List ℕ → List ℕ → Reply × List ℕ
read greatest dump lent = (dump_reply (read_answer greatest dump (length lent)), read_over greatest dump lent)

-- a result that is laid over the first of a slice
over_as_long : (done lent : List ℕ) (n : ℕ) → length done ≡ n → n ≤ length lent → length (done ++ drop n lent) ≡ length lent
over_as_long done lent n e h = omega (arith, e, h, length-append done (drop n lent), length-drop n lent)

over_untouched : (done lent : List ℕ) (n : ℕ) → length done ≡ n → (i : ℕ) → n ≤ i → get_or (done ++ drop n lent) i 0 ≡ get_or lent i 0
over_untouched done lent n e i h =
    get_d_right done (drop n lent) n i (i - n) e (omega arith) ∙ get_or-drop n lent (i - n) 0 ∙ ap (λ (j : ℕ). get_or lent j 0) (let z : n + (i - n) ≡ i = omega arith in z)

module _ (greatest : ℕ) (dump lent : List ℕ) where
  not_read : (r : ℕ) → read_answer greatest dump (length lent) ≡ Refused r → RefusesDump lent (read greatest dump lent) r
  unfolding dump_reply
  not_read r e = record { number_given = rw e; nothing_stored = read_refused greatest dump lent r e }

  is_read : words_in dump ≤ length lent → read_answer greatest dump (length lent) ≡ Length (words_in dump) → Reads lent (read greatest dump lent) dump
  unfolding dump_reply
  is_read room e =
      let n = words_in dump in
      let done = length_dump_words n dump in
      record {
        gives = record {
          length_given = rw e;
          as_long = rw (read_words greatest dump lent n e) (over_as_long (dump_words n dump) lent n done room);
          untouched = λ i h. rw (read_words greatest dump lent n e) (over_untouched (dump_words n dump) lent n done i h);
        };
        words = λ i h. rw (read_words greatest dump lent n e) (get_d_left (dump_words n dump) (drop n lent) n i done h ∙ get_dump_words n dump i h ∙ sym (word_same dump i));
      }

  reading : ByRows (read_rows greatest dump (length lent)) (RefusesDump lent (read greatest dump lent)) (Reads lent (read greatest dump lent) dump)
  unfolding ByRows word_at
  reading =
      bool_cases (damaged greatest dump) (λ q. inl (true_damaged greatest dump q, not_read 11 (read_damaged greatest dump (length lent) q)))
      (λ q. inr (
        λ d. true_false (sym (damaged_true greatest dump d) ∙ q),
        order (length lent) (words_in dump)
            (λ o. inl (o, not_read 12 (read_whole greatest dump (length lent) q ∙ room_short (words_in dump) (length lent) o)))
            (λ o. inr (λ z. omega (arith, o, z), is_read o (read_whole greatest dump (length lent) q ∙ room_long (words_in dump) (length lent) o))),
      ))

-- ---- writing

abbrev write : ℕ → List ℕ → List ℕ → Reply × List ℕ
write greatest card lent = (dump_reply (write_answer greatest card (length lent)), write_over greatest card lent)

byte_in : (w : ℕ) (rest : List ℕ) (j : ℕ) → j < 4 → get_or (word_bytes w ++ rest) j 0 ≡ byte_of w j
unfolding word_bytes
byte_in w rest zero h = omega arith
byte_in w rest (suc zero) h = refl
byte_in w rest (suc (suc zero)) h = refl
byte_in w rest (suc (suc (suc zero))) h = refl
byte_in w rest (suc (suc (suc (suc j)))) h = absurd (omega arith)

bytes_in : (card : List ℕ) (i j : ℕ) → i < length card → j < 4 → get_or (card_bytes card) (4 * i + j) 0 ≡ byte_of (get_or card i 0) j
unfolding card_bytes word_bytes
bytes_in [] i j h k = absurd (omega arith)
bytes_in (w ∷ card) zero j h k = ap (λ (k : ℕ). get_or (word_bytes w ++ card_bytes card) k 0) (let z : 4 * 0 + j ≡ j = omega arith in z) ∙ byte_in w (card_bytes card) j k
bytes_in (w ∷ card) (suc i) j h k = get_d_right (word_bytes w) (card_bytes card) 4 (4 * suc i + j) (4 * i + j) refl (omega arith) ∙ bytes_in card i j (omega arith) k

-- a number of two bytes
two_bytes : (n : ℕ) → n < 256 ^ 2 → byte_of n 0 + 256 * byte_of n 1 + 256 ^ 2 * byte_of n 2 + 256 ^ 3 * byte_of n 3 ≡ n
two_bytes n h =
    let low : n / 1 % 256 + 256 * (n / 256 % 256) ≡ n = omega arith in
    let high : n / 65536 ≡ 0 = omega arith in
    let highest : n / 16777216 ≡ 0 = omega arith in
    rw (high, highest) (omega (arith, low))

-- the bytes of a dump
module _ (greatest : ℕ) (card : List ℕ) where
  dump_byte : (i : ℕ) → i < padded_length (length card) → get_or (dump_of card) i 0 ≡ get_or (card_bytes card) i 0
  unfolding dump_of
  dump_byte i h = get_d_pad (padded_length (length card)) (card_bytes card) i h

  dump_bytes : (i j : ℕ) → i < length card → j < 4 → get_or (dump_of card) (4 * i + j) 0 ≡ byte_of (get_or card i 0) j
  dump_bytes i j h k = dump_byte (4 * i + j) (omega (arith, h, k, (padded_is (length card)).covers)) ∙ bytes_in card i j h k

  dump_zeros : (i : ℕ) → 4 * length card ≤ i → i < padded_length (length card) → get_or (dump_of card) i 0 ≡ 0
  dump_zeros i a b = dump_byte i b ∙ get_or-eq_default (card_bytes card) 0 {n = i} (omega (arith, a, length_card_bytes card))

  dump_nodes_lem : (n : ℕ) → Sized greatest (length card) n → Formatted card n → nodes_in (dump_of card) ≡ n
  dump_nodes_lem n s f =
      let in_card : 1 < length card = omega (arith, s.words) in
      let byte : (j : ℕ) → j < 4 → get_or (dump_of card) (4 + j) 0 ≡ byte_of n j = λ j h. dump_bytes 1 j in_card h ∙ ap (λ (w : ℕ). byte_of w j) f.nodes in
      rw (byte 0 (omega arith), byte 1 (omega arith), byte 2 (omega arith), byte 3 (omega arith)) (two_bytes n (omega (arith, s.most)))

  -- word 1 of a card that is written is its N, which its bytes hold whatever the other words are
  dump_undamaged : (n : ℕ) → Sized greatest (length card) n → Formatted card n → Damaged greatest (dump_of card) → ⊥
  dump_undamaged n s f = none
    where
      all : words_in (dump_of card) ≡ length card
      all = omega (arith, dump_nodes_lem n s f, s.words)

      long_as : PaddedLength (words_in (dump_of card)) (length (dump_of card))
      long_as = rw (all, length_dump card) (padded_is (length card))

      none : Damaged greatest (dump_of card) → ⊥
      none (empty h) = omega (arith, h, long_as.covers)
      none (no_multiple h) = h long_as.in_blocks
      none (too_long most p h) =
          omega (
            arith,
            h,
            length_dump card,
            padded_most greatest (length card) (omega (arith, s.words, within_limited greatest n s.within s.most)),
            padded_one (padded_is (words_for (limited greatest))) p,
          )
      none (bad_nodes h) = h (omega (arith, dump_nodes_lem n s f, s.least), omega (arith, dump_nodes_lem n s f, within_limited greatest n s.within s.most))
      none (other_length h) = h long_as
      none (not_zero i a b d) = d (dump_zeros i (omega (arith, a, all)) (omega (arith, b, length_dump card)))

module _ (greatest : ℕ) (card lent : List ℕ) where
  not_written : (r : ℕ) → write_answer greatest card (length lent) ≡ Refused r → RefusesDump lent (write greatest card lent) r
  unfolding dump_reply
  not_written r e = record { number_given = rw e; nothing_stored = write_refused greatest card lent r e }

  is_written : padded_length (length card) ≤ length lent → write_answer greatest card (length lent) ≡ Length (padded_length (length card)) → Writes lent (write greatest card lent) card
  unfolding dump_reply
  is_written room e =
      let n = padded_length (length card) in
      let done = length_dump card in
      let over = write_bytes greatest card lent n e in
      record {
        size = n;
        padded = padded_is (length card);
        gives = record {
          length_given = rw e;
          as_long = rw over (over_as_long (dump_of card) lent n done room);
          untouched = λ i h. rw over (over_untouched (dump_of card) lent n done i h);
        };
        bytes = λ i j h k. rw over (get_d_left (dump_of card) (drop n lent) n (4 * i + j) done (omega (arith, h, k, (padded_is (length card)).covers)) ∙ dump_bytes greatest card i j h k);
        zeros = λ i a b. rw over (get_d_left (dump_of card) (drop n lent) n i done b ∙ dump_zeros greatest card i a b);
      }

  abbrev Short : Type 0
  Short = (size : ℕ) × PaddedLength (length card) size × (length lent < size)

  writing : ByRows (write_rows greatest card (length lent)) (RefusesDump lent (write greatest card lent)) (Writes lent (write greatest card lent) card)
  unfolding ByRows
  writing =
      by_card greatest (row 12 Short end) (RefusesDump lent (write greatest card lent)) (Writes lent (write greatest card lent) card) card (nodes_on card)
      (λ p. not_written 1 (write_refuses greatest card (length lent) 1 (card_one greatest card p) (λ z. omega (arith, z))))
      (λ r s e d. not_written r (write_refuses greatest card (length lent) r (length_accepted greatest card (nodes_on card) s ∙ e) d))
      (λ s f.
      let n = padded_length (length card) in
      let e = write_good greatest card (length lent) (card_accepted greatest s f).0 in
      order (length lent) n (λ o. inl ((n, padded_is (length card), o), not_written 12 (e ∙ room_short n (length lent) o)))
      (λ o. inr (λ z. omega (arith, o, z.2, padded_one (padded_is (length card)) z.1), is_written o (e ∙ room_long n (length lent) o))))

  -- the number of the reply tells that it was written
  write_long : (size : ℕ) → dump_reply (write_answer greatest card (length lent)) ≡ long size → write_answer greatest card (length lent) ≡ Length size
  unfolding dump_reply
  write_long size e = by_cases (ℕ_discrete (card_refusal greatest card) 0) good bad
    where
      n : ℕ
      n = padded_length (length card)

      bad : (card_refusal greatest card ≡ 0 → ⊥) → write_answer greatest card (length lent) ≡ Length size
      bad d = absurd (omega (arith, card_small greatest card, code_of (sym (ap dump_reply (write_refuses greatest card (length lent) (card_refusal greatest card) refl d)) ∙ e)))

      good : card_refusal greatest card ≡ 0 → write_answer greatest card (length lent) ≡ Length size
      good z =
          order (length lent) n (λ o. absurd (omega (arith, code_of (sym (ap dump_reply (write_good greatest card (length lent) z ∙ room_short n (length lent) o)) ∙ e))))
          (λ o.
          let w = write_good greatest card (length lent) z ∙ room_long n (length lent) o in
          w ∙ ap Length (ap (λ (x : Reply). x.value) (sym (ap dump_reply w) ∙ e)))

  module _ (size : ℕ) (e : (write greatest card lent).0 ≡ long size) where
    no_damage : Damaged greatest (take size (write_over greatest card lent)) → ⊥
    no_damage =
        let a = write_long size e in
        let w = write_sized greatest card (length lent) size a in
        let same : take size (write_over greatest card lent) ≡ dump_of card = ap (take size) (write_bytes greatest card lent size a) ∙ take_at (dump_of card) _ size (length_dump card ∙ sym w.size) in
        rw same (dump_undamaged greatest card (nodes_of_length greatest (length card)) w.good.sized w.good.header)

    back : (words : List ℕ) → ((i : ℕ) → get_or card i 0 < 2 ^ 32) → length card ≤ length words
        → ((read greatest (take size (write_over greatest card lent)) words).0 ≡ long (length card)) × (take (length card) (read greatest (take size (write_over greatest card lent)) words).1 ≡ card)
    unfolding dump_reply
    back words fits room =
        let r = round_trip greatest card lent words size fits (write_long size e) room in
        (ap dump_reply r.1, ap (take (length card)) r.2 ∙ take_at card _ (length card) refl)

pub dumps_right : (greatest : ℕ) → Dumps greatest (read greatest) (write greatest)
dumps_right greatest =
    record {
      reads = reading greatest;
      writes = writing greatest;
      undamaged = no_damage greatest;
      read_back = λ card lent words size fits e room. back greatest card lent size e words fits room;
    }
