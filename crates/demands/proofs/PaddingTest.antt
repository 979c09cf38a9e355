-- Document 02, W-202, of the test that `card_dump` makes.
use mathlib.Core.Path.{◌≡◌, refl, ap, sym, ◌∙◌}
use mathlib.Core.Bool.{true}
use mathlib.Core.List.{List, [], ◌∷◌}
use mathlib.Core.Logic.{inl, inr}
use Prim.Native.Nat.{ℕ, suc, ◌+◌, ◌-◌, ◌*◌, ◌/◌, ◌%◌, ◌^◌, ◌≤◌, ◌<◌}
use native.Mathlib.Omega.{arith}
use lib.ListN.{length, get_or, length-drop, get_or-eq_default}
use lib.Seq.{get_or-drop}
use borrow.Author.Tests.{eq-eqb}
use Rattle.demands.specs.Refusals.{ByRows}
use Rattle.demands.specs.W202.{padding_length, padding, WholeDump, read_rows_by_eights, W202}
use Rattle.demands.proofs.Work.{true_false}
use Rattle.card.specs.Replies.{refusal, long}
use Rattle.card.proofs.HeaderLaws.{limited_most, limited_within, within_limited}
use Rattle.card_dump.proofs.AnswerLaws.{Whole as WholeBytes, padded_covers, padded_whole, padded_most, undamaged_whole, whole_undamaged, read_damaged, read_whole, room_short, room_long}
use Rattle.card_dump.proofs.Padding.{eight_exactly, padding_eights}
use Rattle.card_dump.specs.Answers.{dump_reply}
use Rattle.card_dump.specs.Dump.{word_at, words_for, dump_nodes, damaged, read_answer}
use Rattle.card_dump.specs.Padding.{eight_at}
use Rattle.laws.proofs.Cases.{bool_cases, order}
use Rattle.laws.proofs.Lists.{get_d_all_zero}
use Rattle.laws.specs.Lists.{all_zero}

word_fits : (dump : List ℕ) (i : ℕ) → ((j : ℕ) → get_or dump j 0 < 256) → word_at dump i < 2 ^ 32
unfolding word_at
word_fits dump i bytes = omega (arith, bytes (4 * i), bytes (4 * i + 1), bytes (4 * i + 2), bytes (4 * i + 3))

fits : (dump : List ℕ) (k : ℕ) → ((i : ℕ) → get_or dump i 0 < 256) → eight_at dump k < 2 ^ 64
fits dump k bytes = omega (arith, word_fits dump (2 * k) bytes, word_fits dump (2 * k + 1) bytes)

zeros_all : (l : List ℕ) → ((i : ℕ) → get_or l i 0 ≡ 0) → all_zero l ≡ true
zeros_all [] f = refl
zeros_all (x ∷ l) f = rw (eq-eqb x 0 (f 0)) (zeros_all l (λ i. f (suc i)))

module _ (greatest : ℕ) (dump : List ℕ) where
  -- a byte of the padding stands in one of its eights
  byte_zero : WholeDump greatest eight_at dump → (i : ℕ) → get_or (padding dump) i 0 ≡ 0
  byte_zero w i =
      let at = 4 * words_for (dump_nodes dump) + i in
      get_or-drop (4 * words_for (dump_nodes dump)) dump i 0
      ∙ order at (length dump)
      (λ o. ap (λ (j : ℕ). get_or dump j 0) (let z : at ≡ 8 * (at / 8) + at % 8 = omega arith in z)
      ∙ (eight_exactly dump (at / 8)).0 (w.zeros (at / 8) (omega arith) (omega arith)) (at % 8) (omega arith))
      (λ o. get_or-eq_default dump 0 {n = at} o)

  to_bytes : WholeDump greatest eight_at dump → WholeBytes greatest dump
  to_bytes w =
      record {
        least = w.least;
        most = omega (arith, w.most, limited_most greatest);
        within = omega (arith, w.most, limited_within greatest);
        padded = w.padded;
        zeros = zeros_all (padding dump) (byte_zero w);
      }

  byte_of : WholeBytes greatest dump → (i : ℕ) → 4 * words_for (dump_nodes dump) ≤ i → get_or dump i 0 ≡ 0
  byte_of w i h =
      let from = 4 * words_for (dump_nodes dump) in
      ap (λ (j : ℕ). get_or dump j 0) (let z : i ≡ from + (i - from) = omega arith in z) ∙ sym (get_or-drop from dump (i - from) 0) ∙ get_d_all_zero (padding dump) (i - from) w.zeros

  from_bytes : WholeBytes greatest dump → WholeDump greatest eight_at dump
  from_bytes w =
      record {
        not_empty = λ z. omega (arith, w.padded, padded_covers (words_for (dump_nodes dump)));
        in_blocks = omega (arith, w.padded, padded_whole (words_for (dump_nodes dump)));
        not_long = omega (arith, w.padded, padded_most greatest (words_for (dump_nodes dump)) (omega (arith, within_limited greatest _ w.within w.most)));
        least = w.least;
        most = within_limited greatest _ w.within w.most;
        padded = w.padded;
        zeros = λ k a b. (eight_exactly dump k).1 (λ i h. byte_of w (8 * k + i) (omega arith));
      }

  long_as : WholeDump greatest eight_at dump → length (padding dump) ≡ padding_length (dump_nodes dump)
  long_as w = omega (arith, length-drop (4 * words_for (dump_nodes dump)) dump, w.padded)

  reading : (lent : ℕ) → ByRows (read_rows_by_eights greatest eight_at dump lent) (λ r. dump_reply (read_answer greatest dump lent) ≡ refusal r)
      (dump_reply (read_answer greatest dump lent) ≡ long (words_for (dump_nodes dump)))
  unfolding ByRows dump_reply
  reading lent =
      bool_cases (damaged greatest dump) (λ q. inl (λ w. true_false (sym q ∙ whole_undamaged greatest dump (to_bytes w)), rw (read_damaged greatest dump lent q)))
      (λ q. inr (
        λ d. d (from_bytes (undamaged_whole greatest dump q)),
        order lent (words_for (dump_nodes dump))
            (λ o. inl (omega arith, rw (read_whole greatest dump lent q, room_short (words_for (dump_nodes dump)) lent o)))
            (λ o. inr (λ z. omega arith, rw (read_whole greatest dump lent q, room_long (words_for (dump_nodes dump)) lent o))),
      ))

pub w_202 : (greatest : ℕ) → W202 greatest eight_at (λ dump lent. dump_reply (read_answer greatest dump lent))
w_202 greatest = record { sixty_four = fits; exactly = eight_exactly; in_eights = λ n a b. omega (arith, padding_eights n); as_long = long_as greatest; reads = reading greatest }
