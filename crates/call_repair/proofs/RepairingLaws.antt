-- Laws of the repair: one for each branch of the code, and that a refused opening stores nothing.
use mathlib.Core.Path.{◌≡◌, refl, ap, ◌∙◌}
use mathlib.Core.List.{List, ◌++◌}
use mathlib.Core.Bool.{true, false}
use mathlib.Core.Option.{Option, none, some}
use Prim.Native.Nat.{ℕ, zero, suc, ◌+◌, ◌-◌}
use native.Mathlib.Omega.{arith}
use lib.ListN.{length, take, drop}
use lib.Seq.{take_at, drop_at}
use lib.Dec.{eqb, ltb}
use Rattle.laws.proofs.Cases.{bool_cases, impossible}
use Rattle.card.specs.Header.{nodes_of_length, card_refusal}
use Rattle.card_free.specs.NodeSet.{count_true}
use Rattle.card_check.specs.Check.{Findings, table_check}
use Rattle.card_check.specs.Counting.{table_counted}
use Rattle.state.specs.Memory.{Memory, no_memory}
use Rattle.state.specs.Steps.{is_idle, no_beginning}
use Rattle.state.specs.Begun.{Refused}
use Rattle.card.specs.Layout.{search_start}
use Rattle.call_open.specs.Opening.{open_sound, open_checked, open_of}
use Rattle.call_step.specs.Calls.{step_of, repair_steps}
use Rattle.card_dump.specs.Dump.{dump_words, read_answer, read_over}
use Rattle.card_dump.proofs.AnswerLaws.{read_words}
use Rattle.card_dump.proofs.ByteLaws.{length_dump_words}
use Rattle.card_dump.specs.Answer.{Length, Refused as ReadRefused}
use Rattle.call_repair.specs.Repairing.{Repaired, repaired_card, opened_card, opened_read, opened_over}

pub repair_idle : (greatest : ℕ) (k : ℕ) (card : List ℕ) (m : Memory) → is_idle m.doing ≡ true → repaired_card greatest k card m ≡ record { card = card; memory = m }
unfolding repaired_card
repair_idle greatest zero card m e = refl
repair_idle greatest (suc k) card m e = rw e

pub repair_over : (greatest : ℕ) (k : ℕ) (card : List ℕ) (m : Memory) → k ≡ 0 → repaired_card greatest k card m ≡ record { card = card; memory = m }
unfolding repaired_card
repair_over greatest k card m e = rw e

pub repair_on : (greatest : ℕ) (k : ℕ) (card : List ℕ) (m : Memory) → (k ≡ 0 → ⊥) → is_idle m.doing ≡ false
    → repaired_card greatest k card m ≡ repaired_card greatest (k - 1) (step_of greatest 1 card m).card (step_of greatest 1 card m).memory
unfolding repaired_card
repair_on greatest zero card m d e = absurd (d refl)
repair_on greatest (suc k) card m d e = let z : suc k - 1 ≡ k = omega arith in rw (e, z)

-- "Opening .., refused, hands back an idle state for N = 0"
sound_none : (n last : ℕ) (totals : List ℕ) (f : Findings) (r : ℕ) → (open_sound n last totals f).begun ≡ Refused r → (open_sound n last totals f).memory ≡ no_memory
unfolding open_sound no_beginning
sound_none n last totals f r =
    bool_cases (ltb (count_true f.free) (3 + f.run)) (λ s. rw s (λ e. refl))
    (λ s. rw s (bool_cases f.violated (λ v. rw v (λ e. impossible (cc))) (λ v. rw v (λ e. impossible (cc)))))

checked_none : (n last : ℕ) (totals : List ℕ) (x : Option (ℕ × Findings)) (r : ℕ) → (open_checked n last totals x).begun ≡ Refused r → (open_checked n last totals x).memory ≡ no_memory
unfolding open_checked no_beginning
checked_none n last totals none r e = refl
checked_none n last totals (some x) r e = sound_none n last totals x.1 r e

pub refused_none : (greatest : ℕ) (card : List ℕ) (r : ℕ) → (open_of greatest card).begun ≡ Refused r → (open_of greatest card).memory ≡ no_memory
unfolding open_of no_beginning
refused_none greatest card r =
    bool_cases (eqb (card_refusal greatest card) 0) (λ s. rw s
    (λ e. checked_none (nodes_of_length greatest (length card)) (search_start card) (table_counted card) (table_check card (nodes_of_length greatest (length card))) r e))
    (λ s. rw s (λ e. refl))

refused_idle : (greatest : ℕ) (card : List ℕ) (r : ℕ) → (open_of greatest card).begun ≡ Refused r → is_idle (open_of greatest card).memory.doing ≡ true
unfolding no_memory is_idle
refused_idle greatest card r e = ap (λ (m : Memory). is_idle m.doing) (refused_none greatest card r e)

-- "A refusal .. stores nothing"
pub refused_untouched : (greatest : ℕ) (card : List ℕ) (r : ℕ) → (open_of greatest card).begun ≡ Refused r → (opened_card greatest card).card ≡ card
unfolding opened_card
refused_untouched greatest card r e = ap (λ (x : Repaired). x.card) (repair_idle greatest repair_steps card (open_of greatest card).memory (refused_idle greatest card r e))

-- ---- a dump

-- the card that was read
pub read_card : (greatest : ℕ) (dump words : List ℕ) (size : ℕ) → read_answer greatest dump (length words) ≡ Length size → take size (read_over greatest dump words) ≡ dump_words size dump
read_card greatest dump words size e = ap (take size) (read_words greatest dump words size e) ∙ take_at (dump_words size dump) (drop size words) size (length_dump_words size dump)

-- the words lent, by what reading answers
module _ (greatest : ℕ) (dump words : List ℕ) where
  pub over_refused : (r : ℕ) → read_answer greatest dump (length words) ≡ ReadRefused r → read_over greatest dump words ≡ opened_over greatest dump words
  unfolding read_over opened_over opened_read
  over_refused r e = rw e

  pub over_read : (size : ℕ) → read_answer greatest dump (length words) ≡ Length size → opened_over greatest dump words ≡ (opened_card greatest (dump_words size dump)).card ++ drop size words
  unfolding opened_over opened_read
  over_read size e = rw e

-- the words beyond the card that was read
pub read_beyond : (greatest : ℕ) (dump words : List ℕ) (size : ℕ) → read_answer greatest dump (length words) ≡ Length size → drop size (read_over greatest dump words) ≡ drop size words
read_beyond greatest dump words size e = ap (drop size) (read_words greatest dump words size e) ∙ drop_at (dump_words size dump) (drop size words) size (length_dump_words size dump)
