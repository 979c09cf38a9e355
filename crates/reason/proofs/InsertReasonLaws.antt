-- Laws of the reason: one for each branch of the code.
use mathlib.Core.Path.{◌≡◌, refl, ◌∙◌}
use mathlib.Core.Bool.{Bool}
use mathlib.Core.List.{List}
use Prim.Native.Nat.{ℕ}
use lib.ListN.{length}
use borrow.Author.Tests.{ne_eqb, eq-eqb}
use Rattle.card.specs.Header.{nodes_of_length}
use Rattle.laws.proofs.Cases.{impossible}
use Rattle.std.specs.Prelude.{Result, Ok, Err}
use Rattle.card.specs.declared.refusal.Refusal.{Refusal}
use Rattle.state.specs.declared.Begun.{Begun as Given}
use Rattle.state.specs.declared.Begun.TheVariants.{Idle as GivenIdle, Started as GivenStarted}
use Rattle.state.specs.Begun.{Begun, told}
use Rattle.state.specs.Begun.{Idle, Started, Refused as BegunRefused}
use Rattle.call_change.specs.Updates.{landing}
use Rattle.call_open.specs.Opening.{open_of}
use Rattle.call_repair.specs.Repairing.{opened_card}
use Rattle.card_dump.specs.Dump.{dump_words, read_answer}
use Rattle.card_dump.specs.Answer.{Length, Refused as ReadRefused}
use Rattle.reason.specs.InsertReason.{reason_landed, reason_on, reason_begun, reason_of, reason_read, reason_in_dump}
use Rattle.reason.specs.Reason.{Refused, NoKey}

module _ (greatest : ℕ) (card : List ℕ) (free : List Bool) (key n : ℕ) (counted : n ≡ nodes_of_length greatest (length card)) where
  pub on_no_key : (n ≡ 0 → ⊥) → key ≡ 0 → reason_on greatest card free key ≡ NoKey
  unfolding reason_on
  on_no_key p z = simp (ne_eqb (nodes_of_length greatest (length card)) 0 (λ q. p (counted ∙ q)), eq-eqb key 0 z)

  pub on_key : (n ≡ 0 → ⊥) → (key ≡ 0 → ⊥) → reason_on greatest card free key ≡ reason_landed card free key (landing card n key)
  unfolding reason_on
  on_key p q = simp (ne_eqb (nodes_of_length greatest (length card)) 0 (λ z. p (counted ∙ z)), ne_eqb key 0 q, ← counted)

module _ (greatest : ℕ) (card : List ℕ) (key : ℕ) where
  pub of_refused : (r : ℕ) → (open_of greatest card).begun ≡ BegunRefused r → reason_of greatest card key ≡ Refused r
  unfolding reason_of reason_begun
  of_refused r e = rw e

  pub of_opened : ((r : ℕ) → (open_of greatest card).begun ≡ BegunRefused r → ⊥)
      → reason_of greatest card key ≡ reason_on greatest (opened_card greatest card).card (opened_card greatest card).memory.free key
  unfolding reason_of reason_begun
  of_opened unrefused = go (open_of greatest card).begun refl
    where
      go : (b : Begun) → (open_of greatest card).begun ≡ b → reason_of greatest card key ≡ reason_on greatest (opened_card greatest card).card (opened_card greatest card).memory.free key
      go Idle e = rw e
      go Started e = rw e
      go (BegunRefused r) e = absurd (unrefused r e)

-- what opening answered: an answer that is no error is no refusal
pub is_unrefused : (a : Result Given Refusal) (b : Given) → a ≡ Ok b → (r : ℕ) → told a ≡ BegunRefused r → ⊥
is_unrefused (Ok GivenIdle) b o r e = impossible (cc)
is_unrefused (Ok GivenStarted) b o r e = impossible (cc)
is_unrefused (Err f) b o r e = impossible (cc)

module _ (greatest : ℕ) (dump : List ℕ) (lent key : ℕ) where
  pub dump_refused : (r : ℕ) → read_answer greatest dump lent ≡ ReadRefused r → reason_in_dump greatest dump lent key ≡ Refused r
  unfolding reason_in_dump reason_read
  dump_refused r e = rw e

  pub dump_read : (size : ℕ) → read_answer greatest dump lent ≡ Length size → reason_in_dump greatest dump lent key ≡ reason_of greatest (dump_words size dump) key
  unfolding reason_in_dump reason_read
  dump_read size e = rw e
