-- Laws of the calls on a lent block: one of another length, and one of a state's.
use mathlib.Core.Path.{◌≡◌, refl, ◌∙◌}
use mathlib.Core.List.{List}
use lib.ListN.{length, drop}
use Prim.Native.Nat.{ℕ}
use Rattle.card.specs.Replies.{no_state}
use Rattle.state.specs.Steps.{Handed}
use Rattle.state.specs.declared.Doing.{Doing}
use Rattle.state.specs.Begun.{Begun}
use Rattle.state.specs.Begun.{Refused as BegunRefused}
use Rattle.state.specs.Block.{back_at, state_words}
use Rattle.state.proofs.Blocks.{resting_same}
use Rattle.state.specs.Clauses.{Opened, OpenCall, StartCall}

module _ (block : List ℕ) (n : length block ≡ state_words → ⊥) where
  pub open_no_state : (due : Handed) → OpenCall block block (BegunRefused no_state.code) due
  open_no_state due = record { opened = λ l. absurd (n l); no_state_lem = λ m. (refl, refl) }

  pub start_no_state : (doing : Doing) (due : Handed) → StartCall block block (BegunRefused no_state.code) doing due
  start_no_state doing due = record { answered = λ l. absurd (n l); handed = λ l. absurd (n l); words = λ l. absurd (n l); no_state_lem = λ m. (refl, refl) }

-- a block of a state's length
pub opened_call : (before after : List ℕ) (begun : Begun) (due : Handed) → length before ≡ state_words → Opened before after begun due → OpenCall before after begun due
opened_call before after begun due l o = record { opened = λ k. o; no_state_lem = λ n. absurd (n l) }

-- by the words of another block that stand
pub opened_from : (a b after : List ℕ) (begun : Begun) (due : Handed) → drop back_at a ≡ drop back_at b → Opened a after begun due → Opened b after begun due
opened_from a b after begun due e o = record { answered = o.answered; handed = o.handed; words = o.words ∙ resting_same a b due.memory e }
