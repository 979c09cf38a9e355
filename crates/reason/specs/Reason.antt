-- What stands in the way of a new number (document 02, W-209), by the papers' numbers: a refusal first, no key, the value held, an empty
-- slot, or a split. In code a refusal is an error; `told` says what a result tells. These are definitions.
use Rattle.std.specs.Prelude.{ℕ, Result, Ok, Err}
use Rattle.card.specs.Refusals.{number}
use Rattle.card.specs.declared.refusal.Refusal.{Refusal}
use Rattle.reason.specs.declared.Reason.{Reason as Given}
use Rattle.reason.specs.declared.Reason.TheVariants.{NoKey as GivenNoKey, Held as GivenHeld, Slot as GivenSlot, Split as GivenSplit}

-- of a split: the 11-child nodes above the leaf, the free nodes, and those that it needs
pub data Reason : Type 0 where
  Refused : ℕ → Reason
  NoKey : Reason
  Held : ℕ → Reason
  Slot : Reason
  Split : ℕ → ℕ → ℕ → Reason

abbrev pub reason_told : Given → Reason
reason_told GivenNoKey = NoKey
reason_told (GivenHeld v) = Held v
reason_told GivenSlot = Slot
reason_told (GivenSplit run free need) = Split run free need

-- "refusals print first, as `list` prints them"
abbrev pub told : Result Given Refusal → Reason
told (Ok r) = reason_told r
told (Err r) = Refused (number r)
