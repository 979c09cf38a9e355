-- The numbers of the refusals: 1 to 12 are document 01's, 13 to 24 document 02's; 71 is that of a block which is no state, and has no
-- number there. These are definitions.
use Rattle.std.specs.Prelude.{ℕ, Result, Ok, Err}
use Rattle.card.specs.declared.refusal.Refusal.{Refusal}
use Rattle.card.specs.declared.refusal.Refusal.TheVariants.{WrongLength, WrongMark, WrongHeader, Unsound, TooFewFree, ZeroKey, Busy, NoRoom, WrongNode, Idle, WrongDump, ShortSlice, WrongFamily, WrongLine, WrongOffset, WrongRecord, NoState}

-- "A refusal gives its number"
abbrev pub number : Refusal → ℕ
number WrongLength = 1
number WrongMark = 2
number WrongHeader = 3
number Unsound = 4
number TooFewFree = 5
number ZeroKey = 6
number Busy = 7
number NoRoom = 8
number WrongNode = 9
number Idle = 10
number WrongDump = 11
number ShortSlice = 12
number WrongFamily = 13
number WrongLine = 18
number WrongOffset = 23
number WrongRecord = 24
number NoState = 71

-- the number of the refusal that there is, and 0 where there is none
abbrev pub number_of : {A : Type 0} → Result A Refusal → ℕ
number_of (Ok a) = 0
number_of (Err r) = number r
