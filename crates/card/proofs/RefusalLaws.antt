-- Laws of the numbers of refusals.
use Rattle.std.proofs.Common.{◌≡◌, arith, refl, true, false, Result, Ok, Err, is_err}
use Rattle.laws.proofs.Cases.{impossible}
use Rattle.card.specs.Refusals.{number, number_of}
use Rattle.card.specs.declared.refusal.Refusal.{Refusal}
use Rattle.card.specs.declared.refusal.Refusal.TheVariants.{WrongLength, WrongMark, WrongHeader, Unsound, TooFewFree, ZeroKey, Busy, NoRoom, WrongNode, Idle, WrongDump, ShortSlice, WrongFamily, WrongLine, WrongOffset, WrongRecord, NoState}

-- no refusal has the number 0, which stands for none
pub number_some : (r : Refusal) → number r ≡ 0 → ⊥
number_some WrongLength e = omega arith
number_some WrongMark e = omega arith
number_some WrongHeader e = omega arith
number_some Unsound e = omega arith
number_some TooFewFree e = omega arith
number_some ZeroKey e = omega arith
number_some Busy e = omega arith
number_some NoRoom e = omega arith
number_some WrongNode e = omega arith
number_some Idle e = omega arith
number_some WrongDump e = omega arith
number_some ShortSlice e = omega arith
number_some WrongFamily e = omega arith
number_some WrongLine e = omega arith
number_some WrongOffset e = omega arith
number_some WrongRecord e = omega arith
number_some NoState e = omega arith

-- a result is an error exactly where it has a number
pub number_err : {A : Type 0} (r : Result A Refusal) → is_err r ≡ true → number_of r ≡ 0 → ⊥
number_err (Ok a) e z = impossible (cc)
number_err (Err r) e z = number_some r z

pub number_ok : {A : Type 0} (r : Result A Refusal) → is_err r ≡ false → number_of r ≡ 0
number_ok (Ok a) e = refl
number_ok (Err r) e = impossible (cc)
