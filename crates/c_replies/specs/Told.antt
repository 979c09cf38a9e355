-- What the answer of a call tells, where its refusal is handed on as the number that the papers give it. These are definitions.
use Rattle.std.specs.Prelude.{ℕ, Option, Result, Ok, Err}
use Rattle.call_find.specs.Found.{Found, held}
use Rattle.call_find.specs.Found.{Refused as FindRefused}
use Rattle.walk_next.specs.declared.Pair.{Pair}
use Rattle.walk_next.specs.Next.{Successor, pair_told}
use Rattle.walk_next.specs.Next.{Refused as NextRefused}
use Rattle.state.specs.declared.Answer.{Answer as Given}
use Rattle.state.specs.Answer.{Answer, given}
use Rattle.state.specs.Answer.{Refused as StepRefused}
use Rattle.state.specs.declared.Begun.{Begun as GivenBegun}
use Rattle.state.specs.declared.Begun.TheVariants.{Idle as GivenIdle, Started as GivenStarted}
use Rattle.state.specs.Begun.{Begun, Idle, Started, Refused as BegunRefused}
use Rattle.state.specs.Total.{Total, Pairs, Refused as TotalRefused}
use Rattle.card_dump.specs.Answer.{Answer as DumpAnswer, Length, Refused as DumpRefused}

abbrev pub found_told : Result (Option ℕ) ℕ → Found
found_told (Ok found) = held found
found_told (Err r) = FindRefused r

abbrev pub next_told : Result (Option Pair) ℕ → Successor
next_told (Ok pair) = pair_told pair
next_told (Err r) = NextRefused r

abbrev pub answer_told : Result Given ℕ → Answer
answer_told (Ok a) = given a
answer_told (Err r) = StepRefused r

abbrev pub begun_told : Result GivenBegun ℕ → Begun
begun_told (Ok GivenIdle) = Idle
begun_told (Ok GivenStarted) = Started
begun_told (Err r) = BegunRefused r

abbrev pub total_told : Result ℕ ℕ → Total
total_told (Ok pairs) = Pairs pairs
total_told (Err r) = TotalRefused r

abbrev pub dump_told : Result ℕ ℕ → DumpAnswer
dump_told (Ok n) = Length n
dump_told (Err r) = DumpRefused r
