-- An answer whose refusal is handed on as its number tells what it told.
use Rattle.std.proofs.Common.{◌≡◌, refl, ℕ, Result}
use Rattle.std.specs.Prelude.{Ok, Err}
use Rattle.card.specs.declared.refusal.Refusal.{Refusal}
use Rattle.card_dump.specs.Answer.{told as dump_of}
use Rattle.state.specs.declared.Answer.{Answer}
use Rattle.state.specs.Answer.{told as answer_of}
use Rattle.state.specs.declared.Begun.{Begun}
use Rattle.state.specs.declared.Begun.TheVariants.{Idle, Started}
use Rattle.state.specs.Begun.{told as begun_of}
use Rattle.state.specs.Total.{told as total_of}
use Rattle.c_replies.specs.Told.{answer_told, begun_told, total_told, dump_told}
use Rattle.ration_table.specs.Clauses.{numbered}

pub answer_numbered : (a : Result Answer Refusal) → answer_told (numbered a) ≡ answer_of a
answer_numbered (Ok a) = refl
answer_numbered (Err r) = refl

pub begun_numbered : (a : Result Begun Refusal) → begun_told (numbered a) ≡ begun_of a
begun_numbered (Ok Idle) = refl
begun_numbered (Ok Started) = refl
begun_numbered (Err r) = refl

pub total_numbered : (a : Result ℕ Refusal) → total_told (numbered a) ≡ total_of a
total_numbered (Ok n) = refl
total_numbered (Err r) = refl

pub dump_numbered : (a : Result ℕ Refusal) → dump_told (numbered a) ≡ dump_of a
dump_numbered (Ok n) = refl
dump_numbered (Err r) = refl
