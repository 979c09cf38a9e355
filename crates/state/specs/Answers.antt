-- Document 01, "When an answer is an enum, a definition states this paper's number and values for each enum case."
use Rattle.std.specs.Prelude.{ℕ, get_or, ltb}
use Rattle.laws.specs.Cases.{pick}
use Rattle.card.specs.Replies.{Reply, refusal, holds, absent, stored, ready, idle, started, totalled}
use Rattle.card_family.specs.Families.{family_count}
use Rattle.state.specs.Memory.{Memory}
use Rattle.state.specs.Total.{Total}
use Rattle.state.specs.Total.{Pairs, Refused as NoFamily}
use Rattle.state.specs.Answer.{Answer}
use Rattle.state.specs.Answer.{Stored, Ready, Absent, Value, Refused}
use Rattle.state.specs.Begun.{Begun}
use Rattle.state.specs.Begun.{Idle as OpenedIdle, Started, Refused as BegunRefused}

-- what a step answers
unfoldable pub step_reply : Answer → Reply
step_reply (Stored place) = stored place
step_reply Ready = ready
step_reply Absent = absent
step_reply (Value v) = holds v
step_reply (Refused r) = refusal r

-- document 02, W-203: the depth told beside a step's answer, where so many internal nodes were passed when the call began. The final
-- answers of an insert or a delete tell it; "A refusal carries none", and a store and "ready" neither.
unfoldable pub told_depth : ℕ → Answer → ℕ
told_depth depth (Stored place) = 0
told_depth depth Ready = 0
told_depth depth Absent = depth
told_depth depth (Value v) = depth
told_depth depth (Refused r) = 0

-- what opening and starting answer
unfoldable pub start_reply : Begun → Reply
start_reply OpenedIdle = idle
start_reply Started = started
start_reply (BegunRefused r) = refusal r

-- document 02, W-204: "One question answers a family's total"; "13: family above 15; that question checks nothing else."
unfoldable pub total_of : Memory → ℕ → Total
total_of m family = pick (ltb family family_count) (Pairs (get_or m.totals family 0)) (NoFamily 13)

unfoldable pub total_reply : Total → Reply
total_reply (Pairs pairs) = totalled pairs
total_reply (NoFamily r) = refusal r
