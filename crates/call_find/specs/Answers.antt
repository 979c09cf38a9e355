-- Document 01, "When an answer is an enum, a definition states this paper's number and values for each enum case."
use Rattle.card.specs.Replies.{Reply, refusal, holds, absent}
use Rattle.call_find.specs.Found.{Found}
use Rattle.call_find.specs.Found.{Value as FoundValue, Absent as FoundAbsent, Refused as FoundRefused}

-- what a find answers
unfoldable pub found_reply : Found → Reply
found_reply (FoundValue v) = holds v
found_reply FoundAbsent = absent
found_reply (FoundRefused r) = refusal r
