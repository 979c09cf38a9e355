-- The numbers of a dump's answers (document 01, "When an answer is an enum, a definition states this paper's number and values").
use Rattle.card.specs.Replies.{Reply, refusal, long}
use Rattle.card_dump.specs.Answer.{Answer}
use Rattle.card_dump.specs.Answer.{Length, Refused}

-- what reading and writing a dump answer
unfoldable pub dump_reply : Answer → Reply
dump_reply (Length n) = long n
dump_reply (Refused r) = refusal r
