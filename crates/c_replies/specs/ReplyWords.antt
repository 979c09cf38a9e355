-- The four words of an answer. These are definitions.
use Rattle.std.specs.Prelude.{◌≡◌, ℕ, ◌^◌, ◌<◌, List, length, eqb}
use Rattle.laws.specs.Cases.{pick}
use Rattle.card.specs.Replies.{Reply}
use Rattle.state.specs.Block.{state_words, memory_in}
use Rattle.card_dump.specs.Answer.{Answer as DumpAnswer}
use Rattle.card_dump.specs.Answer.{Length}
use Rattle.c_replies.specs.declared.Reply.{Reply as FourWords}

-- the four words of an answer
abbrev pub reply_of : FourWords → Reply
reply_of r = record { code = r.code; value = r.value; key = r.key; depth = r.depth }

-- document 02, W-203: the depth that a block keeps, whatever its length; one that is no state keeps none
abbrev pub kept_depth : List ℕ → ℕ
kept_depth block = pick (eqb (length block) state_words) (memory_in block).depth 0

-- the length of a dump's result fits a word
abbrev pub ShortDump : DumpAnswer → Type 0
ShortDump answer = (n : ℕ) → answer ≡ Length n → n < 2 ^ 32
