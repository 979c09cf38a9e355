use Rattle.std.proofs.Common.{◌≡◌, ◌++◌, drop}
use Rattle.card_dump.specs.Dump.{dump_words}
use Rattle.card_dump.proofs.read_words.Given as goal

-- the first words are the dump's, the others as they were
abbrev pub invariant-loop-i : goal.invariant-loop-i
invariant-loop-i l = l.words ≡ dump_words l.i l.dump ++ drop l.i l.initial.words
