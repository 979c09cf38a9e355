use Rattle.std.proofs.Common.{◌≡◌, ◌++◌, ◌*◌, take, drop}
use Rattle.card_dump.specs.Dump.{card_bytes}
use Rattle.card_dump.proofs.write_words.Given as goal

-- the bytes of the first words are written, the others as they were
abbrev pub invariant-loop-i : goal.invariant-loop-i
invariant-loop-i l = l.bytes ≡ card_bytes (take l.i l.card) ++ drop (4 * l.i) l.initial.bytes
