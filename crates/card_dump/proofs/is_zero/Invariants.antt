use Rattle.std.proofs.Common.{◌≡◌, drop}
use Rattle.card_dump.proofs.Padding.{zero_eights}
use Rattle.card_dump.proofs.is_zero.Given as goal

-- the bytes passed were 0, so what is left decides
abbrev pub invariant-loop-k : goal.invariant-loop-k
invariant-loop-k l = zero_eights (drop l.from l.eights) ≡ zero_eights (drop l.k l.eights)
