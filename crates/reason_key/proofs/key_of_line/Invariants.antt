use Rattle.std.proofs.Common.{◌≡◌, ◌<◌, drop}
use Rattle.card.specs.Layout.{key_limit}
use Rattle.reason_key.specs.KeyFile.{all_digits, decimal_value}
use Rattle.reason_key.proofs.KeyFileLaws.{continued}
use Rattle.reason_key.proofs.key_of_line.Given as goal

-- the bytes read are digits, and the line is worth what their value and those left make
abbrev pub invariant-loop-byte : goal.invariant-loop-byte
invariant-loop-byte l =
    (l.value < key_limit) × (all_digits l.line ≡ all_digits (drop l.byte-index l.line))
    × (decimal_value l.line ≡ continued l.value (drop l.byte-index l.line))
