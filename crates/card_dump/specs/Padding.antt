-- Document 02, W-202: the padding is tested "eight bytes at a time, as one 64-bit number proved 0 exactly when all eight are".
use Rattle.std.specs.Prelude.{List, ℕ, ◌+◌, ◌*◌}
use Rattle.card_dump.specs.Dump.{word_at}

-- eight bytes, those from number 8 × k on, low byte first: two words
abbrev pub eight_at : List ℕ → ℕ → ℕ
eight_at dump k = word_at dump (2 * k) + 4294967296 * word_at dump (2 * k + 1)
