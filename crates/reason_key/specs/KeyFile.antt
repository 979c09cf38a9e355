-- THE KEY THAT A FILE HOLDS (request W-209). The file is the list of its bytes.
use Rattle.std.specs.Prelude.{Bool, true, false, ◌&&◌, ◌||◌, List, [], ◌∷◌, ℕ, ◌+◌, ◌-◌, ◌*◌, ◌^◌, length, eqb, leb, ltb}
use Rattle.laws.specs.Cases.{pick}
use Rattle.card.specs.Layout.{lowest_key, key_limit}

-- "of at most 64 bytes"
abbrev pub most_bytes : ℕ
most_bytes = 64

-- the byte of a line feed
abbrev pub line_feed_byte : ℕ
line_feed_byte = 10

-- "final line feed apart": without the last byte, where that is a line feed
unfoldable pub without_final_feed : List ℕ → List ℕ
without_final_feed [] = []
without_final_feed (byte ∷ []) = pick (eqb byte line_feed_byte) [] (byte ∷ [])
without_final_feed (byte ∷ next ∷ bytes) = byte ∷ without_final_feed (next ∷ bytes)

-- whether a line feed is among the bytes
unfoldable pub has_feed : List ℕ → Bool
has_feed [] = false
has_feed (byte ∷ bytes) = eqb byte line_feed_byte || has_feed bytes

-- "the last line": what stands after the last line feed, or all where there is none
unfoldable pub last_line : List ℕ → List ℕ
last_line [] = []
last_line (byte ∷ bytes) = pick (has_feed (byte ∷ bytes)) (last_line bytes) (byte ∷ bytes)

-- "digits only": the bytes of 0 to 9 are 48 to 57
unfoldable pub is_digit : ℕ → Bool
is_digit byte = leb 48 byte && leb byte 57

unfoldable pub all_digits : List ℕ → Bool
all_digits [] = true
all_digits (byte ∷ bytes) = is_digit byte && all_digits bytes

-- "decimal": each digit counts a power of ten, the last one 1, so that leading zeros change nothing
unfoldable pub decimal_value : List ℕ → ℕ
decimal_value [] = 0
decimal_value (byte ∷ bytes) = (byte - 48) * 10 ^ length bytes + decimal_value bytes

-- "a decimal key from 1 to 4,294,967,295 (digits only, leading zeros allowed) as its whole last line"; a line without a byte is
-- worth 0, which is no key
unfoldable pub is_key_line : List ℕ → Bool
is_key_line line = all_digits line && (leb lowest_key (decimal_value line) && ltb (decimal_value line) key_limit)

-- the key that a line is, or 0, which is no key
unfoldable pub key_of_line : List ℕ → ℕ
key_of_line line = pick (is_key_line line) (decimal_value line) 0

-- the key of a file, or 0: "a file missing, longer, or without a decimal key .. prints `no key`"
unfoldable pub key_in : List ℕ → ℕ
key_in file = pick (leb (length file) most_bytes) (key_of_line (last_line (without_final_feed file))) 0
