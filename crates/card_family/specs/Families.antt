-- Document 02, W-204, "Totals by feed family": "The top 4 bits of a ration number are its family, 0 to 15. Stores keep asking what each
-- family holds."
use Rattle.std.specs.Prelude.{ℕ, ◌+◌, ◌/◌, ◌%◌, ◌^◌, List, replicate, slice_index, slice_set}
use Rattle.laws.specs.Totals.{indicator}

-- how many families there are, and how many numbers each has
abbrev pub family_count : ℕ
family_count = 16

abbrev pub family_size : ℕ
family_size = 2 ^ 28

unfoldable pub family_of : ℕ → ℕ
family_of key = key / family_size

-- 1 for a pair of family f, else 0: the total of this weight over a map is what the family holds
unfoldable pub of_family : ℕ → ℕ × ℕ → ℕ
of_family f p = indicator f (family_of p.0)

-- "16 totals", one word for each family: those of an empty map
abbrev pub no_totals : List ℕ
no_totals = replicate family_count 0

-- so many pairs of the family of this key are put in. No card has so many pairs that a total leaves its word; in a state that no call
-- handed back it goes round.
unfoldable pub several_in : ℕ → ℕ → List ℕ → List ℕ
several_in key count totals = slice_set totals (family_of key) ((slice_index totals (family_of key) + count) % 2 ^ 32)

-- a pair with this key is put in, or taken out: once round less one
abbrev pub counted_in : ℕ → List ℕ → List ℕ
counted_in key = several_in key 1

abbrev pub counted_out : ℕ → List ℕ → List ℕ
counted_out key = several_in key 4294967295
