-- THE TEXT THAT `list` PRINTS, byte by byte (document 01, "Dumps and the list program"; document 02, W-204: "`list` adds a line
-- `family F n` for each family with n above 0, rising, after its first line").
use Rattle.std.specs.Prelude.{List, [], ◌∷◌, ◌++◌, ℕ, zero, suc, ◌*◌, length, get_or, take, replicate, eqb}
use Rattle.laws.specs.Cases.{pick}
use Rattle.card_family.specs.Families.{family_count}
use Rattle.list_pairs.specs.Listing.{Listed, refused, listed, list_dump, lay_listed}
use Rattle.list_pairs.specs.Summaries.{Summary, summary_of}
use Rattle.call_repair.specs.Repairing.{card_room}
use Rattle.text_row.specs.Lines.{decimal, line_feed, free_word, refusal_line}

-- ---- the lines

-- one space
unfoldable pub space : List ℕ
space = 32 ∷ []

-- "nodes "
unfoldable pub nodes_word : List ℕ
nodes_word = 110 ∷ 111 ∷ 100 ∷ 101 ∷ 115 ∷ 32 ∷ []

-- " levels "
unfoldable pub levels_word : List ℕ
levels_word = 32 ∷ 108 ∷ 101 ∷ 118 ∷ 101 ∷ 108 ∷ 115 ∷ 32 ∷ []

-- " pairs "
unfoldable pub pairs_word : List ℕ
pairs_word = 32 ∷ 112 ∷ 97 ∷ 105 ∷ 114 ∷ 115 ∷ 32 ∷ []

-- "family "
unfoldable pub family_word : List ℕ
family_word = 102 ∷ 97 ∷ 109 ∷ 105 ∷ 108 ∷ 121 ∷ 32 ∷ []

-- "First line: N, free nodes, internal levels, pairs."
unfoldable pub first_line : ℕ → ℕ → ℕ → ℕ → List ℕ
first_line nodes free levels pairs =
    (nodes_word ++ decimal nodes) ++ (free_word ++ decimal free) ++ (levels_word ++ decimal levels) ++ (pairs_word ++ decimal pairs) ++ line_feed

-- "Then key and value": a pair's line
unfoldable pub pair_line : ℕ → ℕ → List ℕ
pair_line key value = decimal key ++ (space ++ decimal value) ++ line_feed

-- the lines of all pairs
unfoldable pub pair_lines : List (ℕ × ℕ) → List ℕ
pair_lines [] = []
pair_lines (p ∷ ps) = pair_line p.0 p.1 ++ pair_lines ps

-- "a line `family F n`": after the word the two numbers stand as on a pair's line
unfoldable pub family_line : ℕ → ℕ → List ℕ
family_line f n = family_word ++ pair_line f n

-- "for each family with n above 0"
unfoldable pub family_shown : ℕ → ℕ → List ℕ
family_shown f n = pick (eqb n 0) [] (family_line f n)

-- "rising": those of so many families, from family f on
unfoldable pub family_lines_from : ℕ → ℕ → List ℕ → List ℕ
family_lines_from f zero totals = []
family_lines_from f (suc more) totals = family_shown f (get_or totals f 0) ++ family_lines_from (suc f) more totals

-- the lines of families 0 to 15
unfoldable pub family_lines : List ℕ → List ℕ
family_lines totals = family_lines_from 0 family_count totals

-- what is printed of a listing
unfoldable pub list_text : Listed → List ℕ
list_text (refused number) = refusal_line number
list_text (listed l) = first_line l.nodes l.free l.levels (length l.pairs) ++ family_lines l.families ++ pair_lines l.pairs

-- ---- what is printed of a dump

-- the words key, value, key, value .. as pairs
unfoldable pub pairs_of_words : List ℕ → List (ℕ × ℕ)
pairs_of_words [] = []
pairs_of_words (key ∷ []) = []
pairs_of_words (key ∷ value ∷ words) = (key, value) ∷ pairs_of_words words

-- the listing that a summary and the words stored for it tell
unfoldable pub listing_told : Summary → List ℕ → Listed
listing_told s words =
    pick (eqb s.refusal 0)
    (listed (record { nodes = s.nodes; free = s.free; levels = s.levels; families = s.families; pairs = pairs_of_words (take s.words words) }))
    (refused s.refusal)

-- the words that the pairs of a dump of a card up to some greatest N are laid into: key and value of 11 pairs for each node
abbrev pub pair_room : ℕ → ℕ
pair_room greatest = 22 * greatest

abbrev pub zeros : ℕ → List ℕ
zeros n = replicate n 0

-- the listing of such a dump as it is handed to the printing. It is `list_dump greatest dump (card_room greatest)`: demands, ListText `handed_whole`
unfoldable pub listing_handed : ℕ → List ℕ → Listed
listing_handed greatest dump =
    listing_told (summary_of (list_dump greatest dump (card_room greatest)) (zeros (pair_room greatest)))
    (lay_listed (list_dump greatest dump (card_room greatest)) (zeros (pair_room greatest))).words

-- its text, which the program prints for the greatest N that it is made for. It is `list_text (list_dump greatest dump (card_room greatest))`: demands,
-- ListText `text_right`
unfoldable pub dump_text : ℕ → List ℕ → List ℕ
dump_text greatest dump = list_text (listing_handed greatest dump)
