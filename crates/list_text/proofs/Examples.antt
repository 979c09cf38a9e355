-- The definitions at work on the output that document 01 gives the list program.
use mathlib.Core.Path.{◌≡◌, refl}
use mathlib.Core.List.{[], ◌∷◌, ◌++◌}
use lib.ListN.{replicate}
use Rattle.list_pairs.specs.Listing.{refused, listed}
use Rattle.list_text.specs.Text.{space, nodes_word, levels_word, pairs_word, family_word, first_line, pair_line, pair_lines, family_line, family_shown, family_lines_from, family_lines, list_text}
use Rattle.text_row.specs.Lines.{digits_from, digit_count, decimal, line_feed, free_word, refused_word, number_line, refusal_line}

-- "nodes 4 free 3 levels 0 pairs 2", "family 0 2", then "3 31" and "7 70": "3 before 7 in its sample"
example_text :
    list_text (listed (record { nodes = 4; free = 3; levels = 0; families = 2 ∷ replicate 15 0; pairs = (3, 31) ∷ (7, 70) ∷ [] }))
    ≡ (110 ∷ 111 ∷ 100 ∷ 101 ∷ 115 ∷ 32 ∷ 52 ∷ 32 ∷ 102 ∷ 114 ∷ 101 ∷ 101 ∷ 32 ∷ 51 ∷ 32 ∷ 108 ∷ 101 ∷ 118 ∷ 101 ∷ 108 ∷ 115 ∷ 32 ∷ 48 ∷ 32
    ∷ 112 ∷ 97 ∷ 105 ∷ 114 ∷ 115 ∷ 32 ∷ 50 ∷ 10 ∷ []) ++ (102 ∷ 97 ∷ 109 ∷ 105 ∷ 108 ∷ 121 ∷ 32 ∷ 48 ∷ 32 ∷ 50 ∷ 10 ∷ []) ++ (51 ∷ 32 ∷ 51 ∷ 49 ∷ 10 ∷ []) ++ (55 ∷ 32 ∷ 55 ∷ 48 ∷ 10 ∷ [])
unfolding list_text first_line family_lines family_lines_from family_shown family_line pair_lines pair_line nodes_word free_word levels_word
    pairs_word family_word space line_feed decimal digit_count digits_from
example_text = refl

-- "refused 11"
example_refused : list_text (refused 11) ≡ 114 ∷ 101 ∷ 102 ∷ 117 ∷ 115 ∷ 101 ∷ 100 ∷ 32 ∷ 49 ∷ 49 ∷ 10 ∷ []
unfolding list_text refusal_line number_line refused_word line_feed decimal digit_count digits_from
example_refused = refl
