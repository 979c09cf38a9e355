-- The definitions at work on the input that document 01 gives the list program.
use mathlib.Core.Path.{◌≡◌, refl}
use mathlib.Core.List.{List, [], ◌∷◌, ◌++◌}
use Prim.Native.Nat.{ℕ}
use lib.ListN.{set}
use Rattle.laws.specs.Lists.{pad}
use Rattle.card.specs.Layout.{greatest_nodes, node_image}
use Rattle.card.specs.Header.{nodes_of_length, header_refusal, card_refusal}
use Rattle.card_dump.specs.Dump.{word_bytes, card_bytes, padded_length, dump_of, word_at, dump_words, faults, damaged, fitting_length, read_answer, write_answer}
use Rattle.card_dump.specs.Answer.{Length, Refused}

-- "words 0 to 4 are 1, 4, 8, 24, 1; word 8 is 1; 9 and 10 are 7, 3; 20 and 21 are 70, 31; others 0"
unfoldable pub example : List ℕ
example = pad 104 ((1 ∷ 4 ∷ 8 ∷ 24 ∷ 1 ∷ 0 ∷ 0 ∷ 0 ∷ []) ++ node_image 1 (7 ∷ 3 ∷ []) (70 ∷ 31 ∷ []))

-- "padded to 512 bytes"
example_write : write_answer greatest_nodes example 512 ≡ Length 512
unfolding example node_image write_answer card_refusal header_refusal nodes_of_length fitting_length padded_length
example_write = refl

example_no_room : write_answer greatest_nodes example 511 ≡ Refused 12
unfolding example node_image write_answer card_refusal header_refusal nodes_of_length fitting_length padded_length
example_no_room = refl

example_read : read_answer greatest_nodes (dump_of example) 104 ≡ Length 104
unfolding example node_image read_answer damaged faults fitting_length dump_of card_bytes word_bytes word_at padded_length
example_read = refl

example_words : dump_words 104 (dump_of example) ≡ example
unfolding example node_image dump_words dump_of card_bytes word_bytes word_at padded_length
example_words = refl

-- a dump is read whatever its mark is, and not with a padding byte that is not 0
example_mark : read_answer greatest_nodes (set (dump_of example) 0 0) 104 ≡ Length 104
unfolding example node_image read_answer damaged faults fitting_length dump_of card_bytes word_bytes word_at padded_length
example_mark = refl

example_padding : read_answer greatest_nodes (set (dump_of example) 416 1) 104 ≡ Refused 11
unfolding example node_image read_answer damaged faults fitting_length dump_of card_bytes word_bytes word_at padded_length
example_padding = refl
