-- The definitions at work on the input that document 01 gives the list program.
use mathlib.Core.Path.{◌≡◌, refl}
use Rattle.card.specs.Layout.{greatest_nodes}
use mathlib.Core.List.{[], ◌∷◌}
use lib.ListN.{replicate}
use Rattle.card.specs.Lines.{has_line, seen}
use Rattle.card.specs.Header.{nodes_of_length, header_refusal, card_refusal}
use Rattle.card.specs.Layout.{node_at, key_words, value_words, leaf_pairs, node_image}
use Rattle.card_dump.specs.Dump.{word_bytes, card_bytes, padded_length, dump_of, word_at, dump_words, faults, damaged, fitting_length, read_answer}
use Rattle.card_dump.proofs.Examples.{example}
use Rattle.card_free.specs.NodeSet.{all_nodes, count_true}
use Rattle.card_check.specs.Check.{member, leaf_sound, enter_leaf, enter_kind, enter_node, on_look, node_check, table_check, slot_sound, tree_check}
use Rattle.card_check.specs.Counting.{keys_counted, children_counted, node_counted, table_counted}
use Rattle.card_family.specs.Families.{family_of, several_in}
use Rattle.call_open.specs.Opening.{open_sound, open_checked, open_of}
use Rattle.state.specs.Steps.{is_idle}
use Rattle.state.specs.Memory.{resting}
use Rattle.call_repair.specs.Repairing.{repaired_card, opened_card}
use Rattle.walk.specs.Descent.{outside, look_in, look_at, root_position, by_look, way_from, way, reached_at, leaf_of, beside_all}
use Rattle.walk_next.specs.Successor.{nearer, nearer_above, least_above, found, next_in_leaf, in_next_leaf, or_next_leaf, next_along, next_in, next_of, on_next, walk_from}
use Rattle.list_pairs.specs.Listing.{list_checked, list_table, list_begun, list_card, list_read, list_dump, listed}

-- "nodes 4 free 3 levels 0 pairs 2", both pairs of family 0, then "3 31" and "7 70": "3 before 7 in its sample"
example_listed : list_dump greatest_nodes (dump_of example) 104 ≡ listed (record { nodes = 4; free = 3; levels = 0; families = 2 ∷ replicate 15 0; pairs = (3, 31) ∷ (7, 70) ∷ [] })
unfolding example node_image read_answer damaged faults fitting_length dump_of card_bytes word_bytes word_at padded_length dump_words list_dump
    list_read list_card list_begun list_table list_checked opened_card repaired_card is_idle open_of open_checked open_sound resting card_refusal
    header_refusal nodes_of_length table_check tree_check node_check on_look enter_node enter_kind enter_leaf leaf_sound slot_sound member all_nodes count_true
    node_at key_words value_words leaf_pairs outside look_in look_at root_position by_look way_from way reached_at leaf_of nearer nearer_above least_above beside_all
    table_counted node_counted children_counted keys_counted several_in family_of
    found next_in_leaf in_next_leaf or_next_leaf next_along next_in next_of on_next walk_from has_line seen
example_listed = refl
