-- The starred bench cards, computed: each card once as literal words, worked from the one before, and the rows read off.
use mathlib.Core.Path.{◌≡◌, refl, ap, ◌∙◌}
use Rattle.card.specs.Layout.{greatest_nodes}
use mathlib.Core.List.{List, [], ◌∷◌, ◌++◌}
use Prim.Native.Nat.{ℕ}
use lib.ListN.{get_or, replicate}
use Rattle.card.specs.Lines.{has_line, seen, on_line}
use Rattle.card.specs.Header.{nodes_of_length, header_refusal, card_refusal}
use Rattle.card.specs.Layout.{formatted_root, run_below, node_at, key_words, value_words, children, routing_keys, leaf_pairs, node_image}
use Rattle.change_plan.specs.Change.{change_stores, kind_above, split_leaf, joined_keys, joined_children, absorb, split_parent, leaves_together}
use Rattle.change_plan.specs.Change.{inners_together, half, left_keys, key_between, share, merge, merge_root, halves, copied}
use Rattle.change_plan.specs.Planning.{numbers_from, take_numbers, without_all, last_of, over_numbers, giving, with_all}
use Rattle.change_decide.specs.Decide.{decide_tagged, decide_together, decide_siblings, is_node, decide_underfull, decide_at, on_search}
use Rattle.change_decide.specs.Decide.{decided_repair}
use Rattle.change_layout.specs.LayOut.{lay_out}
use Rattle.change_layout.specs.Mending.{next_repair}
use Rattle.change_siblings.specs.Siblings.{together_at}
use Rattle.walk.specs.Descent.{passed, child_index, child_for, first_equal, slot_of, outside, look_in, look_at, root_position, child_position, past, by_look, way_from, leaf_of, reached_at, depth_of}
use Rattle.walk.specs.Descent.{way, run_over, landed_at, landing_of, count_of, is_fault, first_fault, ended, to_list, end_of}
use Rattle.walk.specs.Descent.{search_of, seek}
use Rattle.card_free.specs.NodeSet.{all_nodes, count_true, first_true, first_from, next_free}
use Rattle.laws.specs.Sorting.{insert_pair, insert_all, sort, pair_keys}
use Rattle.card_check.specs.Check.{member, leaf_sound, unused_zero, look_of, noted, enter_leaf, inner_sound, enter_inner, enter_kind, enter_node}
use Rattle.card_check.specs.Check.{children_check, raised, on_look, node_check, table_check, range_end, slot_sound, tree_check}
use Rattle.card.specs.Replies.{refusal, holds, absent, idle, started as begun}
use Rattle.call_find.specs.Answers.{found_reply}
use Rattle.state.specs.Answers.{step_reply, start_reply}
use Rattle.call_find.specs.Find.{found_in, found_at, find_of, find_in}
use Rattle.call_open.specs.Opening.{open_sound, open_checked, open_of}
use Rattle.call_start.specs.Starts.{format_of, start_refused, start_accepted, start_landed, start_checked, start_of, insert_of, delete_of}
use Rattle.call_step.specs.Calls.{planning, step_prepared, step_begin, step_held, step_of, step_task, placed_on, on_card, step_checked}
use Rattle.state.specs.Steps.{no_beginning, step_refused, step_final, formatted_word, format_store, formatting_from, step_format, step_store, is_idle, held_by}
use Rattle.state.specs.Memory.{no_memory, resting, idled, settled_phase, settled, settled_in, settled_out, settled_totals, advanced}
use Rattle.card_family.specs.Families.{family_of, several_in}
use Rattle.card_check.specs.Counting.{keys_counted, children_counted, node_counted, table_counted}
use Rattle.call_change.specs.Updates.{landing, empty_reason, reason_in, insert_reason, insert_change, delete_change, room_for, start_room, next_change, in_leaf, no_way}
use Rattle.state.specs.Answer.{Absent, Value}
use Rattle.state.specs.declared.Doing.TheVariants.{Idle}
use Rattle.bench.specs.Cards.{Bench, on_answer, drive, fresh, insert_whole, delete_whole, steps, upto, said, card_l, card_b, card_s, card_i}
use Rattle.bench.specs.Cards.{card_k, card_l2, cut_b, again_b, cut_i, split_i, row_a, row_b, row_c, row_d, row_e, row_f, row_g104, row_g80, row_g103}
use Rattle.bench.specs.Cards.{row_g105, row_g14432, row_g62432, row_hinsert, row_hfind, row_hgreatest, row_i, row_j, row_k, row_kleft}
use Rattle.bench.specs.Cards.{row_kright, row_l2, row_l2leaf, row_cut_opened, row_cut_absent, row_cut_held, StarredCards}

-- B, made again after its cut, every word
abbrev pub held_b : Bench
held_b =
    record {
      card = (1 ∷ 4 ∷ 8 ∷ 24 ∷ 1 ∷ 0 ∷ 0 ∷ 0 ∷ 1 ∷ 7 ∷ 0 ∷ 0 ∷ 0 ∷ 0 ∷ 0 ∷ 0 ∷ 0 ∷ 0 ∷ 0 ∷ 0
          ∷ 70 ∷ 0 ∷ 0 ∷ 0 ∷ 0 ∷ 0 ∷ 0 ∷ 0 ∷ 0 ∷ 0 ∷ 0 ∷ 0 ∷ 0 ∷ 0 ∷ 0 ∷ 0 ∷ 0 ∷ 0 ∷ 0 ∷ 0 ∷ 0 ∷ 0 ∷ 0 ∷ 0 ∷ 0 ∷ 0 ∷ 0 ∷ 0 ∷ 0 ∷ 0 ∷ 0 ∷ 0
          ∷ 0 ∷ 0 ∷ 0 ∷ 0 ∷ 0 ∷ 0 ∷ 0 ∷ 0 ∷ 0 ∷ 0 ∷ 0 ∷ 0 ∷ 0 ∷ 0 ∷ 0 ∷ 0 ∷ 0 ∷ 0 ∷ 0 ∷ 0 ∷ 0 ∷ 0 ∷ 0 ∷ 0 ∷ 0 ∷ 0 ∷ 0 ∷ 0 ∷ 0 ∷ 0 ∷ 0 ∷ 0
          ∷ 0 ∷ 0 ∷ 0 ∷ 0 ∷ 0 ∷ 0 ∷ 0 ∷ 0 ∷ 0 ∷ 0 ∷ 0 ∷ 0 ∷ 0 ∷ 0 ∷ 0 ∷ 0 ∷ 0 ∷ 0 ∷ 0 ∷ 0 ∷ []);
      memory = record { nodes = 4; free = without_all (1 ∷ []) (all_nodes 4); last = formatted_root; doing = Idle; rest = []; cut = []; depth = 0; totals = 1 ∷ replicate 15 0 };
      stores = 2;
      answer = Absent;
    }

-- S, every word
abbrev pub held_s : Bench
held_s =
    record {
      card = (1 ∷ 6 ∷ 8 ∷ 24 ∷ 1 ∷ 0 ∷ 0 ∷ 0 ∷ 1 ∷ 1 ∷ 2 ∷ 3 ∷ 4 ∷ 5 ∷ 6 ∷ 7 ∷ 8 ∷ 9 ∷ 10 ∷ 11 ∷ 10 ∷ 20 ∷ 30 ∷ 40 ∷ 50 ∷ 60 ∷ 70 ∷ 80 ∷ 90
          ∷ 100 ∷ 110 ∷ 0 ∷ 0 ∷ 0 ∷ 0 ∷ 0 ∷ 0 ∷ 0 ∷ 0 ∷ 0 ∷ 0 ∷ 0 ∷ 0 ∷ 0 ∷ 0 ∷ 0 ∷ 0 ∷ 0 ∷ 0 ∷ 0 ∷ 0 ∷ 0 ∷ 0 ∷ 0 ∷ 0 ∷ 0 ∷ 0 ∷ 0 ∷ 0 ∷ 0
          ∷ 0 ∷ 0 ∷ 0 ∷ 0 ∷ 0 ∷ 0 ∷ 0 ∷ 0 ∷ 0 ∷ 0 ∷ 0 ∷ 0 ∷ 0 ∷ 0 ∷ 0 ∷ 0 ∷ 0 ∷ 0 ∷ 0 ∷ 0 ∷ 0 ∷ 0 ∷ 0 ∷ 0 ∷ 0 ∷ 0 ∷ 0 ∷ 0 ∷ 0 ∷ 0 ∷ 0 ∷ 0
          ∷ 0 ∷ 0 ∷ 0 ∷ 0 ∷ 0 ∷ 0 ∷ 0 ∷ 0 ∷ 0 ∷ 0 ∷ 0 ∷ 0 ∷ 0 ∷ 0 ∷ 0 ∷ 0 ∷ 0 ∷ 0 ∷ 0 ∷ 0 ∷ 0 ∷ 0 ∷ 0 ∷ 0 ∷ 0 ∷ 0 ∷ 0 ∷ 0 ∷ 0 ∷ 0 ∷ 0 ∷ 0
          ∷ 0 ∷ 0 ∷ 0 ∷ 0 ∷ 0 ∷ 0 ∷ 0 ∷ 0 ∷ 0 ∷ 0 ∷ 0 ∷ 0 ∷ 0 ∷ 0 ∷ 0 ∷ 0 ∷ 0 ∷ 0 ∷ 0 ∷ 0 ∷ 0 ∷ 0 ∷ 0 ∷ 0 ∷ 0 ∷ 0 ∷ 0 ∷ 0 ∷ []);
      memory = record { nodes = 6; free = without_all (1 ∷ []) (all_nodes 6); last = formatted_root; doing = Idle; rest = []; cut = []; depth = 0; totals = 11 ∷ replicate 15 0 };
      stores = 2;
      answer = Absent;
    }

-- I, every word
abbrev pub held_i : Bench
held_i =
    record {
      card = (1 ∷ 6 ∷ 8 ∷ 24 ∷ 4 ∷ 0 ∷ 0 ∷ 0 ∷ 1 ∷ 1 ∷ 2 ∷ 3 ∷ 4 ∷ 5 ∷ 6 ∷ 7 ∷ 8 ∷ 9 ∷ 10 ∷ 11 ∷ 10 ∷ 20 ∷ 30 ∷ 40 ∷ 50 ∷ 60 ∷ 70 ∷ 80 ∷ 90
          ∷ 100 ∷ 110 ∷ 0 ∷ 1 ∷ 1 ∷ 2 ∷ 3 ∷ 4 ∷ 5 ∷ 6 ∷ 0 ∷ 0 ∷ 0 ∷ 0 ∷ 0 ∷ 10 ∷ 20 ∷ 30 ∷ 40 ∷ 50 ∷ 60 ∷ 0 ∷ 0 ∷ 0 ∷ 0 ∷ 0 ∷ 0 ∷ 1 ∷ 7 ∷ 8
          ∷ 9 ∷ 10 ∷ 11 ∷ 12 ∷ 0 ∷ 0 ∷ 0 ∷ 0 ∷ 0 ∷ 70 ∷ 80 ∷ 90 ∷ 100 ∷ 110 ∷ 120 ∷ 0 ∷ 0 ∷ 0 ∷ 0 ∷ 0 ∷ 0 ∷ 2 ∷ 7 ∷ 0 ∷ 0 ∷ 0 ∷ 0 ∷ 0 ∷ 0 ∷ 0
          ∷ 0 ∷ 0 ∷ 0 ∷ 2 ∷ 3 ∷ 0 ∷ 0 ∷ 0 ∷ 0 ∷ 0 ∷ 0 ∷ 0 ∷ 0 ∷ 0 ∷ 0 ∷ 0 ∷ 0 ∷ 0 ∷ 0 ∷ 0 ∷ 0 ∷ 0 ∷ 0 ∷ 0 ∷ 0 ∷ 0 ∷ 0 ∷ 0 ∷ 0 ∷ 0 ∷ 0 ∷ 0
          ∷ 0 ∷ 0 ∷ 0 ∷ 0 ∷ 0 ∷ 0 ∷ 0 ∷ 0 ∷ 0 ∷ 0 ∷ 0 ∷ 0 ∷ 0 ∷ 0 ∷ 0 ∷ 0 ∷ 0 ∷ 0 ∷ 0 ∷ 0 ∷ 0 ∷ 0 ∷ 0 ∷ 0 ∷ 0 ∷ 0 ∷ 0 ∷ 0 ∷ 0 ∷ 0 ∷ 0 ∷ []);
      memory = record { nodes = 6; free = without_all (2 ∷ 3 ∷ 4 ∷ []) (all_nodes 6); last = 4; doing = Idle; rest = []; cut = []; depth = 0; totals = 12 ∷ replicate 15 0 };
      stores = 73;
      answer = Absent;
    }

-- K, every word
abbrev pub held_k : Bench
held_k =
    record {
      card = (1 ∷ 6 ∷ 8 ∷ 24 ∷ 1 ∷ 0 ∷ 0 ∷ 0 ∷ 2 ∷ 10 ∷ 0 ∷ 0 ∷ 0 ∷ 0 ∷ 0 ∷ 0 ∷ 0 ∷ 0 ∷ 0 ∷ 0 ∷ 5 ∷ 6 ∷ 0 ∷ 0 ∷ 0 ∷ 0 ∷ 0 ∷ 0 ∷ 0 ∷ 0 ∷ 0 ∷ 0
          ∷ 1 ∷ 0 ∷ 0 ∷ 0 ∷ 0 ∷ 0 ∷ 6 ∷ 0 ∷ 0 ∷ 0 ∷ 0 ∷ 0 ∷ 10 ∷ 20 ∷ 30 ∷ 40 ∷ 50 ∷ 60 ∷ 0 ∷ 0 ∷ 0 ∷ 0 ∷ 0 ∷ 0 ∷ 1 ∷ 7 ∷ 8 ∷ 9 ∷ 10 ∷ 11
          ∷ 12 ∷ 0 ∷ 0 ∷ 0 ∷ 0 ∷ 0 ∷ 70 ∷ 80 ∷ 90 ∷ 100 ∷ 110 ∷ 120 ∷ 0 ∷ 0 ∷ 0 ∷ 0 ∷ 0 ∷ 0 ∷ 2 ∷ 7 ∷ 0 ∷ 0 ∷ 0 ∷ 0 ∷ 0 ∷ 0 ∷ 0 ∷ 0 ∷ 0 ∷ 0
          ∷ 2 ∷ 3 ∷ 0 ∷ 0 ∷ 0 ∷ 0 ∷ 0 ∷ 0 ∷ 0 ∷ 0 ∷ 0 ∷ 0 ∷ 1 ∷ 6 ∷ 7 ∷ 8 ∷ 9 ∷ 0 ∷ 0 ∷ 0 ∷ 0 ∷ 0 ∷ 0 ∷ 0 ∷ 60 ∷ 70 ∷ 80 ∷ 90 ∷ 0 ∷ 0 ∷ 0 ∷ 0
          ∷ 0 ∷ 0 ∷ 0 ∷ 0 ∷ 1 ∷ 10 ∷ 11 ∷ 12 ∷ 0 ∷ 0 ∷ 0 ∷ 0 ∷ 0 ∷ 0 ∷ 0 ∷ 0 ∷ 100 ∷ 110 ∷ 120 ∷ 0 ∷ 0 ∷ 0 ∷ 0 ∷ 0 ∷ 0 ∷ 0 ∷ 0 ∷ 0 ∷ []);
      memory = record { nodes = 6; free = without_all (5 ∷ 6 ∷ 1 ∷ []) (all_nodes 6); last = 1; doing = Idle; rest = []; cut = []; depth = 1; totals = 7 ∷ replicate 15 0 };
      stores = 74;
      answer = (Value 50);
    }

-- L2, every word
abbrev pub held_l2 : Bench
held_l2 =
    record {
      card = (1 ∷ 6 ∷ 8 ∷ 24 ∷ 2 ∷ 0 ∷ 0 ∷ 0 ∷ 2 ∷ 10 ∷ 0 ∷ 0 ∷ 0 ∷ 0 ∷ 0 ∷ 0 ∷ 0 ∷ 0 ∷ 0 ∷ 0 ∷ 5 ∷ 6 ∷ 0 ∷ 0 ∷ 0 ∷ 0 ∷ 0 ∷ 0 ∷ 0 ∷ 0 ∷ 0 ∷ 0
          ∷ 1 ∷ 6 ∷ 11 ∷ 12 ∷ 0 ∷ 0 ∷ 0 ∷ 0 ∷ 0 ∷ 0 ∷ 0 ∷ 0 ∷ 60 ∷ 110 ∷ 120 ∷ 0 ∷ 0 ∷ 0 ∷ 0 ∷ 0 ∷ 0 ∷ 0 ∷ 0 ∷ 0 ∷ 1 ∷ 7 ∷ 8 ∷ 9 ∷ 10 ∷ 11
          ∷ 12 ∷ 0 ∷ 0 ∷ 0 ∷ 0 ∷ 0 ∷ 70 ∷ 80 ∷ 90 ∷ 100 ∷ 110 ∷ 120 ∷ 0 ∷ 0 ∷ 0 ∷ 0 ∷ 0 ∷ 0 ∷ 2 ∷ 7 ∷ 0 ∷ 0 ∷ 0 ∷ 0 ∷ 0 ∷ 0 ∷ 0 ∷ 0 ∷ 0 ∷ 0
          ∷ 2 ∷ 3 ∷ 0 ∷ 0 ∷ 0 ∷ 0 ∷ 0 ∷ 0 ∷ 0 ∷ 0 ∷ 0 ∷ 0 ∷ 1 ∷ 6 ∷ 0 ∷ 0 ∷ 0 ∷ 0 ∷ 0 ∷ 0 ∷ 0 ∷ 0 ∷ 0 ∷ 0 ∷ 60 ∷ 70 ∷ 80 ∷ 90 ∷ 0 ∷ 0 ∷ 0
          ∷ 0 ∷ 0 ∷ 0 ∷ 0 ∷ 0 ∷ 1 ∷ 0 ∷ 11 ∷ 12 ∷ 0 ∷ 0 ∷ 0 ∷ 0 ∷ 0 ∷ 0 ∷ 0 ∷ 0 ∷ 100 ∷ 110 ∷ 120 ∷ 0 ∷ 0 ∷ 0 ∷ 0 ∷ 0 ∷ 0 ∷ 0 ∷ 0 ∷ 0 ∷ []);
      memory = record { nodes = 6; free = without_all (2 ∷ []) (all_nodes 6); last = 2; doing = Idle; rest = []; cut = []; depth = 1; totals = 3 ∷ replicate 15 0 };
      stores = 26;
      answer = (Value 90);
    }

-- all that the cards are worked by: to unfold this is to unfold every definition that it names
computing : Unit {0}
unfolding fresh drive on_answer insert_whole delete_whole upto steps card_l card_b card_s card_i card_k card_l2 found_reply step_reply start_reply
    step_of step_format format_store formatted_word format_of step_final nodes_of_length formatting_from resting idled all_nodes header_refusal
    step_held is_idle step_begin step_prepared landing landing_of landed_at way way_from by_look past outside look_in look_at run_over node_at children value_words
    key_words slot_of first_equal insert_reason reason_in empty_reason insert_change step_store planning advanced settled settled_phase next_change
    settled_totals settled_in settled_out several_in family_of table_counted node_counted children_counted keys_counted
    next_repair on_search seek search_of end_of first_fault ended to_list is_fault count_of root_position leaf_pairs insert_of start_of start_checked
    start_room room_for start_landed start_accepted step_refused start_refused with_all giving over_numbers take_numbers numbers_from next_free
    first_from first_true without_all last_of split_leaf change_stores sort insert_all insert_pair kind_above node_image count_true
    child_position child_for child_index passed routing_keys run_below delete_of delete_change is_node share merge merge_root leaves_together
    inners_together half left_keys key_between absorb split_parent joined_keys joined_children find_of find_in has_line seen card_refusal found_at leaf_of reached_at depth_of
    found_in no_beginning no_memory open_of open_checked open_sound table_check tree_check node_check on_look enter_node enter_kind enter_leaf enter_inner
    inner_sound noted look_of leaf_sound member unused_zero children_check raised halves copied range_end slot_sound held_by step_checked step_task placed_on on_card on_line
    in_leaf no_way lay_out decided_repair decide_at decide_tagged decide_underfull decide_siblings decide_together together_at
computing = tt

pub again_B : again_b ≡ held_b
unfolding computing
again_B = refl

pub worked_S : card_s ≡ held_s
unfolding computing
worked_S = refl

pub from_S : insert_whole 12 120 held_s ≡ held_i
unfolding computing
from_S = refl

pub worked_I : card_i ≡ held_i
unfolding card_i
worked_I = ap (insert_whole 12 120) worked_S ∙ from_S

pub from_I : delete_whole 5 (delete_whole 4 (delete_whole 3 (delete_whole 2 (delete_whole 1 held_i)))) ≡ held_k
unfolding computing
from_I = refl

pub worked_K : card_k ≡ held_k
unfolding card_k
worked_K = ap (λ b. delete_whole 5 (delete_whole 4 (delete_whole 3 (delete_whole 2 (delete_whole 1 b))))) worked_I ∙ from_I

pub from_K : delete_whole 9 (delete_whole 10 (delete_whole 8 (delete_whole 7 held_k))) ≡ held_l2
unfolding computing
from_K = refl

pub worked_L2 : card_l2 ≡ held_l2
unfolding card_l2
worked_L2 = ap (λ b. delete_whole 9 (delete_whole 10 (delete_whole 8 (delete_whole 7 b)))) worked_K ∙ from_K

pub row_a_is : row_a ≡ said absent
unfolding row_a computing
row_a_is = refl

pub row_b_is : row_b ≡ (70 ∷ 0 ∷ 70 ∷ 7 ∷ 2 ∷ said absent)
unfolding row_b computing
row_b_is = refl

cut_b_absent : found_reply (find_of greatest_nodes 1 cut_b 7) ≡ absent
unfolding computing
cut_b_absent = refl

pub row_c_is : row_c ≡ said absent
unfolding row_c
row_c_is = ap said cut_b_absent

pub row_d_held : held_b.stores ∷ (insert_whole 7 71 held_b).stores ∷ said (step_reply (insert_whole 7 71 held_b).answer) ≡ (2 ∷ 0 ∷ said (holds 70))
unfolding computing
row_d_held = refl

pub row_d_is : row_d ≡ (2 ∷ 0 ∷ said (holds 70))
unfolding row_d
row_d_is = ap (λ b. b.stores ∷ (insert_whole 7 71 b).stores ∷ said (step_reply (insert_whole 7 71 b).answer)) again_B ∙ row_d_held

pub row_e_is : row_e ≡ (1 ∷ 0 ∷ said (holds 70))
unfolding row_e computing
row_e_is = refl

pub row_f_is : row_f ≡ (0 ∷ said absent)
unfolding row_f computing
row_f_is = refl

pub row_g104_is : row_g104 ≡ said begun
unfolding row_g104 computing
row_g104_is = refl

pub row_g80_is : row_g80 ≡ said (refusal 1)
unfolding row_g80 computing
row_g80_is = refl

pub row_g103_is : row_g103 ≡ said (refusal 1)
unfolding row_g103 computing
row_g103_is = refl

pub row_g105_is : row_g105 ≡ said (refusal 1)
unfolding row_g105 computing
row_g105_is = refl

pub row_g14432_is : row_g14432 ≡ said begun
unfolding row_g14432 computing
row_g14432_is = refl

pub row_g62432_is : row_g62432 ≡ said (refusal 1)
unfolding row_g62432 computing
row_g62432_is = refl

pub row_hinsert_is : row_hinsert ≡ said (refusal 6)
unfolding row_hinsert computing
row_hinsert_is = refl

pub row_hfind_is : row_hfind ≡ said (refusal 6)
unfolding row_hfind computing
row_hfind_is = refl

pub row_hgreatest_is : row_hgreatest ≡ said begun
unfolding row_hgreatest computing
row_hgreatest_is = refl

pub row_i_held : held_i.stores ∷ get_or held_i.card 4 0 ∷ (children (node_at held_i.card 4) ++ routing_keys (node_at held_i.card 4)) ≡ (73 ∷ 4 ∷ 2 ∷ 3 ∷ 7 ∷ [])
unfolding computing
row_i_held = refl

pub row_i_is : row_i ≡ (73 ∷ 4 ∷ 2 ∷ 3 ∷ 7 ∷ [])
unfolding row_i
row_i_is = ap (λ b. b.stores ∷ get_or b.card 4 0 ∷ (children (node_at b.card 4) ++ routing_keys (node_at b.card 4))) worked_I ∙ row_i_held

pub row_j_is : row_j ≡ said (refusal 8)
unfolding row_j computing
row_j_is = refl

pub row_k_held : held_k.stores ∷ get_or held_k.card 4 0 ∷ (children (node_at held_k.card 1) ++ routing_keys (node_at held_k.card 1)) ≡ (74 ∷ 1 ∷ 5 ∷ 6 ∷ 10 ∷ [])
unfolding computing
row_k_held = refl

pub row_k_is : row_k ≡ (74 ∷ 1 ∷ 5 ∷ 6 ∷ 10 ∷ [])
unfolding row_k
row_k_is = ap (λ b. b.stores ∷ get_or b.card 4 0 ∷ (children (node_at b.card 1) ++ routing_keys (node_at b.card 1))) worked_K ∙ row_k_held

pub row_kleft_held : pair_keys (leaf_pairs (node_at held_k.card 5)) ≡ (6 ∷ 7 ∷ 8 ∷ 9 ∷ [])
unfolding computing
row_kleft_held = refl

pub row_kleft_is : row_kleft ≡ (6 ∷ 7 ∷ 8 ∷ 9 ∷ [])
unfolding row_kleft
row_kleft_is = ap (λ b. pair_keys (leaf_pairs (node_at b.card 5))) worked_K ∙ row_kleft_held

pub row_kright_held : pair_keys (leaf_pairs (node_at held_k.card 6)) ≡ (10 ∷ 11 ∷ 12 ∷ [])
unfolding computing
row_kright_held = refl

pub row_kright_is : row_kright ≡ (10 ∷ 11 ∷ 12 ∷ [])
unfolding row_kright
row_kright_is = ap (λ b. pair_keys (leaf_pairs (node_at b.card 6))) worked_K ∙ row_kright_held

pub row_l2_held : held_l2.stores ∷ get_or held_l2.card 4 0 ∷ count_true held_l2.memory.free ∷ said (step_reply held_l2.answer) ≡ (26 ∷ 2 ∷ 5 ∷ said (holds 90))
unfolding computing
row_l2_held = refl

pub row_l2_is : row_l2 ≡ (26 ∷ 2 ∷ 5 ∷ said (holds 90))
unfolding row_l2
row_l2_is = ap (λ b. b.stores ∷ get_or b.card 4 0 ∷ count_true b.memory.free ∷ said (step_reply b.answer)) worked_L2 ∙ row_l2_held

pub row_l2leaf_held : pair_keys (leaf_pairs (node_at held_l2.card 2)) ≡ (6 ∷ 11 ∷ 12 ∷ [])
unfolding computing
row_l2leaf_held = refl

pub row_l2leaf_is : row_l2leaf ≡ (6 ∷ 11 ∷ 12 ∷ [])
unfolding row_l2leaf
row_l2leaf_is = ap (λ b. pair_keys (leaf_pairs (node_at b.card 2))) worked_L2 ∙ row_l2leaf_held

pub row_cut_opened_held : said (start_reply (open_of greatest_nodes (cut_i held_s)).begun) ≡ said idle
unfolding computing
row_cut_opened_held = refl

pub row_cut_opened_is : row_cut_opened ≡ said idle
unfolding row_cut_opened
row_cut_opened_is = ap (λ b. said (start_reply (open_of greatest_nodes (cut_i b)).begun)) worked_S ∙ row_cut_opened_held

pub row_cut_absent_held : said (found_reply (find_of greatest_nodes 1 (cut_i held_s) 12)) ≡ said absent
unfolding computing
row_cut_absent_held = refl

pub row_cut_absent_is : row_cut_absent ≡ said absent
unfolding row_cut_absent
row_cut_absent_is = ap (λ b. said (found_reply (find_of greatest_nodes 1 (cut_i b) 12))) worked_S ∙ row_cut_absent_held

pub row_cut_held_held : said (found_reply (find_of greatest_nodes 1 (split_i held_s) 12)) ≡ said (holds 120)
unfolding computing
row_cut_held_held = refl

pub row_cut_held_is : row_cut_held ≡ said (holds 120)
unfolding row_cut_held
row_cut_held_is = ap (λ b. said (found_reply (find_of greatest_nodes 1 (split_i b) 12))) worked_S ∙ row_cut_held_held

-- two rows that are right, one under the other
beside : {x y : List ℕ} → {xs ys : List (List ℕ)} → x ≡ y → xs ≡ ys → x ∷ xs ≡ y ∷ ys
beside {y = y} {xs} e es = ap (◌∷ xs) e ∙ ap (y ∷◌) es

-- the starred cards, as one table
pub starred_cards : StarredCards
starred_cards =
    beside row_a_is (beside row_b_is (beside row_c_is (beside row_d_is (beside row_e_is (beside row_f_is
    (beside row_g104_is (beside row_g80_is (beside row_g103_is (beside row_g105_is (beside row_g14432_is (beside row_g62432_is (beside row_hinsert_is
    (beside row_hfind_is (beside row_hgreatest_is (beside row_i_is (beside row_j_is (beside row_k_is (beside row_kleft_is (beside row_kright_is
    (beside row_l2_is (beside row_l2leaf_is (beside row_cut_opened_is (beside row_cut_absent_is (beside row_cut_held_is refl))))))))))))))))))))))))
