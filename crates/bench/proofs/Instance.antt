-- The power-cut promise speaks of something: S is made by these calls from a card of any words, an insert of key 12 begins, and power
-- goes in the middle of its split. "an insert's 73rd where its leaf was full at the start": with 40 of its 73 stores made the pair
-- is out, with all 73 it is in.
use mathlib.Core.Path.{◌≡◌, refl, ap, subst, ◌∙◌}
use Rattle.card.specs.Layout.{greatest_nodes}
use mathlib.Core.Bool.{Bool, true, false}
use mathlib.Core.List.{List, [], ◌∷◌, ◌++◌}
use Prim.Native.Nat.{ℕ, zero, suc, ◌*◌}
use native.Mathlib.Omega.{arith}
use mathlib.Core.Option.{Option-elim}
use lib.ListN.{replicate}
use Rattle.laws.specs.Cases.{pick}
use Rattle.laws.proofs.Cases.{bool_cases}
use Rattle.card.specs.Lines.{has_line, seen, on_line}
use Rattle.card.specs.Header.{nodes_of_length, header_refusal, card_refusal}
use Rattle.card.specs.Layout.{formatted_root, run_below, node_at, key_words, value_words, children, routing_keys, leaf_pairs, node_image}
use Rattle.change_plan.specs.Change.{change_stores, kind_above, split_leaf, joined_keys, joined_children, absorb, split_parent, leaves_together}
use Rattle.change_plan.specs.Change.{inners_together, half, left_keys, key_between, share, merge, merge_root, halves, copied}
use Rattle.change_plan.specs.Planning.{numbers_from, take_numbers, without_all, last_of, over_numbers, giving, with_all}
use Rattle.change_decide.specs.Decide.{decide_tagged, decide_together, decide_siblings, is_node, decide_underfull, decide_at, on_search}
use Rattle.change_decide.specs.Decide.{decided_repair}
use Rattle.change_layout.specs.LayOut.{lay_out}
use Rattle.change_layout.specs.Mending.{next_repair}
use Rattle.change_siblings.specs.Siblings.{together_at}
use Rattle.walk.specs.Descent.{passed, child_index, child_for, first_equal, slot_of, outside, look_in, look_at, root_position, child_position, past, by_look, way_from, leaf_of, reached_at, depth_of}
use Rattle.walk.specs.Descent.{way, run_over, landed_at, landing_of, count_of, is_fault, first_fault, ended, to_list, end_of}
use Rattle.walk.specs.Descent.{search_of, seek}
use Rattle.card_family.specs.Families.{no_totals}
use Rattle.card_free.specs.NodeSet.{all_nodes, count_true, first_true, first_from, next_free}
use Rattle.laws.specs.Sorting.{insert_pair, insert_all, sort}
use Rattle.card_check.specs.Check.{member, leaf_sound, unused_zero, look_of, noted, enter_leaf, inner_sound, enter_inner, enter_kind, enter_node}
use Rattle.card_check.specs.Check.{children_check, raised, on_look, node_check, table_check, range_end, slot_sound, tree_check}
use Rattle.state.specs.Memory.{no_memory, resting, idled, settled_phase, settled, advanced}
use Rattle.call_change.specs.Updates.{landing, empty_reason, reason_in, insert_reason, insert_change, delete_change, room_for, start_room, next_change, in_leaf, no_way}
use Rattle.state.specs.Answers.{step_reply, start_reply}
use Rattle.call_find.specs.Find.{found_in, found_at, find_of, find_in}
use Rattle.call_open.specs.Opening.{open_sound, open_checked, open_of}
use Rattle.call_start.specs.Starts.{format_of, start_refused, start_accepted, start_landed, start_checked, start_of, insert_of, delete_of}
use Rattle.call_step.specs.Calls.{step_of, planning, step_prepared, step_begin, step_held, step_task, placed_on, on_card, step_checked}
use Rattle.state.specs.Steps.{no_beginning, step_refused, step_final, formatted_word, format_store, formatting_from, step_format, step_store, is_idle, held_by}
use Rattle.state.specs.declared.Doing.TheVariants.{Idle}
use Rattle.state.specs.Answer.{Answer}
use Rattle.state.specs.Answer.{Stored, Ready, Absent, Value, Refused}
use Rattle.card.specs.Replies.{holds, absent, ready}
use Rattle.demands.specs.Book.{book, empty, added, entered, fed_start, fed_step, feed, outcome, told, kept}
use Rattle.demands.specs.Demand3.{Survives}
use Rattle.demands.specs.Events.{Event, World, reply_to, happens, run, LeftUncut, Begins, from_format, insert, step, cut}
use Rattle.demands.specs.RationTable.{ration_table}
use Rattle.demands.specs.Way.{among}
use Rattle.demands.specs.Worked.{dictionary}
use Rattle.demands.proofs.Demands.{promises}
use Rattle.theory_tree.specs.Pairs.{lookup}

unfoldable pub is_stored : Answer → Bool
is_stored (Stored place) = true
is_stored Ready = false
is_stored Absent = false
is_stored (Value v) = false
is_stored (Refused r) = false

unfoldable pub is_ready : Answer → Bool
is_ready (Stored place) = false
is_ready Ready = true
is_ready Absent = false
is_ready (Value v) = false
is_ready (Refused r) = false

-- so many steps store a word each, and the next one answers "ready"
unfoldable pub ready_in : ℕ → World (ration_table greatest_nodes) → Bool
ready_in zero w = is_ready (step_of greatest_nodes 1 w.card w.state).answer
ready_in (suc k) w = pick (is_stored (step_of greatest_nodes 1 w.card w.state).answer) (ready_in k (happens (ration_table greatest_nodes) step w)) false

unfoldable pub after : ℕ → World (ration_table greatest_nodes) → World (ration_table greatest_nodes)
after zero w = happens (ration_table greatest_nodes) step w
after (suc k) w = after k (happens (ration_table greatest_nodes) step w)

not_true : ◌≡◌ {A = Bool} false true → ⊥
not_true z = let k : ◌≡◌ {A = ℕ} 0 1 = cc in omega arith

ready_is : (a : Answer) → is_ready a ≡ true → a ≡ Ready
unfolding is_ready
ready_is (Stored place) e = absurd (not_true e)
ready_is Ready e = refl
ready_is Absent e = absurd (not_true e)
ready_is (Value v) e = absurd (not_true e)
ready_is (Refused r) e = absurd (not_true e)

-- as the demands have it: steps left uncut, and the one that replies "ready"
pub to_ready : (k : ℕ) (w : World (ration_table greatest_nodes)) → ready_in k w ≡ true
    → LeftUncut (ration_table greatest_nodes) (replicate k step) w × (reply_to (ration_table greatest_nodes) step (run (ration_table greatest_nodes) (replicate k step) w) ≡ ready)
    × (happens (ration_table greatest_nodes) step (run (ration_table greatest_nodes) (replicate k step) w) ≡ after k w)
unfolding ready_in after reply_to step_reply LeftUncut run
to_ready zero w e = (tt, ap step_reply (ready_is _ e), refl)
to_ready (suc k) w e =
    bool_cases (is_stored (step_of greatest_nodes 1 w.card w.state).answer)
    (λ q. let r = to_ready k (happens (ration_table greatest_nodes) step w) (rw q at e) in ((tt, r.0), r.1, r.2))
    (λ q. absurd (not_true (rw q at e)))

-- 152 words of anything, being formatted, and the card 153 steps on
abbrev pub any_words : List ℕ
any_words = replicate 152 9

abbrev pub being_formatted : World (ration_table greatest_nodes)
being_formatted = record { card = any_words; state = (format_of greatest_nodes any_words).memory }

-- an insert that finds an empty slot: its start, its two stores and its final answer
abbrev pub put_now : ℕ → List Event
put_now k = insert k (10 * k) ∷ step ∷ step ∷ step ∷ []

-- S, and so many steps of the insert of key 12; then power goes
abbrev pub cut_after : ℕ → List Event
cut_after k =
    put_now 1 ++ put_now 2 ++ put_now 3 ++ put_now 4 ++ put_now 5 ++ put_now 6 ++ put_now 7 ++ put_now 8 ++ put_now 9 ++ put_now 10
    ++ put_now 11 ++ insert 12 120 ∷ (replicate k step ++ cut ∷ [])

-- formatted: "root node 1, an empty leaf, all else 0"
abbrev pub formatted : World (ration_table greatest_nodes)
formatted = record { card = 1 ∷ 6 ∷ 8 ∷ 24 ∷ 1 ∷ 0 ∷ 0 ∷ 0 ∷ 1 ∷ replicate 143 0; state = resting 6 (without_all (1 ∷ []) (all_nodes 6)) formatted_root no_totals Idle }

-- the pairs of S, the last put in first
abbrev pub pairs_to11 : List (ℕ × ℕ)
pairs_to11 = (11, 110) ∷ (10, 100) ∷ (9, 90) ∷ (8, 80) ∷ (7, 70) ∷ (6, 60) ∷ (5, 50) ∷ (4, 40) ∷ (3, 30) ∷ (2, 20) ∷ (1, 10) ∷ []

-- computed: 153 stores and "ready"; what formatting leaves; the book with the cut after 40 and after 73 of the stores
pub computed : (ready_in 153 being_formatted ≡ true) × (after 153 being_formatted ≡ formatted)
    × (kept (ration_table greatest_nodes) (cut_after 40) formatted (book [] empty) ≡ book pairs_to11 empty)
    × (kept (ration_table greatest_nodes) (cut_after 73) formatted (book [] empty) ≡ book ((12, 120) ∷ pairs_to11) empty)
unfolding ready_in is_stored is_ready after kept feed told outcome reply_to fed_start fed_step entered added Option-elim among step_reply
    start_reply happens step_of step_format format_store formatted_word format_of step_final nodes_of_length formatting_from resting idled all_nodes
    header_refusal step_held is_idle step_begin step_prepared landing landing_of landed_at way way_from by_look past outside look_in look_at run_over node_at children
    value_words key_words slot_of first_equal insert_reason reason_in empty_reason insert_change step_store planning advanced settled settled_phase
    next_change next_repair on_search seek search_of end_of first_fault ended to_list is_fault count_of root_position leaf_pairs insert_of start_of
    start_checked start_room room_for start_landed start_accepted step_refused start_refused with_all giving over_numbers take_numbers numbers_from
    next_free first_from first_true without_all last_of split_leaf change_stores sort insert_all insert_pair kind_above node_image count_true
    child_position child_for child_index passed routing_keys run_below delete_of delete_change is_node share merge merge_root leaves_together
    inners_together half left_keys key_between absorb split_parent joined_keys joined_children find_of find_in has_line seen card_refusal found_at leaf_of reached_at depth_of found_in
    no_beginning no_memory open_of open_checked open_sound table_check tree_check node_check on_look enter_node enter_kind enter_leaf enter_inner inner_sound noted
    look_of leaf_sound member unused_zero children_check raised halves copied range_end slot_sound held_by step_checked step_task placed_on on_card on_line in_leaf no_way lay_out
    decided_repair decide_at decide_tagged decide_underfull decide_siblings decide_together together_at
computed = (refl, refl, refl, refl)

begins : Begins (ration_table greatest_nodes) formatted []
unfolding format_of nodes_of_length start_reply
begins =
    let r = to_ready 153 being_formatted computed.0 in
    subst (λ w. Begins (ration_table greatest_nodes) w []) (r.2 ∙ computed.1) (from_format any_words (replicate 153 step) refl r.0 r.1)

-- the demand at these two lists
abbrev pub Survived : ℕ → Type 0
Survived k = Survives (ration_table greatest_nodes) (run (ration_table greatest_nodes) (cut_after k) formatted).card (kept (ration_table greatest_nodes) (cut_after k) formatted (book [] empty)).held

pub survives_at_40 : Survived 40
survives_at_40 =
    (promises greatest_nodes).demand_3 formatted [] begins (cut_after 40) (
      omega arith,
      (
        omega arith,
        (
          omega arith,
          (omega arith, (omega arith, (omega arith, (omega arith, (omega arith, (omega arith, (omega arith, (omega arith, (omega arith, tt))))))))),
        ),
      ),
    )

pub survives_at_73 : Survived 73
survives_at_73 =
    (promises greatest_nodes).demand_3 formatted [] begins (cut_after 73) (
      omega arith,
      (
        omega arith,
        (
          omega arith,
          (omega arith, (omega arith, (omega arith, (omega arith, (omega arith, (omega arith, (omega arith, (omega arith, (omega arith, tt))))))))),
        ),
      ),
    )

-- what it says of key 12 then: with no step of the repair made, out or in
pub out_at_40 : (ration_table greatest_nodes).find (run (ration_table greatest_nodes) (cut_after 40) formatted).card 12 ≡ absent
unfolding dictionary LeftUncut run
out_at_40 = survives_at_40.finds [] tt 12 (omega arith) (omega arith) ∙ ap (λ b. dictionary (lookup 12 b.held)) computed.2

pub in_at_73 : (ration_table greatest_nodes).find (run (ration_table greatest_nodes) (cut_after 73) formatted).card 12 ≡ holds 120
unfolding dictionary LeftUncut run
in_at_73 = survives_at_73.finds [] tt 12 (omega arith) (omega arith) ∙ ap (λ b. dictionary (lookup 12 b.held)) computed.3
