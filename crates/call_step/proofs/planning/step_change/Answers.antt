-- `call_step::planning::step_change` meets its contract.
use Rattle.std.proofs.Common.{◌≡◌, ◌<◌, ℕ, List, [], ◌∷◌, rules, Option, Some, None, sym, ap, ap₂, subst, ◌∙◌, arith, length, take, drop, get_or}
use mathlib.Core.Option.{none, some}
use Rattle.card.specs.Layout.{greatest_nodes}
use Rattle.card_free.specs.NodeSet.{word_count, nodes_of}
use Rattle.change_decide.specs.declared.Decision.{Decision}
use Rattle.change_plan.specs.Plan.{given_by, left_given}
use Rattle.change_plan.specs.Planning.{take_numbers}
use Rattle.change_layout.specs.LayOut.{needed, size_of, store_count, words_by}
use Rattle.change_plan.proofs.NumberLaws.{three_numbers}
use Rattle.state.specs.declared.Doing.{Doing}
use Rattle.call_step.specs.StepBlocks.{planned_over}
use Rattle.change_layout.specs.declared.Size.{Size}
use Rattle.change_layout.proofs.LayOutLaws.{needed_few}
use Rattle.state.specs.Block.{free_at, block_word, part}
use Rattle.state.proofs.Blocks.{free_span}
use Rattle.call_step.proofs.ChangeLaws.{change_none, change_outside, change_length_lem, change_on_card, change_made}
use Rattle.call_step.proofs.PlayLaws.{planned, played_on, ended}
use Rattle.call_step.proofs.planning.step_change.Goals as goal

-- how many nodes the decision needs
nodes_are : (d : Decision) (size : Size) → size ≡ size_of d → size.nodes ≡ needed d
unfolding size_of
nodes_are d size e = ap (λ (z : Size). z.nodes) e

-- the numbers that it needs, as the search gave them
module _ (b : List ℕ) (d : Decision) (count last : ℕ) (given : Option (List ℕ)) (few : count ≡ needed d) (from : last ≡ block_word b 1)
    (found : take_numbers count (nodes_of (part b free_at word_count)) last ≡ given_by given count) where
  abbrev numbers : mathlib.Core.Option.Option (List ℕ)
  numbers = take_numbers (needed d) (nodes_of (part b free_at word_count)) (block_word b 1)

  sought : numbers ≡ given_by given count
  sought = ap₂ (λ (k w : ℕ). take_numbers k (nodes_of (part b free_at word_count)) w) (sym few) (sym from) ∙ found

  none_given : given ≡ None → numbers ≡ none
  unfolding given_by
  none_given e = sought ∙ ap (λ (g : Option (List ℕ)). given_by g count) e

  some_given : (nodes : List ℕ) → given ≡ Some nodes → numbers ≡ some (take (needed d) nodes)
  unfolding given_by
  some_given nodes e = sought ∙ ap (λ (g : Option (List ℕ)). given_by g count) e ∙ ap (λ (k : ℕ). some (take k nodes)) few

pub give-requires : goal.give-requires
give-requires c = (free_span c.args.state.now [] c.requires.0, omega (arith, nodes_are _ _ c.requires.4, needed_few c.args.decision))

pub returns-in_default : goal.returns-in_default
returns-in_default c =
    let few = none_given c.args.state.now c.args.decision _ _ _ (nodes_are _ _ c.requires.4) c.wide.ensures c.give.ensures.0 c.in_default.is in
    λ line changes. change_none greatest_nodes c.args.card.now c.args.state.now c.requires.0 c.args.doing c.args.decision c.requires.2 c.requires.3 line changes few

-- three of them, which the laws name one by one
module _ (card b : List ℕ) (doing : Doing) (d : Decision) (nodes p : List ℕ) (three : length nodes ≡ 3) where
  abbrev left : ℕ
  left = get_or nodes 0 0

  abbrev right : ℕ
  right = get_or nodes 1 0

  abbrev above : ℕ
  above = get_or nodes 2 0

  each_given : {o : mathlib.Core.Option.Option (List ℕ)} → o ≡ some (take (needed d) nodes) → o ≡ some (take (needed d) (left ∷ right ∷ above ∷ []))
  each_given e = e ∙ ap (λ (l : List ℕ). some (take (needed d) l)) (three_numbers nodes three)

  each_planned : p ≡ planned_over card b doing d nodes → p ≡ planned_over card b doing d (left ∷ right ∷ above ∷ [])
  each_planned e = e ∙ ap (planned_over card b doing d) (three_numbers nodes three)

  each_counted : length (words_by card d nodes) ≡ store_count d → length (words_by card d (left ∷ right ∷ above ∷ [])) ≡ store_count d
  each_counted e = sym (ap (λ (l : List ℕ). length (words_by card d l)) (three_numbers nodes three)) ∙ e

pub returns-then-state-nodes : goal.returns-then-state-nodes
unfolding left_given
returns-then-state-nodes c =
    let long : length c.in-Some.nodes ≡ 3 = search rules in
    let given = some_given c.args.state.now c.args.decision _ _ _ (nodes_are _ _ c.requires.4) c.wide.ensures c.give.ensures.0 _ c.in-Some.is in
    change_outside greatest_nodes c.args.card.now c.args.state.now c.requires.0 c.args.doing c.args.decision c.requires.2 c.requires.3 _ c.requires.1
    _ _ _ (each_given c.args.card.now c.args.state.now c.args.doing c.args.decision c.in-Some.nodes [] long given)
    (λ z. sym (ap left_given c.in-Some.is) ∙ c.give.ensures.1 (nodes_are _ _ c.requires.4 ∙ z)) c.if-state-nodes.true

pub plan-requires : goal.plan-requires
plan-requires c = (
  c.requires.0,
  c.requires.2,
  c.requires.4,
  some_given c.args.state.now c.args.decision _ _ _ (nodes_are _ _ c.requires.4) c.wide.ensures c.give.ensures.0 _ c.in-Some.is,
)

pub store_word-requires : goal.store_word-requires
store_word-requires c =
    let b = c.args.state.now in
    let card = c.args.card.now in
    let d = c.args.decision in
    let nodes = c.in-Some.nodes in
    let p = c.plan.new.state in
    let long : length c.in-Some.nodes ≡ 3 = search rules in
    let given = each_given card b c.args.doing d nodes p long (some_given b d _ _ _ (nodes_are _ _ c.requires.4) c.wide.ensures c.give.ensures.0 _ c.in-Some.is) in
    let counted = each_counted card b c.args.doing d nodes p long c.plan.ensures.1 in
    let planned = each_planned card b c.args.doing d nodes p long c.plan.ensures.0 in
    let n = block_word b 0 in (
      change_length_lem greatest_nodes card b c.requires.0 c.args.doing d c.requires.2 c.requires.3 n c.requires.1 _ _ _ given counted _ planned,
      omega arith,
      subst (λ (k : ℕ). k < length card) (sym c.wide-2.ensures)
          (change_on_card greatest_nodes card b c.requires.0 c.args.doing d c.requires.2 c.requires.3 n c.requires.1 _ _ _ given counted _ planned c.if-state-nodes.false),
    )

pub returns-then-store_word : goal.returns-then-store_word
returns-then-store_word c =
    let b = c.args.state.now in
    let card = c.args.card.now in
    let d = c.args.decision in
    let nodes = c.in-Some.nodes in
    let p = c.plan.new.state in
    let three : length c.in-Some.nodes ≡ 3 = search rules in
    let given = each_given card b c.args.doing d nodes p three (some_given b d _ _ _ (nodes_are _ _ c.requires.4) c.wide.ensures c.give.ensures.0 _ c.in-Some.is) in
    let counted = each_counted card b c.args.doing d nodes p three c.plan.ensures.1 in
    let planned_is = each_planned card b c.args.doing d nodes p three c.plan.ensures.0 in
    let n = block_word b 0 in
    let store = c.store_word.ensures in
    let long = change_length_lem greatest_nodes card b c.requires.0 c.args.doing d c.requires.2 c.requires.3 n c.requires.1 _ _ _ given counted _ planned_is in
    let inside = subst (λ (k : ℕ). k < length card) (sym c.wide-2.ensures)
    (change_on_card greatest_nodes card b c.requires.0 c.args.doing d c.requires.2 c.requires.3 n c.requires.1 _ _ _ given counted _ planned_is c.if-state-nodes.false) in
    λ line changes.
    change_made greatest_nodes card b c.requires.0 c.args.doing d c.requires.2 c.requires.3 n c.requires.1 _ _ _ given
    counted _ planned_is line changes c.wide-2.result c.wide-2.ensures inside store.card_after
    (store.state_after ∙ played_on p long 1 (drop 1 (planned p)) (sym store.value ∙ c.if-store_word.true))

pub returns : goal.returns
returns c =
    let b = c.args.state.now in
    let card = c.args.card.now in
    let d = c.args.decision in
    let nodes = c.in-Some.nodes in
    let p = c.plan.new.state in
    let three : length c.in-Some.nodes ≡ 3 = search rules in
    let given = each_given card b c.args.doing d nodes p three (some_given b d _ _ _ (nodes_are _ _ c.requires.4) c.wide.ensures c.give.ensures.0 _ c.in-Some.is) in
    let counted = each_counted card b c.args.doing d nodes p three c.plan.ensures.1 in
    let planned_is = each_planned card b c.args.doing d nodes p three c.plan.ensures.0 in
    let n = block_word b 0 in
    let store = c.store_word.ensures in
    let long = change_length_lem greatest_nodes card b c.requires.0 c.args.doing d c.requires.2 c.requires.3 n c.requires.1 _ _ _ given counted _ planned_is in
    let inside = subst (λ (k : ℕ). k < length card) (sym c.wide-2.ensures)
    (change_on_card greatest_nodes card b c.requires.0 c.args.doing d c.requires.2 c.requires.3 n c.requires.1 _ _ _ given counted _ planned_is c.if-state-nodes.false) in
    λ line changes.
    change_made greatest_nodes card b c.requires.0 c.args.doing d c.requires.2 c.requires.3 n c.requires.1 _ _ _ given
    counted _ planned_is line changes c.wide-2.result c.wide-2.ensures inside store.card_after
    (ended p long 1 (drop 1 (planned p)) (sym store.value ∙ c.if-store_word.false) store.state_after c.end_change.ensures)
