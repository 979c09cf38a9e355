-- `call_start::start_format` meets its contract.
use mathlib.Core.Path.{◌≡◌, refl, ap₂, sym, subst, ◌∙◌}
use Prim.Native.Nat.{ℕ, ◌≤◌}
use mathlib.Core.List.{List}
use mathlib.Core.Bool.{Bool}
use native.Mathlib.Omega.{arith}
use Rattle.card.specs.Layout.{formatted_root, least_nodes}
use Rattle.card.proofs.HeaderLaws.{sized_nodes}
use Rattle.state.specs.Memory.{resting}
use Rattle.state.specs.Steps.{Handed}
use Rattle.state.specs.declared.Doing.TheVariants.{Formatting}
use Rattle.state.specs.Begun.{Started, told}
use Rattle.state.specs.Clauses.{Opened}
use Rattle.state.proofs.ContractLaws.{open_no_state, opened_call, opened_from}
use Rattle.call_start.specs.Starts.{format_of}
use Rattle.call_start.proofs.StartLaws.{format_no_length, format_length}
use Rattle.call_start.proofs.start_format.Goals as goal

pub returns-then-state-ne-STATE_WORDS : goal.returns-then-state-ne-STATE_WORDS
returns-then-state-ne-STATE_WORDS c = open_no_state c.args.state.now c.if-state-ne-STATE_WORDS.true (format_of c.args.greatest c.args.card.now)

pub returns-in_default : goal.returns-in_default
returns-in_default c =
    opened_call c.args.state.now c.refuse_beginning.new.block _ _ c.if-state-ne-STATE_WORDS.false
    (subst (λ (due : Handed). Opened c.args.state.now c.refuse_beginning.new.block (told c.refuse_beginning.result) due)
    (sym (format_no_length _ _ 0 c.in_default.ensures.value refl))
    c.refuse_beginning.ensures)

pub hold_empty-requires : goal.hold_empty-requires
hold_empty-requires c =
    let k = c.nodes_of.ensures.sized c.in-Some.n c.in-Some.is in
    (c.if-state-ne-STATE_WORDS.false, omega (arith, k.most))

pub store_resting-requires : goal.store_resting-requires
store_resting-requires c =
    let k = c.nodes_of.ensures.sized c.in-Some.n c.in-Some.is in
    (c.hold_empty.auto.state ∙ c.if-state-ne-STATE_WORDS.false, k.most)

pub returns : goal.returns
returns c =
    let n = c.in-Some.n in
    let held = c.hold_empty.ensures in
    let size = c.nodes_of.ensures.sized n c.in-Some.is in
    let some : n ≡ 0 → ⊥ = λ z. let k : least_nodes ≤ n = size.least in omega arith in
    opened_call c.args.state.now c.store_resting.new.block _ _ c.if-state-ne-STATE_WORDS.false
    (opened_from c.hold_empty.new.state c.args.state.now _ _ _ held.state_unchanged
    (subst (λ (due : Handed). Opened c.hold_empty.new.state c.store_resting.new.block Started due)
    (ap₂ (λ (x : List Bool) (t : List ℕ). record { begun = Started; memory = resting n x formatted_root t (Formatting 0) }) held.word_count_after held.family_count_after
    ∙ sym (format_length _ _ _ (sym (sized_nodes _ _ _ size)) some))
    (record { answered = refl; handed = c.store_resting.ensures.memory_after; words = c.store_resting.ensures.words_after })))
