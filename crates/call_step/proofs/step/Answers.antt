-- `call_step::step` meets its contract.
use Rattle.std.proofs.Common.{refl, sym, ap, subst, ◌∙◌, arith, length}
use Rattle.std.proofs.lemmas.Result.{err_from_is_err_and}
use Rattle.card.specs.Header.{header_refusal, Sized}
use Rattle.card.specs.Lines.{seen}
use Rattle.card.specs.Refusals.{number}
use Rattle.card.proofs.HeaderLaws.{sized_any}
use Rattle.card.proofs.RefusalLaws.{number_some}
use Rattle.state.specs.Steps.{held_by}
use Rattle.state.specs.Block.{block_word, memory_in}
use Rattle.call_step.proofs.ContractLaws.{refused_on_lem, format_any}
use Rattle.call_step.proofs.LineSteps.{as_made}
use Rattle.call_step.proofs.StepLaws.{call_no_state, call_made, step_sized, step_unsized, task_stores, held_unchecked, not_formatting, doing_format, stores_held}
use Rattle.call_step.proofs.step.Goals as goal

pub returns-then-state-ne-STATE_WORDS : goal.returns-then-state-ne-STATE_WORDS
returns-then-state-ne-STATE_WORDS c = call_no_state _ _ c.args.card.now c.args.state.now c.if-state-ne-STATE_WORDS.true

pub returns-then-not-is_sized : goal.returns-then-not-is_sized
unfolding memory_in
returns-then-not-is_sized c =
    let card = c.args.card.now in
    let b = c.args.state.now in
    call_made _ _ card b _ c.if-state-ne-STATE_WORDS.false
    (step_unsized _ _ card (memory_in b)
    (λ z. c.is_sized.ensures.1 c.if-not-is_sized.true (subst (Sized c.args.greatest (length card)) (sym c.wide-n.ensures) z)))
    (refused_on_lem (seen c.args.line card) b card 1 refl)

pub step_format-requires : goal.step_format-requires
step_format-requires c =
    (c.if-state-ne-STATE_WORDS.false, c.if-state-eq-FORMATTING.true, sized_any (subst (Sized c.args.greatest (length c.args.card.now)) c.wide-n.ensures (c.is_sized.ensures.0 c.if-not-is_sized.false)))

pub returns-then-state-eq-FORMATTING : goal.returns-then-state-eq-FORMATTING
unfolding memory_in
returns-then-state-eq-FORMATTING c =
    let card = c.args.card.now in
    let b = c.args.state.now in
    let size : Sized c.args.greatest (length c.args.card.now) (block_word c.args.state.now 0) =
    subst (Sized c.args.greatest (length c.args.card.now)) c.wide-n.ensures (c.is_sized.ensures.0 c.if-not-is_sized.false) in
    call_made _ _ card b _ c.if-state-ne-STATE_WORDS.false
    (step_sized _ _ card (memory_in b) size ∙ doing_format b _ card c.if-state-eq-FORMATTING.true)
    (format_any card (seen c.args.line card) b c.if-state-eq-FORMATTING.true c.step_format.ensures)

pub check_header-requires : goal.check_header-requires
check_header-requires c =
    let size : Sized c.args.greatest (length c.args.card.now) (block_word c.args.state.now 0) =
    subst (Sized c.args.greatest (length c.args.card.now)) c.wide-n.ensures (c.is_sized.ensures.0 c.if-not-is_sized.false) in
    omega (arith, size.words)

pub returns-in_err-check_header : goal.returns-in_err-check_header
unfolding memory_in
returns-in_err-check_header c =
    let p = err_from_is_err_and c.from_residual.result c.from_residual.ensures.1 in
    let card = c.args.card.now in
    let b = c.args.state.now in
    let m = memory_in b in
    let r = c.in_err-check_header.field-0.0 in
    rw (p.1, p.2)
    (call_made _ _ card b _ c.if-state-ne-STATE_WORDS.false
    (step_sized _ _ card m (subst (Sized c.args.greatest (length c.args.card.now)) c.wide-n.ensures (c.is_sized.ensures.0 c.if-not-is_sized.false))
    ∙ held_unchecked _ card m (number r) (c.in_err-check_header.ensures ∙ ap (header_refusal card) c.wide-n.ensures) (number_some r)
    (held_by m.doing) (not_formatting b c.if-state-eq-FORMATTING.false))
    (refused_on_lem (seen c.args.line card) b card (number r) refl))

pub store_next-requires : goal.store_next-requires
store_next-requires c =
    let size : Sized c.args.greatest (length c.args.card.now) (block_word c.args.state.now 0) =
    subst (Sized c.args.greatest (length c.args.card.now)) c.wide-n.ensures (c.is_sized.ensures.0 c.if-not-is_sized.false) in
    let h = stores_held (memory_in c.args.state.now).doing (memory_in c.args.state.now).rest (sym c.has_store.ensures ∙ c.if-has_store.true)
    (not_formatting c.args.state.now c.if-state-eq-FORMATTING.false) in
    (c.if-state-ne-STATE_WORDS.false, h.0, h.1, omega (arith, size.words), c.requires)

pub returns-then-has_store : goal.returns-then-has_store
unfolding memory_in
returns-then-has_store c =
    let card = c.args.card.now in
    let b = c.args.state.now in
    let m = memory_in b in
    let h = stores_held (memory_in c.args.state.now).doing (memory_in c.args.state.now).rest (sym c.has_store.ensures ∙ c.if-has_store.true)
    (not_formatting c.args.state.now c.if-state-eq-FORMATTING.false) in
    call_made _ _ card b _ c.if-state-ne-STATE_WORDS.false
    (step_sized _ _ card m (subst (Sized c.args.greatest (length c.args.card.now)) c.wide-n.ensures (c.is_sized.ensures.0 c.if-not-is_sized.false))
    ∙ task_stores _ card m (ap (header_refusal c.args.card.now) (sym c.wide-n.ensures) ∙ sym c.in_ok-check_header.ensures) h.1 h.0)
    (as_made c.args.line card b refl c.store_next.ensures)

pub step_plan-requires : goal.step_plan-requires
step_plan-requires c = (
  c.if-state-ne-STATE_WORDS.false,
  sized_any (subst (Sized c.args.greatest (length c.args.card.now)) c.wide-n.ensures (c.is_sized.ensures.0 c.if-not-is_sized.false)),
  ap (header_refusal c.args.card.now) (sym c.wide-n.ensures) ∙ sym c.in_ok-check_header.ensures,
  c.if-state-eq-FORMATTING.false,
  sym c.has_store.ensures ∙ c.if-has_store.false,
  c.requires,
)

pub returns : goal.returns
unfolding memory_in
returns c =
    let card = c.args.card.now in
    let b = c.args.state.now in
    call_made _ _ card b _ c.if-state-ne-STATE_WORDS.false
    (step_sized _ _ card (memory_in b) (subst (Sized c.args.greatest (length c.args.card.now)) c.wide-n.ensures (c.is_sized.ensures.0 c.if-not-is_sized.false))) c.step_plan.ensures
