-- `call_record::record_at` meets its contract.
use Rattle.std.proofs.Common.{sym, ◌∙◌, refl, arith}
use borrow.Author.Tests.{ne_eqb, eq-eqb}
use Rattle.card.proofs.RefusalLaws.{number_err, number_ok}
use Rattle.call_record.specs.Records.{record_refusal}
use Rattle.call_record.proofs.RecordLaws.{record_inside, record_part}
use Rattle.call_record.proofs.record_at.Goals as goal

pub returns-then-is_err : goal.returns-then-is_err
returns-then-is_err c =
    rw (ne_eqb (record_refusal c.args.block.now c.args.at) 0 (λ z. number_err c.check_record.result (sym c.is_err.ensures.value ∙ c.if-is_err.true) (c.check_record.ensures ∙ z))) refl

pub overflow_add-from : goal.overflow_add-from
overflow_add-from c =
    let k = record_inside c.args.block.now c.args.at (sym c.check_record.ensures ∙ number_ok _ (sym c.is_err.ensures.value ∙ c.if-is_err.false)) in omega (arith, k.inside)

pub bounds-block-at : goal.bounds-block-at
bounds-block-at c =
    let k = record_inside c.args.block.now c.args.at (sym c.check_record.ensures ∙ number_ok _ (sym c.is_err.ensures.value ∙ c.if-is_err.false)) in k.inside

pub overflow_add-end : goal.overflow_add-end
overflow_add-end c =
    let k = record_inside c.args.block.now c.args.at (sym c.check_record.ensures ∙ number_ok _ (sym c.is_err.ensures.value ∙ c.if-is_err.false)) in
    omega (arith, k.whole, c.from.ensures)

pub slice_bounds-result-end-2 : goal.slice_bounds-result-end-2
slice_bounds-result-end-2 c =
    let k = record_inside c.args.block.now c.args.at (sym c.check_record.ensures ∙ number_ok _ (sym c.is_err.ensures.value ∙ c.if-is_err.false)) in
    omega (arith, k.whole, c.from.ensures)

pub returns : goal.returns
returns c =
    rw (eq-eqb (record_refusal c.args.block.now c.args.at) 0 (sym c.check_record.ensures ∙ number_ok _ (sym c.is_err.ensures.value ∙ c.if-is_err.false)))
    (record_part c.args.block.now c.args.at _ _ refl (omega (arith, c.from.ensures)))
