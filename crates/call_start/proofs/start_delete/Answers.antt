-- `call_start::start_delete` meets its contract.
use Rattle.std.proofs.Common.{ℕ, ap, ap₂, refl, sym, subst, ◌∙◌}
use Rattle.std.proofs.lemmas.Result.{err_from_is_err_and}
use Rattle.card.specs.Refusals.{number}
use Rattle.card.proofs.RefusalLaws.{number_some}
use Rattle.state.specs.Steps.{Handed}
use Rattle.state.specs.Begun.{Started, Refused}
use Rattle.state.specs.declared.Doing.TheVariants.{Deleting}
use Rattle.state.specs.declared.Phase.TheVariants.{NotBegun}
use Rattle.state.specs.Block.{memory_in}
use Rattle.state.specs.Clauses.{StartCall}
use Rattle.state.proofs.ContractLaws.{start_no_state}
use Rattle.call_start.specs.Refusals.{begun_by, due_depth}
use Rattle.call_start.specs.Starts.{delete_of}
use Rattle.call_start.proofs.StartLaws.{start_due, start_refused_in, depth_bound}
use Rattle.call_start.proofs.start_delete.Goals as goal

pub returns-then-state-ne-STATE_WORDS : goal.returns-then-state-ne-STATE_WORDS
returns-then-state-ne-STATE_WORDS c =
    start_no_state c.args.state.now c.if-state-ne-STATE_WORDS.true (Deleting c.args.key NotBegun 0)
    (delete_of c.args.greatest c.args.line c.args.card.now (memory_in c.args.state.now) c.args.key)

pub begin-requires : goal.begin-requires
begin-requires c = (
  c.if-state-ne-STATE_WORDS.false,
  rw (c.in_ok-depth.ensures.depth c.in_ok-depth.depth refl) (depth_bound _ _ _ (memory_in c.args.state.now) _),
)

pub returns-in_err-depth : goal.returns-in_err-depth
unfolding delete_of
returns-in_err-depth c =
    let p = err_from_is_err_and c.from_residual.result c.from_residual.ensures.1 in
    let m = memory_in c.args.state.now in
    let r = c.in_err-depth.field-0.0 in
    let doing = Deleting c.args.key NotBegun 0 in
    rw (p.1, p.2)
    (subst (λ (due : Handed). StartCall c.args.state.now c.args.state.now (Refused (number r)) doing due)
    (ap (λ (n : ℕ). begun_by n (due_depth c.args.greatest c.args.line c.args.card.now m c.args.key) m doing) c.in_err-depth.ensures.refused
    ∙ sym (start_due _ c.args.line c.args.card.now m c.args.key doing _))
    (start_refused_in c.args.state.now c.if-state-ne-STATE_WORDS.false doing (number r) _ (number_some r)))

pub returns : goal.returns
unfolding delete_of
returns c =
    let doing = Deleting c.args.key NotBegun 0 in
    subst (λ (due : Handed). StartCall c.args.state.now c.begin.new.state Started doing due)
    (ap₂ (λ (r depth : ℕ). begun_by r depth (memory_in c.args.state.now) doing) c.in_ok-depth.ensures.refused (c.in_ok-depth.ensures.depth c.in_ok-depth.depth refl)
    ∙ sym (start_due _ c.args.line c.args.card.now (memory_in c.args.state.now) c.args.key doing _))
    c.begin.ensures
