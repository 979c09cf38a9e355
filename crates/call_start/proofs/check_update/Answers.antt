-- `call_start::check_update` meets its contract.
use Rattle.std.proofs.Common.{◌≡◌, ap, ap₂, sym, ◌∙◌, ℕ, Bool}
use Rattle.std.proofs.lemmas.Result.{err_from_is_err_and}
use Rattle.card.specs.Lines.{seen}
use Rattle.card.specs.Refusals.{number, number_of}
use Rattle.card.proofs.HeaderLaws.{sized_any}
use Rattle.card.proofs.RefusalLaws.{number_some}
use Rattle.state.specs.Block.{memory_in}
use Rattle.call_start.specs.Refusals.{start_refusal, early_refusal, room_where}
use Rattle.call_start.specs.Starts.{room_of}
use Rattle.call_start.proofs.StartLaws.{start_sized, start_lined, due_early, due_landing, depth_landing}
use Rattle.call_start.proofs.check_update.Goals as goal
use Rattle.call_start.proofs.check_update.Goals.{In_ok-check_start}

pub returns-in_err-check_start-clause-refused : goal.returns-in_err-check_start-clause-refused
unfolding memory_in
returns-in_err-check_start-clause-refused c =
    let p = err_from_is_err_and c.from_residual.result c.from_residual.ensures.1 in
    let r = c.in_err-check_start.field-0.0 in
    let m = memory_in c.args.state.now in
    let due : number r ≡ early_refusal c.args.greatest c.args.line c.args.card.now m c.args.key =
    sym (ap number_of c.in_err-check_start.was) ∙ c.check_start.ensures
    ∙ ap₂ (λ (n : ℕ) (idle : Bool). start_refusal c.args.greatest c.args.line c.args.card.now n idle c.args.key)
    c.wide.ensures (c.is_idle.ensures.of_state c.requires) in
    rw (p.1, p.2)
    (due ∙ sym (due_early _ c.args.line c.args.card.now m c.args.key
    (room_where c.args.splits (seen c.args.line c.args.card.now) c.args.key (room_of m)) (λ z. number_some r (due ∙ z))))

-- no early refusal is due
none_due : (c : In_ok-check_start) →
    early_refusal c.args.greatest c.args.line c.args.card.now (memory_in c.args.state.now) c.args.key ≡ 0
unfolding memory_in
none_due c =
    sym (c.in_ok-check_start.ensures
    ∙ ap₂ (λ (n : ℕ) (idle : Bool). start_refusal c.args.greatest c.args.line c.args.card.now n idle c.args.key)
    c.wide.ensures (c.is_idle.ensures.of_state c.requires))

pub check_way-requires : goal.check_way-requires
check_way-requires c =
    (c.requires, sized_any (start_sized _ c.args.line c.args.card.now _ _ _ (none_due c)), start_lined _ c.args.line c.args.card.now _ _ _ (none_due c))

pub returns : goal.returns
unfolding memory_in
returns c =
    let m = memory_in c.args.state.now in
    let none : early_refusal c.args.greatest c.args.line c.args.card.now m c.args.key ≡ 0 =
    sym (c.in_ok-check_start.ensures
    ∙ ap₂ (λ (n : ℕ) (idle : Bool). start_refusal c.args.greatest c.args.line c.args.card.now n idle c.args.key)
    c.wide.ensures (c.is_idle.ensures.of_state c.requires)) in
    record {
      refused = c.check_way.ensures.refused
          ∙ sym (due_landing _ c.args.line c.args.card.now m c.args.key
          (room_where c.args.splits (seen c.args.line c.args.card.now) c.args.key (room_of m)) none);
      depth = λ d e. c.check_way.ensures.depth d e ∙ sym (depth_landing _ c.args.line c.args.card.now m c.args.key none);
    }
