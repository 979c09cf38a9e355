-- `call_start::check_start` meets its contract.
use Rattle.std.proofs.Common.{sym, ◌∙◌, arith}
use Rattle.std.proofs.lemmas.Result.{err_from_is_err_and}
use Rattle.card.proofs.RefusalLaws.{number_some}
use Rattle.call_start.proofs.StartLaws.{start_unsized, start_header, start_busy, start_no_line, start_no_key, start_none}
use Rattle.call_start.proofs.check_start.Goals as goal

pub returns-then-not-is_sized : goal.returns-then-not-is_sized
returns-then-not-is_sized c =
    sym (start_unsized c.args.greatest c.args.line c.args.card.now c.args.nodes c.args.idle c.args.key (c.is_sized.ensures.1 c.if-not-is_sized.true))

pub check_header-requires : goal.check_header-requires
check_header-requires c = let k = c.is_sized.ensures.0 c.if-not-is_sized.false in omega (arith, k.words)

pub returns-in_err-check_header : goal.returns-in_err-check_header
returns-in_err-check_header c =
    let p = err_from_is_err_and c.from_residual.result c.from_residual.ensures.1 in
    let r = c.in_err-check_header.field-0.0 in
    rw (p.1, p.2)
    (sym (start_header _ c.args.line c.args.card.now c.args.nodes c.args.idle c.args.key (c.is_sized.ensures.0 c.if-not-is_sized.false)
    _ c.in_err-check_header.ensures (number_some r)))

pub returns-then-not-idle : goal.returns-then-not-idle
returns-then-not-idle c =
    sym (start_busy _ c.args.line c.args.card.now c.args.nodes c.args.idle c.args.key (c.is_sized.ensures.0 c.if-not-is_sized.false)
    (sym c.in_ok-check_header.ensures) c.if-not-idle.true)

pub has_line-requires : goal.has_line-requires
has_line-requires c = let k = c.is_sized.ensures.0 c.if-not-is_sized.false in omega (arith, k.words)

pub returns-then-not-has_line : goal.returns-then-not-has_line
returns-then-not-has_line c =
    sym (start_no_line _ c.args.line c.args.card.now c.args.nodes c.args.idle c.args.key (c.is_sized.ensures.0 c.if-not-is_sized.false)
    (sym c.in_ok-check_header.ensures) c.if-not-idle.false (sym c.has_line.ensures ∙ c.if-not-has_line.true))

pub returns-then-key-eq0 : goal.returns-then-key-eq0
returns-then-key-eq0 c =
    sym (start_no_key _ c.args.line c.args.card.now c.args.nodes c.args.idle c.args.key (c.is_sized.ensures.0 c.if-not-is_sized.false)
    (sym c.in_ok-check_header.ensures) c.if-not-idle.false (sym c.has_line.ensures ∙ c.if-not-has_line.false) c.if-key-eq0.true)

pub returns : goal.returns
returns c =
    sym (start_none _ c.args.line c.args.card.now c.args.nodes c.args.idle c.args.key (c.is_sized.ensures.0 c.if-not-is_sized.false)
    (sym c.in_ok-check_header.ensures) c.if-not-idle.false (sym c.has_line.ensures ∙ c.if-not-has_line.false) c.if-key-eq0.false)
