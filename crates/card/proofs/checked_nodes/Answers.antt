use Rattle.std.proofs.Common.{sym, arith, ◌∙◌}
use Rattle.std.proofs.lemmas.Result.{err_from_is_err_and}
use Rattle.card.proofs.HeaderLaws.{card_no_length, sized_header}
use Rattle.card.proofs.checked_nodes.Goals as goal

pub returns-in_err-n-clause-refused : goal.returns-in_err-n-clause-refused
returns-in_err-n-clause-refused c =
    let p = err_from_is_err_and c.from_residual.result c.from_residual.ensures.1 in
    rw (p.1, p.2) (grind (arith, c.in_err-n.ensures, c.nodes_of.ensures.value, card_no_length))

pub returns-in_err-check_header-clause-refused : goal.returns-in_err-check_header-clause-refused
returns-in_err-check_header-clause-refused c =
    let p = err_from_is_err_and c.from_residual-in_err-check_header.result c.from_residual-in_err-check_header.ensures.1 in
    rw (p.1, p.2) (c.in_err-check_header.ensures ∙ sym (sized_header _ (c.nodes_of.ensures.sized _ c.in_ok-n.ensures.ok_part)))

pub returns-clause-refused : goal.returns-clause-refused
returns-clause-refused c = c.in_ok-check_header.ensures ∙ sym (sized_header _ (c.nodes_of.ensures.sized _ c.in_ok-n.ensures.ok_part))
