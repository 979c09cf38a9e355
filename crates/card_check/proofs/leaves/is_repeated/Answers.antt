use Rattle.std.proofs.Common.{◌+◌, get_or, ◌∙◌, arith}
use Rattle.card_check.proofs.CheckLaws.{member_any, later_keys}
use Rattle.card_check.proofs.leaves.is_repeated.Goals as goal

pub returns : goal.returns
returns c =
    let node = c.args.node.now in
    c.contains.ensures.value ∙ rw (later_keys node c.args.i (omega arith)) (member_any (get_or node (1 + c.args.i) 0) _)
