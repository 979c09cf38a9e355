use Rattle.std.proofs.Common.{◌∙◌, arith, drop, take_all, length-drop}
use Rattle.list_pairs.proofs.totals_found.Goals as goal

-- the part copied is all that stands after the first three
pub returns : goal.returns
returns c =
    let rest = drop 3 c.args.found.now in
    c.copy_from_slice.ensures.after ∙ take_all 16 rest (omega (arith, length-drop 3 c.args.found.now, c.type_inv.found))
