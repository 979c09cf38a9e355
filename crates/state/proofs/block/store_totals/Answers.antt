use Rattle.std.proofs.Common.{sym, ap, ◌∙◌}
use Rattle.card_family.specs.Families.{family_count}
use Rattle.state.specs.Block.{totals_at}
use Rattle.state.proofs.Rows.{placed}
use Rattle.state.proofs.Blocks.{over_placed}
use Rattle.state.proofs.block.store_totals.Goals as goal

pub returns : goal.returns
returns c =
    ap (placed totals_at family_count c.args.block.now) c.copy_from_slice.ensures.after
    ∙ sym (over_placed c.args.block.now c.args.totals.now totals_at family_count c.requires.1)
