use Rattle.std.proofs.Common.{◌∙◌, ap, sym}
use Rattle.state.specs.Block.{doing_words}
use Rattle.state.specs.Blocks.{begun_block}
use Rattle.state.proofs.Rows.{placed}
use Rattle.state.proofs.Blocks.{over_placed, length_doing}
use Rattle.state.proofs.block.store_doing.Goals as goal

pub returns : goal.returns
unfolding begun_block
returns c =
    ap (placed 2 4 c.args.block.now) (c.copy_from_slice.ensures.after ∙ c.from.ensures)
    ∙ sym (over_placed c.args.block.now (doing_words c.args.doing) 2 4 (length_doing c.args.doing))
