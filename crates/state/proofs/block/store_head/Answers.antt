use Rattle.std.proofs.Common.{◌∙◌, ap₂, List, ℕ, set, arith}
use Rattle.state.proofs.Rows.{placed}
use Rattle.state.proofs.Blocks.{head_stored}
use Rattle.state.proofs.block.store_head.Goals as goal

pub returns : goal.returns
returns c =
    ap₂ (λ (b cut : List ℕ). placed 8 3 (set (set b 6 c.args.state.made) 7 c.args.state.count) cut) c.store_doing.ensures c.copy_from_slice.ensures.after
    ∙ head_stored c.args.block.now c.args.state (omega (arith, c.requires))
