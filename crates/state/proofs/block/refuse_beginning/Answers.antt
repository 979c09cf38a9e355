use Rattle.std.proofs.Common.{◌≡◌, refl, sym, ap, ◌∙◌, List, ◌++◌, ℕ, length, take, drop, length-take-le, arith}
use lib.ListN.{replicate}
use Rattle.state.specs.Steps.{no_beginning}
use Rattle.state.specs.Block.{back_at, memory_in}
use Rattle.state.proofs.Blocks.{none_block, memory_none}
use Rattle.state.proofs.block.refuse_beginning.Goals as goal

pub slice_bounds-fill-end-2 : goal.slice_bounds-fill-end-2
slice_bounds-fill-end-2 c = sym (length-take-le back_at c.args.block.now (omega (arith, c.requires)))

pub returns : goal.returns
unfolding no_beginning
returns c =
    let block = c.args.block.now in
    let long : length (take back_at block) ≡ back_at = length-take-le back_at block (omega (arith, c.requires)) in
    let zeros : c.fill.new.self ≡ replicate back_at 0 = c.fill.ensures.after (λ y e. e) ∙ ap (λ (k : ℕ). replicate k 0) long in
    let whole = ap (λ (l : List ℕ). l ++ drop back_at block) zeros in
    record { answered = refl; handed = ap memory_in whole ∙ memory_none (drop back_at block); words = whole ∙ none_block block }
