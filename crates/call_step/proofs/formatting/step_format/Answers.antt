use Rattle.call_step.proofs.ContractLaws.{formats_first, formats_middle, formats_last}
use Rattle.call_step.proofs.formatting.step_format.Goals as goal

pub returns-then-made-eq0 : goal.returns-then-made-eq0
returns-then-made-eq0 c =
    let put = c.store_format.ensures in
    formats_first c.args.card.now c.args.state.now c.requires.1 _ c.wide-made.ensures _ put.2 c.if-made-eq0.true put.0 put.1

pub returns-then-made-card : goal.returns-then-made-card
returns-then-made-card c =
    let put = c.store_format-then-made-card.ensures in
    formats_middle c.args.card.now c.args.state.now c.requires.1 _ c.wide-made.ensures _ put.2 c.if-made-eq0.false c.if-made-card.true _ _ c.wide.ensures
    c.formatted_word-word.ensures put.0 put.1

pub returns-then-made-card-2 : goal.returns-then-made-card-2
returns-then-made-card-2 c =
    let put = c.store_format-then-made-card-2.ensures in
    formats_last c.args.card.now c.args.state.now c.requires.1 _ c.wide-made.ensures _ put.2 c.if-made-eq0.false c.if-made-card-2.true put.0 put.1
