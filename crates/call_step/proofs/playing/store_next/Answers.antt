use Rattle.call_step.proofs.LineSteps.{next_refused, next_goes_on, next_ends}
use Rattle.call_step.proofs.playing.store_next.Goals as goal

pub returns-then-card-at : goal.returns-then-card-at
returns-then-card-at c =
    next_refused c.args.line c.args.card.now c.args.state.now c.requires.4 c.requires.3 c.requires.0 c.requires.1 _ c.wide-made.ensures _ _
    c.on_line-place.ensures c.wide-at.ensures c.if-card-at.true

pub returns-then-store_word : goal.returns-then-store_word
returns-then-store_word c =
    next_goes_on c.args.line c.args.card.now c.args.state.now c.requires.4 c.requires.3 c.requires.0 c.requires.1 _ c.wide-made.ensures _ _
    c.on_line-place.ensures c.wide-at.ensures c.requires.2 c.if-card-at.false c.store_word.ensures.card_after _ c.store_word.ensures.value
    c.if-store_word.true c.store_word.ensures.state_after

pub returns : goal.returns
returns c =
    next_ends c.args.line c.args.card.now c.args.state.now c.requires.4 c.requires.3 c.requires.0 c.requires.1 _ c.wide-made.ensures _ _
    c.on_line-place.ensures c.wide-at.ensures c.requires.2 c.if-card-at.false c.store_word.ensures.card_after _ c.store_word.ensures.value
    c.if-store_word.false _ c.store_word.ensures.state_after c.end_change.ensures
