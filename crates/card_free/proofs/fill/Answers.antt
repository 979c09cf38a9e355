use Rattle.std.proofs.Common.{refl, ◌∙◌, arith}
use Rattle.card_free.specs.NodeSet.{nodes_of}
use Rattle.card_free.proofs.Filling.{filled_next, filled_all}
use Rattle.card_free.proofs.fill.Goals as goal

pub loop-q-init : goal.loop-q-init
unfolding nodes_of
loop-q-init c = refl

pub loop-q-preserved : goal.loop-q-preserved
loop-q-preserved c =
    let l = c.loop-q in
    filled_next l.words c.args.n l.q c.full_word.result (omega arith) c.full_word.ensures l.invariant

pub returns : goal.returns
returns c =
    let l = c.loop-q in
    c.take_out.ensures ∙ filled_all l.words c.args.n l.q c.requires.1 (omega arith) (omega arith) l.invariant
