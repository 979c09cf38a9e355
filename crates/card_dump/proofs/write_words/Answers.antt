use Rattle.std.proofs.Common.{ℕ, ◌++◌, ◌+◌, ◌-◌, ◌*◌, List, take, drop, refl, ap, ap₂, ◌∙◌, append-nil, arith}
use Rattle.std.proofs.Math.Seq.{take_all}
use Rattle.std.proofs.Math.ListN.{drop_of_length-le}
use Rattle.card_dump.specs.Dump.{card_bytes, word_bytes}
use Rattle.card_dump.proofs.ByteLaws.{write_more}
use Rattle.card_dump.proofs.write_words.Goals as goal

pub loop-i-init : goal.loop-i-init
unfolding card_bytes
loop-i-init c = refl

pub loop-i-preserved : goal.loop-i-preserved
unfolding word_bytes
loop-i-preserved c =
    let l = c.loop-i in
    ap (λ (four : List ℕ). take (4 * l.i) l.bytes ++ (four ++ drop (4 * l.i + 4 - 4 * l.i) (drop (4 * l.i) l.bytes))) (c.copy_from_slice.ensures.after ∙ c.to_le_bytes.ensures)
    ∙ write_more c.args.card.now c.args.bytes.now l.i (omega arith) l.bytes l.invariant

pub returns : goal.returns
returns c =
    let l = c.loop-i in
    l.invariant
    ∙ ap₂ (λ (x y : List ℕ). card_bytes x ++ y) (take_all l.i c.args.card.now (omega arith)) (drop_of_length-le c.args.bytes.now {i = 4 * l.i} (omega arith))
    ∙ append-nil _
