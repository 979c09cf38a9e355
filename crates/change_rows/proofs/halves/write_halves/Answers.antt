use Rattle.std.proofs.Common.{ap₂, ◌∙◌, List, ℕ, ◌++◌, drop, length-take-le, arith}
use Rattle.change_rows.proofs.RowLaws.{lay_next}
use Rattle.change_rows.proofs.halves.write_halves.Goals as goal

pub returns : goal.returns
returns c =
    let a = c.write_left in
    let b = c.write_right in
    lay_next c.args.words.now a.new.words b.new.words 24 24 (a.auto.words ∙ length-take-le 24 c.args.words.now (omega arith))
    ∙ ap₂ (λ (x y : List ℕ). x ++ y ++ drop 48 c.args.words.now) a.ensures b.ensures
