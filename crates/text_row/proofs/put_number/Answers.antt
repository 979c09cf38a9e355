use Rattle.std.proofs.Common.{ap, ◌∙◌, List, ℕ, length, arith}
use Rattle.text_row.specs.Filling.{filled, fill}
use Rattle.text_row.proofs.FillingLaws.{fill_then, fill_reached}
use Rattle.text_row.proofs.DecimalLaws.{made_decimal}
use Rattle.text_row.proofs.put_number.Goals as goal

pub put_all-requires : goal.put_all-requires
put_all-requires c =
    -- the digits are the number's
    let made = made_decimal c.args.number c.decimal-k.result c.decimal-k.new.out c.decimal-k.ensures.len c.decimal-k.ensures.digits in
    omega (arith, ap length made, fill_reached c.args.word.now _ _ c.put_all-next.ensures)

pub returns : goal.returns
returns c =
    let made = made_decimal c.args.number c.decimal-k.result c.decimal-k.new.out c.decimal-k.ensures.len c.decimal-k.ensures.digits in
    fill_then c.args.word.now _ _ c.put_all-next.ensures
    (c.put_all.ensures ∙ ap (λ (bytes : List ℕ). fill bytes (filled c.put_all-next.result c.put_all-next.new.text)) made)
