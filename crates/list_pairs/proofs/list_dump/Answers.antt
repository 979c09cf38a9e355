use Rattle.std.proofs.Common.{sym, length, length-take-le, arith}
use Rattle.card_dump.proofs.AnswerLaws.{read_sized}
use Rattle.list_pairs.proofs.list_dump.Goals as goal

-- the words read fit into the lent slice
pub slice_bounds-list_card-end-2 : goal.slice_bounds-list_card-end-2
slice_bounds-list_card-end-2 c =
    let d = c.read_dump in
    let read = read_sized _ c.args.bytes.now (length c.args.card.now) c.in_ok-size.size (sym c.in_ok-size.ensures.value) in
    sym (length-take-le c.in_ok-size.size d.new.words (omega (arith, d.auto.words, read.room)))
