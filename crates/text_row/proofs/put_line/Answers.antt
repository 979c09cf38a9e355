-- A number of 32 bits has at most 10 digits.
use Rattle.std.proofs.Common.{◌++◌, arith}
use Rattle.text_row.specs.Lines.{decimal, line_feed, number_line}
use Rattle.text_row.proofs.FillingLaws.{fill_then, fill_reached, number_within}
use Rattle.text_row.proofs.DecimalLaws.{word_short}
use Rattle.text_row.proofs.put_line.Goals as goal

pub put_number-next-requires : goal.put_number-next-requires
put_number-next-requires c = omega (arith, word_short c.args.number (omega arith))

pub put_all-requires : goal.put_all-requires
put_all-requires c =
    omega (arith, number_within c.args.word.now c.args.number 10 _ _ (word_short c.args.number (omega arith)) c.put_number-next.ensures)

pub returns-clause-text_after : goal.returns-clause-text_after
unfolding number_line line_feed
returns-clause-text_after c =
    fill_then (c.args.word.now ++ decimal c.args.number) line_feed _ c.put_number-next.ensures c.put_all.ensures

pub returns-clause-upper_bound : goal.returns-clause-upper_bound
unfolding line_feed
returns-clause-upper_bound c =
    omega
    (arith, fill_reached line_feed _ _ c.put_all.ensures, number_within c.args.word.now c.args.number 10 _ _ (word_short c.args.number (omega arith)) c.put_number-next.ensures)
