-- A number of 64 bits has at most 20 digits.
use Rattle.std.proofs.Common.{◌++◌, arith}
use Rattle.text_row.specs.Lines.{decimal, line_feed, free_word}
use Rattle.text_row.proofs.DecimalLaws.{number_short}
use Rattle.text_row.proofs.FillingLaws.{fill_then, fill_reached, number_within}
use Rattle.reason_text.specs.ReasonText.{split_word, need_word, split_line}
use Rattle.reason_text.proofs.put_split.Goals as goal

pub put_number-split-requires : goal.put_number-split-requires
put_number-split-requires c = omega (arith, number_short c.args.run (omega arith))

pub put_number-spare-requires : goal.put_number-spare-requires
unfolding split_word
put_number-spare-requires c =
    omega (
      arith,
      number_short c.args.free (omega arith),
      number_within split_word c.args.run 20 _ _ (number_short c.args.run (omega arith)) c.put_number-split.ensures,
    )

pub put_number-needed-requires : goal.put_number-needed-requires
unfolding split_word free_word
put_number-needed-requires c =
    omega (
      arith,
      number_short c.args.need (omega arith),
      number_within split_word c.args.run 20 _ _ (number_short c.args.run (omega arith)) c.put_number-split.ensures,
      number_within free_word c.args.free 20 _ _ (number_short c.args.free (omega arith)) c.put_number-spare.ensures,
    )

pub put_all-requires : goal.put_all-requires
unfolding split_word free_word need_word
put_all-requires c =
    omega (
      arith,
      number_within split_word c.args.run 20 _ _ (number_short c.args.run (omega arith)) c.put_number-split.ensures,
      number_within free_word c.args.free 20 _ _ (number_short c.args.free (omega arith)) c.put_number-spare.ensures,
      number_within need_word c.args.need 20 _ _ (number_short c.args.need (omega arith)) c.put_number-needed.ensures,
    )

pub returns-clause-text_after : goal.returns-clause-text_after
unfolding split_line split_word free_word need_word line_feed
returns-clause-text_after c =
    let free = fill_then (split_word ++ decimal c.args.run) (free_word ++ decimal c.args.free) _ c.put_number-split.ensures c.put_number-spare.ensures in
    let need = fill_then _ (need_word ++ decimal c.args.need) _ free c.put_number-needed.ensures in
    fill_then _ line_feed _ need c.put_all.ensures

pub returns-clause-upper_bound : goal.returns-clause-upper_bound
unfolding split_word free_word need_word line_feed
returns-clause-upper_bound c =
    omega (
      arith,
      number_within split_word c.args.run 20 _ _ (number_short c.args.run (omega arith)) c.put_number-split.ensures,
      number_within free_word c.args.free 20 _ _ (number_short c.args.free (omega arith)) c.put_number-spare.ensures,
      number_within need_word c.args.need 20 _ _ (number_short c.args.need (omega arith)) c.put_number-needed.ensures,
      fill_reached line_feed _ _ c.put_all.ensures,
    )
