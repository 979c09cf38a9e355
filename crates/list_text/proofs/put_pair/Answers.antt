use Rattle.std.proofs.Common.{[], ◌++◌, arith}
use Rattle.list_text.specs.Text.{space, pair_line}
use Rattle.text_row.specs.Lines.{decimal, line_feed}
use Rattle.text_row.proofs.FillingLaws.{fill_then, number_within}
use Rattle.text_row.proofs.DecimalLaws.{word_short}
use Rattle.list_text.proofs.put_pair.Goals as goal

pub put_number-first-requires : goal.put_number-first-requires
put_number-first-requires c = omega (arith, word_short c.args.key (omega arith))

pub put_number-second-requires : goal.put_number-second-requires
put_number-second-requires c =
    omega (
      arith,
      word_short c.args.value (omega arith),
      number_within [] c.args.key 10 _ _ (word_short c.args.key (omega arith)) c.put_number-first.ensures,
    )

pub put_all-requires : goal.put_all-requires
unfolding space
put_all-requires c =
    omega (
      arith,
      number_within space c.args.value 10 _ _ (word_short c.args.value (omega arith)) c.put_number-second.ensures,
      number_within [] c.args.key 10 _ _ (word_short c.args.key (omega arith)) c.put_number-first.ensures,
    )

pub returns : goal.returns
unfolding pair_line space line_feed
returns c =
    let value = fill_then (decimal c.args.key) (space ++ decimal c.args.value) _ c.put_number-first.ensures c.put_number-second.ensures in
    fill_then _ line_feed _ value c.put_all.ensures
