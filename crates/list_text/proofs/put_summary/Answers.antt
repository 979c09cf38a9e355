use Rattle.std.proofs.Common.{◌++◌, ◌/◌, arith}
use Rattle.list_text.specs.Text.{nodes_word, levels_word, pairs_word, first_line}
use Rattle.text_row.specs.Lines.{decimal, line_feed, free_word}
use Rattle.text_row.proofs.FillingLaws.{fill_then, fill_reached, number_within}
use Rattle.text_row.proofs.DecimalLaws.{number_short}
use Rattle.list_text.proofs.put_summary.Goals as goal

pub put_number-nodes-requires : goal.put_number-nodes-requires
put_number-nodes-requires c = omega (arith, number_short c.args.s.nodes (omega arith))

pub put_number-free-requires : goal.put_number-free-requires
unfolding nodes_word
put_number-free-requires c =
    omega (
      arith,
      number_short c.args.s.free (omega arith),
      number_within nodes_word c.args.s.nodes 20 _ _ (number_short c.args.s.nodes (omega arith)) c.put_number-nodes.ensures,
    )

pub put_number-levels-requires : goal.put_number-levels-requires
unfolding nodes_word free_word
put_number-levels-requires c =
    omega (
      arith,
      number_short c.args.s.levels (omega arith),
      number_within nodes_word c.args.s.nodes 20 _ _ (number_short c.args.s.nodes (omega arith)) c.put_number-nodes.ensures,
      number_within free_word c.args.s.free 20 _ _ (number_short c.args.s.free (omega arith)) c.put_number-free.ensures,
    )

pub put_number-pairs-requires : goal.put_number-pairs-requires
unfolding nodes_word free_word levels_word
put_number-pairs-requires c =
    omega (
      arith,
      number_short (c.args.s.words / 2) (omega arith),
      number_within nodes_word c.args.s.nodes 20 _ _ (number_short c.args.s.nodes (omega arith)) c.put_number-nodes.ensures,
      number_within free_word c.args.s.free 20 _ _ (number_short c.args.s.free (omega arith)) c.put_number-free.ensures,
      number_within levels_word c.args.s.levels 20 _ _ (number_short c.args.s.levels (omega arith)) c.put_number-levels.ensures,
    )

pub put_all-requires : goal.put_all-requires
unfolding nodes_word free_word levels_word pairs_word
put_all-requires c =
    omega (
      arith,
      number_within nodes_word c.args.s.nodes 20 _ _ (number_short c.args.s.nodes (omega arith)) c.put_number-nodes.ensures,
      number_within free_word c.args.s.free 20 _ _ (number_short c.args.s.free (omega arith)) c.put_number-free.ensures,
      number_within levels_word c.args.s.levels 20 _ _ (number_short c.args.s.levels (omega arith)) c.put_number-levels.ensures,
      number_within pairs_word (c.args.s.words / 2) 20 _ _ (number_short (c.args.s.words / 2) (omega arith)) c.put_number-pairs.ensures,
    )

pub returns-clause-text_after : goal.returns-clause-text_after
unfolding first_line nodes_word free_word levels_word pairs_word line_feed
returns-clause-text_after c =
    let s = c.args.s in
    let free = fill_then (nodes_word ++ decimal s.nodes) (free_word ++ decimal s.free) _ c.put_number-nodes.ensures c.put_number-free.ensures in
    let levels = fill_then _ (levels_word ++ decimal s.levels) _ free c.put_number-levels.ensures in
    let pairs = fill_then _ (pairs_word ++ decimal (s.words / 2)) _ levels c.put_number-pairs.ensures in
    fill_then _ line_feed _ pairs c.put_all.ensures

pub returns-clause-upper_bound : goal.returns-clause-upper_bound
unfolding nodes_word free_word levels_word pairs_word line_feed
returns-clause-upper_bound c =
    omega (
      arith,
      number_within nodes_word c.args.s.nodes 20 _ _ (number_short c.args.s.nodes (omega arith)) c.put_number-nodes.ensures,
      number_within free_word c.args.s.free 20 _ _ (number_short c.args.s.free (omega arith)) c.put_number-free.ensures,
      number_within levels_word c.args.s.levels 20 _ _ (number_short c.args.s.levels (omega arith)) c.put_number-levels.ensures,
      number_within pairs_word (c.args.s.words / 2) 20 _ _ (number_short (c.args.s.words / 2) (omega arith)) c.put_number-pairs.ensures,
      fill_reached line_feed _ _ c.put_all.ensures,
    )
