use Rattle.std.proofs.Common.{◌≡◌, ◌+◌, ◌*◌, ◌≤◌, drop}
use Rattle.list_text.specs.Text.{pair_lines, pairs_of_words}
use Rattle.text_row.specs.Filling.{filled, fill}
use Rattle.list_text.proofs.put_pairs.Given as goal

abbrev pub invariant-loop-key : goal.invariant-loop-key
invariant-loop-key l =
    (l.next ≤ l.at + 22 * l.key-index)
    × (fill (pair_lines (pairs_of_words l.words)) (filled l.at l.initial.text) ≡ fill (pair_lines (pairs_of_words (drop (2 * l.key-index) l.words))) (filled l.next l.text))
