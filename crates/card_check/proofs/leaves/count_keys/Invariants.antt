use Rattle.std.proofs.Common.{◌≡◌, drop}
use Rattle.card.specs.Layout.{key_words}
use Rattle.card_check.specs.Counting.{keys_counted}
use Rattle.card_check.proofs.leaves.count_keys.Given as goal

-- the keys of the slots from i on are counted
abbrev pub invariant-loop-i : goal.invariant-loop-i
invariant-loop-i l = l.totals ≡ keys_counted (drop l.i (key_words l.node)) l.fn.totals
