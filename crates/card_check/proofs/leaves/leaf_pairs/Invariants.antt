use Rattle.std.proofs.Common.{◌≡◌, ◌+◌, ◌≤◌, true, length, drop}
use Rattle.card.specs.Layout.{key_words}
use Rattle.card.proofs.NodeLaws.{leaf_from}
use Rattle.card_check.specs.Check.{leaf_sound, Least}
use Rattle.card_check.proofs.leaves.leaf_pairs.Given as goal

-- the slots from i on are sound, and their pairs counted
abbrev pub invariant-loop-i : goal.invariant-loop-i
invariant-loop-i l = record {
  bound : l.pairs + l.i ≤ 11;
  counted : l.pairs ≡ length (leaf_from l.node l.i);
  sound : leaf_sound l.low l.high (drop l.i (key_words l.node)) ≡ true;
  least : Least l.least (drop l.i (key_words l.node));
}
