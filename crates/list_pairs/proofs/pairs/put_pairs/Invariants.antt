use Rattle.std.proofs.Common.{◌≡◌, ◌-◌, ◌≤◌, length}
use Rattle.walk_next.specs.Successor.{walk_from}
use Rattle.list_pairs.specs.Listing.{most_pairs, laid, lay_pairs}
use Rattle.list_pairs.proofs.pairs.put_pairs.Given as goal

abbrev pub invariant-loop : goal.invariant-loop
invariant-loop l =
    (l.at ≤ length l.out)
    × (lay_pairs (walk_from l.greatest 1 most_pairs l.card 0) (laid 0 l.initial.out) ≡ lay_pairs (walk_from l.greatest 1 (most_pairs - l.counter) l.card l.after) (laid l.at l.out))
