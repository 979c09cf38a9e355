use Rattle.card_free.proofs.Search.{Mask, Passed}
use Rattle.card_free.proofs.first_from.Given as goal

-- the words before q hold no node from a on, and `mask` keeps those of word q
abbrev pub invariant-loop-q : goal.invariant-loop-q
invariant-loop-q l = Mask l.a l.q l.mask × Passed l.words l.a l.q
