-- `change_decide::next_repair`: the position of a violation found is one that `decide_at` may be given.
use Rattle.std.proofs.Common.{sym, ◌∙◌}
use Rattle.change_decide.proofs.Positions.{position_within}
use Rattle.change_decide.proofs.next_repair.Goals as goal

pub decide_at-requires : goal.decide_at-requires
decide_at-requires c =
    position_within c.args.card.now c.args.n c.args.key c.requires.0 c.requires.1 _ _ _ (sym c.find_violation.ensures ∙ c.in-Violation.is)
