use Rattle.card_check.specs.Check.{tree_check}
use Rattle.card_check.proofs.check_tree.Goals as goal

pub returns-clause-found_after : goal.returns-clause-found_after
unfolding tree_check
returns-clause-found_after c = c.node_check.ensures.found_after
