use Rattle.std.proofs.Common.{◌∙◌}
use Rattle.card_check.specs.Check.{findings_of, table_check}
use Rattle.card_check.specs.Counting.{table_counted}
use Rattle.card_check.proofs.CountingLaws.{all_cleared}
use Rattle.card_check.proofs.check_table.Goals as goal

pub returns-clause-found_after : goal.returns-clause-found_after
unfolding table_check findings_of
returns-clause-found_after c =
    let cleared = all_cleared c.args.found.now c.fill-2.new.self c.requires.3 (c.fill-2.ensures.after (λ y e. e)) in
    c.check_tree.ensures.found_after ∙ rw (c.fill.ensures, cleared)

pub returns-clause-by_index : goal.returns-clause-by_index
unfolding table_counted
returns-clause-by_index c = λ h e.
    let cleared = all_cleared c.args.found.now c.fill-2.new.self c.requires.3 (c.fill-2.ensures.after (λ y e. e)) in
    c.check_tree.ensures.by_index h e ∙ rw cleared
