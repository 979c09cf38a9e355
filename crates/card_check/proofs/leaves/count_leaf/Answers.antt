use Rattle.std.proofs.Common.{sym, ap, ◌∙◌, ℕ, rules, arith}
use borrow.Author.Tests.{leb-true}
use Rattle.card.proofs.NodeLaws.{leaf_few}
use Rattle.card_family.specs.Families.{several_in}
use Rattle.card_family.proofs.FamilyLaws.{family_below}
use Rattle.card_check.proofs.CountingLaws.{leaf_several}
use Rattle.card_check.proofs.leaves.count_leaf.Goals as goal

pub overflow_cast-pairs : goal.overflow_cast-pairs
overflow_cast-pairs c = omega (arith, leaf_few c.args.node.now)

pub returns-then-is_one_family : goal.returns-then-is_one_family
returns-then-is_one_family c =
    c.count_several.ensures ∙ ap (λ (n : ℕ). several_in c.args.low n c.args.totals.now) c.requires.3
    ∙ sym (leaf_several c.args.low c.args.high
    (leb-true _ _ (sym c.is_one_family.ensures ∙ c.if-is_one_family.true))
    c.args.totals.now
    (omega (arith, family_below c.args.low (omega arith))) (search rules)
    c.args.node.now c.requires.0 c.requires.2)
