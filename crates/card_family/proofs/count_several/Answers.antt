use Rattle.card_family.specs.Families.{several_in}
use Rattle.card_family.proofs.count_several.Goals as goal

pub returns : goal.returns
unfolding several_in
returns c = rw c.family_of-family.ensures.0
