use Rattle.std.proofs.Common.{refl, arith}
use Rattle.card_family.specs.Families.{family_of}
use Rattle.card_family.proofs.family_of.Goals as goal

-- a word has 32 bits
pub returns : goal.returns
unfolding family_of
returns c = (refl, omega arith)
