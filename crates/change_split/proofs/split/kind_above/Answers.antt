use Rattle.change_split.proofs.SplitLaws.{kind_root, kind_other}
use Rattle.change_split.proofs.split.kind_above.Goals as goal

pub returns-then-link-eq-ROOT_PLACE : goal.returns-then-link-eq-ROOT_PLACE
returns-then-link-eq-ROOT_PLACE c = kind_root c.args.link c.if-link-eq-ROOT_PLACE.true

pub returns-else-link-eq-ROOT_PLACE : goal.returns-else-link-eq-ROOT_PLACE
returns-else-link-eq-ROOT_PLACE c = kind_other c.args.link c.if-link-eq-ROOT_PLACE.false
