use Rattle.std.proofs.Common.{ap, ◌∙◌}
use Rattle.reason_key.proofs.KeyFileLaws.{stripped}
use Rattle.reason_key.proofs.without_final_feed.Goals as goal

pub returns : goal.returns
returns c = ap (λ x. x.now) c.unwrap_or.ensures ∙ stripped _ _ c.strip_suffix.ensures.cases
