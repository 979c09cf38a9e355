-- `ration_table::ration_family_total` meets its contract.
use Rattle.std.proofs.Common.{ap, ◌∙◌}
use Rattle.state.specs.Answers.{total_reply}
use Rattle.state.specs.Total.{told}
use Rattle.c_replies.specs.Told.{total_told}
use Rattle.ration_table.proofs.NumberLaws.{total_numbered}
use Rattle.ration_table.proofs.ration_family_total.Goals as goal

pub returns : goal.returns
returns c = (
  told c.family_total.result,
  c.total_reply.ensures ∙ ap total_reply (ap total_told c.numbered.ensures ∙ total_numbered c.family_total.result),
  c.family_total.ensures,
)
