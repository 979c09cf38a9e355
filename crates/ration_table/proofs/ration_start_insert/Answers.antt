-- `ration_table::ration_start_insert` meets its contract.
use Rattle.std.proofs.Common.{ap, ◌∙◌}
use Rattle.state.specs.Answers.{start_reply}
use Rattle.state.specs.Begun.{told}
use Rattle.c_replies.specs.Told.{begun_told}
use Rattle.ration_table.proofs.NumberLaws.{begun_numbered}
use Rattle.ration_table.proofs.ration_start_insert.Goals as goal

pub returns : goal.returns
returns c = (
  told c.start_insert.result,
  c.start_reply.ensures ∙ ap start_reply (ap begun_told c.numbered.ensures ∙ begun_numbered c.start_insert.result),
  c.start_insert.ensures,
)
