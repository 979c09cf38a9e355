-- `ration_table::ration_open` meets its contract.
use Rattle.std.proofs.Common.{ap, ◌∙◌}
use Rattle.state.specs.Answers.{start_reply}
use Rattle.state.specs.Begun.{told}
use Rattle.c_replies.specs.Told.{begun_told}
use Rattle.ration_table.proofs.NumberLaws.{begun_numbered}
use Rattle.ration_table.proofs.ration_open.Goals as goal

pub returns : goal.returns
returns c = (
  told c.«open».result,
  c.start_reply.ensures ∙ ap start_reply (ap begun_told c.numbered.ensures ∙ begun_numbered c.«open».result),
  c.«open».ensures,
)
