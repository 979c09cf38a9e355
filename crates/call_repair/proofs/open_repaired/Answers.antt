-- `call_repair::open_repaired` meets its contract.
use mathlib.Core.Path.{ap, ◌∙◌}
use Rattle.state.specs.Memory.{Memory}
use Rattle.call_step.specs.Calls.{repair_steps}
use Rattle.call_repair.specs.Repairing.{repaired_card, opened_card}
use Rattle.call_repair.proofs.open_repaired.Goals as goal

pub returns : goal.returns
unfolding opened_card
returns c =
    let opened = c.open-begun.ensures.opened c.requires in
    record {
      value = opened.answered;
      state_after = c.repair.ensures ∙ ap (λ (m : Memory). repaired_card c.args.greatest repair_steps c.args.card.now m) opened.handed;
    }
