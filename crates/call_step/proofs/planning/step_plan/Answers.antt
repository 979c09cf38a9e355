use Rattle.call_step.proofs.StepLaws.{plans_task}
use Rattle.call_step.proofs.planning.step_plan.Goals as goal

pub returns : goal.returns
returns c =
    plans_task c.args.state.now _ c.head_in-head.ensures _ c.held_by.ensures c.args.line c.args.card.now c.requires.2 _ c.in-Task.is c.requires.4 c.step_task.ensures
