use Rattle.call_step.proofs.ChangeLaws.{task_refused, task_ended, task_fits, task_some, task_changed}
use Rattle.call_step.proofs.planning.step_task.Goals as goal

pub step_change-requires : goal.step_change-requires
step_change-requires c = (
  c.requires.0,
  c.requires.1,
  task_fits c.args.line c.args.card.now c.args.state.now c.requires.0 c.args.task c.requires.3 _ _ c.wide.ensures c.requires.2 _ c.next_change-next.ensures _
      c.size_of-size.ensures c.requires.1 c.in-Prepared.is,
  task_some c.args.line c.args.card.now c.args.state.now c.requires.0 c.args.task c.requires.3 _ _ c.wide.ensures c.requires.2 _ c.next_change-next.ensures _
      c.size_of-size.ensures c.requires.1 c.in-Prepared.is,
  c.size_of-size.ensures,
)

pub returns-in-Refused : goal.returns-in-Refused
returns-in-Refused c =
    task_refused c.args.line c.args.card.now c.args.state.now c.requires.0 c.args.task c.requires.3 _ _ c.wide.ensures c.requires.2 _ c.next_change-next.ensures _
    c.size_of-size.ensures c.in-Refused.is

pub returns-in-Balanced : goal.returns-in-Balanced
returns-in-Balanced c =
    task_ended c.args.line c.args.card.now c.args.state.now c.requires.0 c.args.task c.requires.3 _ _ c.wide.ensures c.requires.2 _ c.next_change-next.ensures _
    c.size_of-size.ensures c.in-Balanced.is c.finish.ensures

pub returns-in-Prepared : goal.returns-in-Prepared
returns-in-Prepared c =
    task_changed c.args.line c.args.card.now c.args.state.now c.requires.0 c.args.task c.requires.3 _ _ c.wide.ensures c.requires.2 _ c.next_change-next.ensures _
    c.size_of-size.ensures c.requires.1 c.in-Prepared.is c.requires.4 c.step_change.ensures
