use Rattle.explorer_progress.proofs.Prefixes.{begins_take}
use Rattle.explorer_progress.proofs.hint.steps_to.Goals as goal

pub returns-clause-begins : goal.returns-clause-begins
returns-clause-begins c = begins_take _ c.args.schedule.now c.in_ok-steps.steps.items c.in_ok-steps.ensures
