use Rattle.swift_tasks.proofs.Prelude.{arith}
use Rattle.swift_tasks.proofs.OwnTasks.{own_tasks_few}
use Rattle.swift_tasks.proofs.checks.counts_of.Goals as goal

pub returns-clause-few : goal.returns-clause-few
returns-clause-few c = omega (arith, own_tasks_few c.args.ledger.now.roots c.args.task.0 c.args.ledger.now.log)
