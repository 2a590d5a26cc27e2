use Rattle.swift_tasks.proofs.Prelude.{arith, ◌≤◌, opened_by, is_closed}
use Rattle.swift_tasks.proofs.Tests.{new_is_open}
use Rattle.swift_tasks.proofs.checks.uses.Goals as goal

pub returns-then-group-opened : goal.returns-then-group-opened
returns-then-group-opened c =
    let here : opened_by c.args.task.0 c.args.ledger.now.log ≤ c.args.group = omega (arith, c.opened.ensures) in
    new_is_open (is_closed c.args.task.0 c.args.group c.args.ledger.now.log) c.args.group c.opened.result c.args.counts.opened (omega arith) (omega arith) (c.requires.at c.args.task.0 c.args.group here)
