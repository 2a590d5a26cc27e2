use Rattle.swift_laws.proofs.OpenReports.{waiters_go_on}
use Rattle.swift_laws.proofs.ended.waiting_tasks_go_on_after_the_awaited.Goals as goal

pub returns : goal.returns
returns c = waiters_go_on
