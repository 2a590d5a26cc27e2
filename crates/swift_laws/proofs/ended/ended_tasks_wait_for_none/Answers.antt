use Rattle.swift_laws.proofs.OpenReports.{waits_for_none}
use Rattle.swift_laws.proofs.ended.ended_tasks_wait_for_none.Goals as goal

pub returns : goal.returns
returns c = waits_for_none
