use Rattle.swift_laws.proofs.OpenReports.{reach_ended}
use Rattle.swift_laws.proofs.ended.ended_tasks_reach_only_ended_ones.Goals as goal

pub returns : goal.returns
returns c = reach_ended
