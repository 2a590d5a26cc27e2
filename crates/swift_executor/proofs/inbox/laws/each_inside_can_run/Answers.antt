use Rattle.swift_executor.proofs.AccountIsKept.{each_can_run}
use Rattle.swift_executor.proofs.inbox.laws.each_inside_can_run.Goals as goal

pub returns : goal.returns
returns c = each_can_run
