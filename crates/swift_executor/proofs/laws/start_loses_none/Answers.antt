use Rattle.swift_executor.proofs.AccountKept.{started}
use Rattle.swift_executor.proofs.laws.start_loses_none.Goals as goal

pub returns : goal.returns
returns c = started
