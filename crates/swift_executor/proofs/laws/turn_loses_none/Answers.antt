use Rattle.swift_executor.proofs.AccountKept.{turned}
use Rattle.swift_executor.proofs.laws.turn_loses_none.Goals as goal

pub returns : goal.returns
returns c = turned
