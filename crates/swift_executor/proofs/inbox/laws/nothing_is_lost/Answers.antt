use Rattle.swift_executor.proofs.AccountIsKept.{none_lost}
use Rattle.swift_executor.proofs.inbox.laws.nothing_is_lost.Goals as goal

pub returns : goal.returns
returns c = none_lost
