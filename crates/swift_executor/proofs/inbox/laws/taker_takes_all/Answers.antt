use Rattle.swift_executor.proofs.AccountIsKept.{taker_takes_all}
use Rattle.swift_executor.proofs.inbox.laws.taker_takes_all.Goals as goal

pub returns : goal.returns
returns c = taker_takes_all
