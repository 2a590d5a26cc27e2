use Rattle.swift_executor.proofs.AccountKept.{accepted}
use Rattle.swift_executor.proofs.laws.accept_takes_one.Goals as goal

pub returns : goal.returns
returns c = accepted
