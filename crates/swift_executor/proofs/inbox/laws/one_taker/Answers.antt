use Rattle.swift_executor.proofs.AccountIsKept.{one_takes, putter_takes_none, taker_puts_none}
use Rattle.swift_executor.proofs.inbox.laws.one_taker.Goals as goal

pub returns-clause-one : goal.returns-clause-one
returns-clause-one c = one_takes

pub returns-clause-takes : goal.returns-clause-takes
returns-clause-takes c = taker_puts_none

pub returns-clause-puts : goal.returns-clause-puts
returns-clause-puts c = putter_takes_none
