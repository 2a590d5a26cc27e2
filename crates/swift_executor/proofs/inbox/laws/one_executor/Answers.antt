use Rattle.swift_executor.proofs.AccountIsKept.{one_site}
use Rattle.swift_executor.proofs.inbox.laws.one_executor.Goals as goal

pub returns : goal.returns
returns c = one_site
