use Rattle.swift_workers.proofs.PoolEnded.{holds_nothing}
use Rattle.swift_workers.proofs.laws.who_sleeps_holds_nothing.Goals as goal

pub returns : goal.returns
returns c = holds_nothing
