use Rattle.swift_workers.proofs.PoolEnded.{leaves_nothing}
use Rattle.swift_workers.proofs.laws.who_ends_leaves_nothing.Goals as goal

pub returns : goal.returns
returns c = leaves_nothing
