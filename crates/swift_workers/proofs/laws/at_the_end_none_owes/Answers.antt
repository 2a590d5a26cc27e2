use Rattle.swift_workers.proofs.PoolLaws.{none_owes}
use Rattle.swift_workers.proofs.laws.at_the_end_none_owes.Goals as goal

pub returns : goal.returns
returns c = none_owes
