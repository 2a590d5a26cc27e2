use Rattle.swift_workers.proofs.PoolLaws.{cause_stays}
use Rattle.swift_workers.proofs.laws.first_cause_stays.Goals as goal

pub returns : goal.returns
returns c = cause_stays
