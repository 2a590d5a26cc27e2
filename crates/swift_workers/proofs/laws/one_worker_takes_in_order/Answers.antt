use Rattle.swift_workers.proofs.PoolLaws.{in_order}
use Rattle.swift_workers.proofs.laws.one_worker_takes_in_order.Goals as goal

pub returns : goal.returns
returns c = in_order
