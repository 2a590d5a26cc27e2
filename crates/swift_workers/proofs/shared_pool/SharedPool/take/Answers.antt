use Rattle.swift_workers.proofs.PoolCalls.{finds, taken_is}
use Rattle.swift_workers.proofs.shared_pool.SharedPool.take.Goals as goal

pub lock-requires-clause-rule : goal.lock-requires-clause-rule
lock-requires-clause-rule g c = finds _

pub returns : goal.returns
returns g c = taken_is c.args.self.now c.args.seat.now c.lock.new.seat c.lock.result c.requires c.lock.ensures.held c.lock.ensures.fact
