use Rattle.swift_workers.proofs.Prelude.{refl}
use Rattle.swift_workers.proofs.PoolCalls.{may_split}
use Rattle.swift_workers.proofs.shared_pool.SharedPool.split.Goals as goal

pub split-requires-clause-rule : goal.split-requires-clause-rule
split-requires-clause-rule c = may_split _ _ _ c.requires.parts refl refl
