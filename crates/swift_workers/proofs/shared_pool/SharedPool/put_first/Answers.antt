use Rattle.swift_workers.proofs.Prelude.{refl}
use Rattle.swift_workers.proofs.PoolCalls.{end_called, put_first_gives}
use Rattle.swift_workers.proofs.shared_pool.SharedPool.put_first.Goals as goal

pub give-requires-clause-gives : goal.give-requires-clause-gives
give-requires-clause-gives g c = put_first_gives _ _ _ _ c.deref_mut.result.now _ _ _ _ _ c.take-shelf.ensures c.deref_mut.ensures.value c.requires.owes c.end_turn-ended.ensures refl

pub returns : goal.returns
returns g c = let e = end_called _ _ _ _ _ _ _ _ _ _ _ c.take-shelf.ensures c.give.ensures c.end_turn-ended.ensures refl refl refl in (_, e.0, e.1, refl)
