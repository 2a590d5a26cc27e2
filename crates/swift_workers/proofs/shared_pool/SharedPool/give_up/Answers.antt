use Rattle.swift_workers.proofs.Prelude.{refl}
use Rattle.swift_workers.proofs.PoolCalls.{called_by, give_up_gives}
use Rattle.swift_workers.proofs.shared_pool.SharedPool.give_up.Goals as goal

pub give-requires-clause-gives : goal.give-requires-clause-gives
give-requires-clause-gives g c = give_up_gives _ _ _ _ c.deref_mut.result.now _ _ c.take-shelf.ensures c.deref_mut.ensures.value c.give_up.ensures.tokens c.give_up.ensures.under_way c.give_up.ensures.halt

pub returns : goal.returns
returns g c = (_, called_by _ _ _ _ _ _ c.take-shelf.ensures c.give.ensures, refl, refl, refl)
