use Rattle.swift_workers.proofs.Prelude.{refl}
use Rattle.swift_workers.proofs.PoolCalls.{is_held, named_unlocks, unlocked}
use Rattle.swift_workers.proofs.shared_pool.SharedPool.give_named.Goals as goal

pub unlock-requires-clause-holds : goal.unlock-requires-clause-holds
unlock-requires-clause-holds g c = is_held _ _ _ _ _ _ c.requires.gives

pub unlock-requires-clause-rule : goal.unlock-requires-clause-rule
unlock-requires-clause-rule g c = named_unlocks g.K.NamesCall.call _ _ _ _ _ _ _ c.requires.name c.requires.gives refl

pub returns : goal.returns
returns g c = unlocked g.K.NamesCall.call _ _ _ c.requires.name (is_held _ _ _ _ _ _ c.requires.gives) c.unlock.ensures.seat c.unlock.ensures.then
