use Rattle.swift_workers.proofs.PoolCalls.{called_by, look_again_gives, room_now}
use Rattle.swift_workers.proofs.shared_pool.SharedPool.look.Goals as goal

pub next_at_look-next-requires : goal.next_at_look-next-requires
next_at_look-next-requires g c = room_now _ _ _ _ _ c.take-shelf.ensures c.deref_mut.ensures.value c.requires.owes.0 c.requires.owes.1

pub give-requires-clause-gives : goal.give-requires-clause-gives
give-requires-clause-gives g c =
    look_again_gives _ _ _ _ c.args.script.now c.args.workers _ c.deref_mut.result.now _ _ c.take-shelf.ensures c.deref_mut.ensures.value c.requires.crew c.requires.owes.0 c.requires.owes.1 c.next_at_look-next.ensures

pub returns : goal.returns
returns g c = called_by _ _ _ _ _ _ c.take-shelf.ensures c.give.ensures
