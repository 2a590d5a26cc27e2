use Rattle.swift_workers.proofs.Prelude.{refl}
use Rattle.swift_workers.proofs.PoolCalls.{end_called, refused_stops, room_after, turn_over_gives}
use Rattle.swift_workers.proofs.shared_pool.SharedPool.turn_over.Goals as goal

pub next_after-next-requires : goal.next_after-next-requires
next_after-next-requires g c = room_after _ _ _ _ _ _ _ _ _ c.take-shelf.ensures c.deref_mut-pool.ensures.value c.requires.owes c.end_turn-ended.ensures

pub give-requires-clause-gives : goal.give-requires-clause-gives
give-requires-clause-gives g c =
    turn_over_gives _ _ _ _ c.args.script.now c.args.workers _ c.deref_mut-pool.result.now _ _ _ _ _ _ _ c.take-shelf.ensures c.deref_mut-pool.ensures.value c.requires.crew c.requires.owes c.end_turn-ended.ensures refl c.next_after-next.ensures

pub returns-clause-called : goal.returns-clause-called
returns-clause-called g c = let e = end_called _ _ _ _ _ _ _ _ _ _ _ c.take-shelf.ensures c.give.ensures c.end_turn-ended.ensures refl refl refl in (_, e.0, e.1, refl, refl)

pub returns-clause-refused : goal.returns-clause-refused
returns-clause-refused g c = refused_stops _ _ _ _ _ _ _ _ _ _ c.end_turn-ended.ensures c.next_after-next.ensures
