use Rattle.swift_workers.proofs.Prelude.{subst, List, Hand, AreHandsOf}
use denote.Param.Send.{sendable}
use Rattle.swift_workers.proofs.CrossesThreads.{crew_send, hand_send, pool_seat_send}
use Rattle.swift_workers.proofs.Desks.{last_hand}
use Rattle.swift_workers.proofs.PoolCalls.{own_seat}
use Rattle.swift_workers.proofs.whole.fn.start.scope.Goals as goal

pub spawn-spawned-requires-send-F : goal.spawn-spawned-requires-send-F
spawn-spawned-requires-send-F g c κs within = search (sendable, crew_send, hand_send, pool_seat_send) depth 20

pub spawn-spawned-requires-after_bounds : goal.spawn-spawned-requires-after_bounds
spawn-spawned-requires-after_bounds g c κs within =
    let b = c.captures.crew.book.now in
    let execs = c.captures.crew.execs.now in
    let hand = last_hand b execs c.pop.new.self.items c.in-Some.hand (subst (λ (hs : List Hand). AreHandsOf b execs hs) c.in-Some.ensures.items c.loop-hand.invariant.others) in
    let own = own_seat c.captures.crew.pool.now c.loop-hand.place c.split-own.result c.loop-hand.invariant.place c.split-own.ensures.new in
    (c.requires.sites, (c.requires.script, (hand, (c.requires.pool, (own.0, (own.1, own.2))))))
