use Rattle.swift_executor.proofs.Prelude.{arith}
use Rattle.swift_executor.proofs.RaiseChangesOne.{known_list}
use Rattle.swift_executor.proofs.queue.lists.find_below.Goals as goal

pub place_of-requires-clause-known : goal.place_of-requires-clause-known
place_of-requires-clause-known g c =
    let end = c.loop-lower.auto.lower-end in
    let four = c.requires.lists.1.four in
    known_list c.args.lists.now c.loop-lower.lower c.index-lists-lower.result c.args.task c.args.arrival (omega (arith, c.loop-lower-test.true, c.requires.level, four)) c.requires.known

pub loop-lower-init : goal.loop-lower-init
loop-lower-init g c = λ k d less. absurd (omega (arith, less))

pub place_of-requires-clause-by_arrival : goal.place_of-requires-clause-by_arrival
place_of-requires-clause-by_arrival g c =
    let lists = c.requires.lists.1 in
    let four = lists.four in
    let level = c.requires.level in
    let low = c.loop-lower-test.true in
    (lists.each c.loop-lower.lower c.index-lists-lower.result (omega (arith, four, level, low))).by_arrival
