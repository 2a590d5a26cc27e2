use Rattle.swift_workers.proofs.Prelude.{◌≡◌, rules}
use Rattle.swift_workers.proofs.PoolCalls.{halt_out, told_out}
use Rattle.swift_workers.proofs.shared_pool.SharedPool.into_halt.Goals as goal

pub returns-in-Some-clause-told : goal.returns-in-Some-clause-told
returns-in-Some-clause-told c =
    let same : c.halt.result ≡ c.in-Some.shelf.pool.value.halt = search rules in
    told_out c.args.seat.known c.in-Some.shelf c.halt.result same c.in-Some.ensures

pub returns-in-Some-clause-over : goal.returns-in-Some-clause-over
returns-in-Some-clause-over c =
    let same : c.halt.result ≡ c.in-Some.shelf.pool.value.halt = search rules in
    halt_out c.args.self.crew c.args.seat.known c.in-Some.shelf c.halt.result same c.requires.2 c.in-Some.ensures
