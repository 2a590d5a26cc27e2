use Rattle.swift_workers.proofs.Prelude.{◌≡◌, rules}
use Rattle.swift_workers.proofs.PoolCalls.{new_starts}
use Rattle.swift_workers.proofs.shared_pool.SharedPool.new.Goals as goal

pub new-requires-3 : goal.new-requires-3
new-requires-3 c =
    let same : c.in-Ok.pool.value ≡ c.new.result = search rules in
    new_starts _ _ _ _ same c.new.ensures.tokens c.new.ensures.under_way c.new.ensures.halt
