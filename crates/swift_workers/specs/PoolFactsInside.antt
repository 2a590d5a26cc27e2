-- What the lock of a pool keeps of it.
use Rattle.swift_workers.specs.declared.pool.Pool.{Pool}
use Rattle.swift_workers.specs.Pools.{PoolFacts}

-- its tokens, how many workers are under way, and why the run is given up
abbrev pub facts_of : Pool → PoolFacts
facts_of p = record { tokens = p.tokens.items; under_way = p.under_way; halt = p.halt }
