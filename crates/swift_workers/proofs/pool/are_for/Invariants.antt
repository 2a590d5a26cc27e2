use Rattle.swift_workers.proofs.Prelude.{take, All, MayVisit}
use Rattle.swift_workers.proofs.pool.are_for.Given as goal

abbrev pub invariant-loop-k : goal.invariant-loop-k
invariant-loop-k l = All (MayVisit l.script l.workers l.worker) (take l.k l.tokens.items)
