use Rattle.swift_workers.proofs.Prelude.{take, All, MayVisit}
use Rattle.swift_workers.proofs.pool.place_for.Given as goal

abbrev pub invariant-loop-place : goal.invariant-loop-place
invariant-loop-place l = All (λ t. MayVisit l.script l.workers l.worker t → ⊥) (take l.place l.tokens.items)
