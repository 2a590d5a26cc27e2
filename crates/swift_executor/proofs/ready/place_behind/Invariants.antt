use Rattle.swift_executor.proofs.Prelude.{◌≢◌, take, All}
use Rattle.swift_executor.proofs.ready.place_behind.Given as goal

abbrev pub invariant-loop-place : goal.invariant-loop-place
invariant-loop-place g l = All (λ j. j.task ≢ l.task) (take l.place l.behind)
