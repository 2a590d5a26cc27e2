use Rattle.swift_executor.proofs.Prelude.{◌+◌, ◌≤◌, ◌++◌, length, map, IsPermutation}
use Rattle.std.specs.Vec.{vec_capacity, vec_len}
use Rattle.swift_executor.proofs.ready.empty_into.Given as goal

abbrev pub invariant-empty : goal.invariant-empty
invariant-empty g l =
    IsPermutation (l.initial.jobs.items ++ map (λ w. w.job) l.initial.queue.jobs) (l.jobs.items ++ map (λ w. w.job) l.queue.jobs) × (vec_len l.jobs + length l.queue.jobs ≤ vec_capacity l.jobs)

abbrev pub decreases-empty : goal.decreases-empty
decreases-empty g l = length l.queue.jobs
