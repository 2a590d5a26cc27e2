use Rattle.swift_executor.proofs.Prelude.{◌≤◌, AreEmptyFrom}
use Rattle.swift_executor.proofs.queue.lists.highest_level.Given as goal

abbrev pub invariant-loop-level : goal.invariant-loop-level
invariant-loop-level g l = record { few : l.level ≤ 4; empty : AreEmptyFrom l.level l.lists }

abbrev pub decreases-loop-level : goal.decreases-loop-level
decreases-loop-level g l = l.level
