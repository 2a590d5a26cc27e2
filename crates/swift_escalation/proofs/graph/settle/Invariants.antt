use Rattle.swift_escalation.proofs.Prelude.{◌+◌, ◌≤◌, vec_capacity, vec_len, rank, below, Settling, IsOpen}
use Rattle.swift_escalation.proofs.graph.settle.Given as goal

abbrev pub invariant-loop-task : goal.invariant-loop-task
invariant-loop-task l = record {
  settling : Settling l.edges l.start (rank l.fn.level) l.fn.levels l.levels;
  todo : IsOpen l.edges l.start (rank l.fn.level) l.levels l.raised.items;
  room : vec_len l.raised + below (rank l.fn.level) l.levels ≤ vec_capacity l.raised;
  capacity : vec_capacity l.initial.raised ≤ vec_capacity l.raised;
}

abbrev pub decreases-loop-task : goal.decreases-loop-task
decreases-loop-task l = vec_len l.raised + below (rank l.fn.level) l.levels
