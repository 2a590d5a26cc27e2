use Rattle.swift_ledger.proofs.Prelude.{◌-◌, ◌<◌, ◌≤◌, vec_len, slice_index_or, vec_capacity, TASKS, TaskId, IsLevel}
use Rattle.std.specs.Prelude.{length}
use Rattle.swift_ledger.proofs.levels.fill_from.Given as goal

abbrev pub invariant-fill : goal.invariant-fill
invariant-fill l = record {
  each : (t : TaskId) → t.0 < length l.levels.items → IsLevel l.log.events t (slice_index_or l.levels.items t.0 0);
  few : vec_len l.levels ≤ l.tasks;
  room : TASKS ≤ vec_capacity l.levels;
}

abbrev pub decreases-fill : goal.decreases-fill
decreases-fill l = l.tasks - vec_len l.levels
