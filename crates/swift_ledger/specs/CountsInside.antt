-- A count for each task.
use Rattle.std.specs.Prelude.{ℕ, ◌≤◌, slice_index_or, vec_capacity}
use Rattle.swift_types.specs.declared.limits.TheConstants.{TASKS}
use Rattle.swift_ledger.specs.declared.counts.TaskCounts.{TaskCounts}

-- the count of a task, by its number
abbrev pub count_at : TaskCounts → ℕ → ℕ
count_at c t = slice_index_or c.counts.items t 0

-- there is room for a place for each task that a run may have
abbrev pub HasPlaces : TaskCounts → Type 0
HasPlaces c = TASKS ≤ vec_capacity c.counts
