-- The priorities of all tasks in one list, a byte for each (our own).
use Rattle.std.specs.Prelude.{◌≡◌, ℕ, suc, ◌≤◌, ◌⊎◌, None, List, length, slice_index_or, take, IsSome}
use Rattle.swift_types.specs.Priority.{rank}
use Rattle.swift_types.specs.declared.id.TaskId.{TaskId}
use Rattle.swift_types.specs.declared.limits.TheConstants.{TASKS}
use Rattle.swift_types.specs.declared.priority.Priority.{Priority}
use Rattle.swift_escalation.specs.Waits.{IsPriority}
use Rattle.swift_events.specs.declared.event.Event.{Event}
use Rattle.swift_events.specs.Lives.{life_of}
use Rattle.swift_events.specs.Relations.{links_of}

-- the level of a task is one more than the number of its priority, and 0 where the task was not made
abbrev pub IsLevel : List Event → TaskId → ℕ → Type 0
IsLevel log t l = (((life_of t.0 log).origin ≡ None) × (l ≡ 0)) ⊎ ((p : Priority) × IsPriority (links_of log) t p × (l ≡ suc (rank p)) × IsSome (life_of t.0 log).origin)

-- the level of each task, by its number; one past the end was not made
pub record AreLevels (log : List Event) (levels : List ℕ) : Type 0 where
  pub each : (t : TaskId) → IsLevel log t (slice_index_or levels t.0 0)
  pub few : length levels ≤ TASKS

-- the levels are as they were when the log had this many events, or more
abbrev pub HaveStayed : List Event → ℕ → Type 0
HaveStayed log n = (k : ℕ) → n ≤ k → (levels : List ℕ) → AreLevels (take k log) levels → AreLevels log levels
