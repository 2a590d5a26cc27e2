-- What holds of each log that a ledger has written.
use Rattle.std.specs.Prelude.{◌≡◌, ℕ, ◌+◌, ◌≤◌, Some, List, [], All}
use Rattle.swift_types.specs.declared.limits.TheConstants.{TASKS}
use Rattle.swift_events.specs.declared.event.Event.{Event}
use Rattle.swift_events.specs.Events.{events_of, tasks_of}
use Rattle.swift_events.specs.Relations.{own_tasks, waiters_of, parent_of}
use Rattle.swift_events.specs.Laws.{OwnersAreOlder}
use Rattle.swift_events.specs.Room.{reserved_of}
use Rattle.swift_ledger.specs.Ledgers.{IsMade}

pub record IsWellFormed (roots : ℕ) (log : List Event) : Type 0 where
  -- there is room for the tasks that there are, and for those that turns under way may make
  pub limit : tasks_of roots log + reserved_of roots log ≤ TASKS
  -- no event is of a number that is not taken
  pub beyond : (t : ℕ) → tasks_of roots log ≤ t → events_of t log ≡ []
  -- the owner of a child was made before it
  pub older : OwnersAreOlder log
  pub owners : (t : ℕ) (x : ℕ × ℕ) → parent_of t log ≡ Some x → IsMade log (record { 0 = x.0 })
  -- so were the tasks that a task has spawned or detached, and those that have waited for it
  pub own : (t : ℕ) → All (IsMade log) (own_tasks t log)
  pub waiters : (t : ℕ) → All (IsMade log) (waiters_of t log)
