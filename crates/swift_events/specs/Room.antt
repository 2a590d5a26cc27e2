-- How many tasks a run may still make, and what a turn is given (our own).
use Rattle.std.specs.Prelude.{◌≡◌, ℕ, ◌-◌, min, List, map, count_by, sum_by}
use Rattle.std.specs.List.{range_with_len}
use Rattle.swift_types.specs.declared.limits.TheConstants.{TASKS, MADE}
use Rattle.swift_types.specs.declared.id.TaskId.{TaskId}
use Rattle.swift_types.specs.declared.env.Env.{Env}
use Rattle.swift_escalation.specs.Waits.{IsPriority}
use Rattle.swift_events.specs.declared.event.Event.{Event}
use Rattle.swift_events.specs.declared.life.Life.{Life}
use Rattle.swift_events.specs.Events.{tasks_of}
use Rattle.swift_events.specs.Lives.{life_of, is_open, room_held}
use Rattle.swift_events.specs.Relations.{is_cancelled, links_of}

-- what a log says of each of the first `n` tasks
unfoldable pub lives_of : ℕ → List Event → List Life
lives_of n log = map (λ t. life_of t log) (range_with_len 0 n)

-- how many tasks were made and have not ended
abbrev pub open_of : ℕ → List Event → ℕ
open_of roots log = count_by is_open (lives_of (tasks_of roots log) log)

-- the room that is reserved for turns under way
abbrev pub reserved_of : ℕ → List Event → ℕ
reserved_of roots log = sum_by room_held (lives_of (tasks_of roots log) log)

-- How many tasks a turn of this task may make: at most 16, and no more than are left of 1,024 when those that there are and
-- the room of the other turns under way are taken off. What the task itself has reserved by a turn that begins again is free.
abbrev pub room_of : ℕ → ℕ → List Event → ℕ
room_of roots t log = min MADE (TASKS - tasks_of roots log - (reserved_of roots log - room_held (life_of t log)))

-- What a turn of a task is given: its priority, which is the greatest of those given to tasks from which it is reached along
-- children and waits; whether it is cancelled; and its room.
pub record IsEnv (roots : ℕ) (t : TaskId) (log : List Event) (env : Env) : Type 0 where
  pub priority : IsPriority (links_of log) t env.priority
  pub cancelled : env.cancelled ≡ is_cancelled t.0 log
  pub room : env.room ≡ room_of roots t.0 log
