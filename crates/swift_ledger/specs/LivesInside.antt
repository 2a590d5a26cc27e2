-- What is kept of each task by its number.
use Rattle.std.specs.Prelude.{◌≡◌, ℕ, ◌+◌, ◌≤◌, List, vec_len, vec_capacity}
use Rattle.swift_events.specs.declared.event.Event.{Event}
use Rattle.swift_events.specs.Events.{tasks_of}
use Rattle.swift_events.specs.Room.{lives_of, open_of, reserved_of}
use Rattle.swift_ledger.specs.declared.lives.Lives.{Lives}

-- the lives that a log gives, and what they sum up to
pub record AreLives (l : Lives) (roots : ℕ) (log : List Event) : Type 0 where
  pub lives : l.lives.items ≡ lives_of (tasks_of roots log) log
  pub open_tasks : l.open_tasks ≡ open_of roots log
  pub reserved : l.reserved ≡ reserved_of roots log

-- `n` more tasks find memory
abbrev pub HasSpare : Lives → ℕ → Type 0
HasSpare l n = vec_len l.lives + n ≤ vec_capacity l.lives
