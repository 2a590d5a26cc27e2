-- Laws of logs (SE-0304; that a run has 1,024 tasks at most, and that priorities never fall, is our own). Each stands on the
-- contract of a function of `laws`.
use Rattle.std.specs.Prelude.{◌≡◌, ℕ, ◌+◌, ◌≤◌, Some, List, [], ◌∷◌, ◌++◌}
use Rattle.swift_types.specs.declared.limits.TheConstants.{TASKS}
use Rattle.swift_types.specs.declared.id.TaskId.{TaskId}
use Rattle.swift_types.specs.declared.outcome.Ending.{Ending}
use Rattle.swift_types.specs.declared.priority.Priority.{Priority}
use Rattle.swift_types.specs.Priority.{rank}
use Rattle.swift_escalation.specs.Waits.{IsPriority}
use Rattle.swift_events.specs.declared.event.Event.{Event}
use Rattle.swift_events.specs.Events.{tasks_of}
use Rattle.swift_events.specs.Lives.{life_of}
use Rattle.swift_events.specs.Relations.{links_of}
use Rattle.swift_events.specs.Room.{reserved_of}
use Rattle.swift_ledger.specs.Ledgers.{CanNote}

-- each of these events may stand at its place after the log
abbrev pub CanNoteAll : ℕ → List Event → List Event → Type 0
CanNoteAll roots log [] = Unit {0}
CanNoteAll roots log (e ∷ es) = CanNote roots log e × CanNoteAll roots (log ++ e ∷ []) es

-- A task ends at most once: with whatever a run goes on, its ending stays.
abbrev pub EndsOnce : Type 0
EndsOnce = (roots t : ℕ) (ending : Ending) (log more : List Event) → (life_of t log).ending ≡ Some ending → CanNoteAll roots log more → (life_of t (log ++ more)).ending ≡ Some ending

-- With what turns under way may still make, a run never has more than 1,024 tasks.
abbrev pub StaysWithinRoom : Type 0
StaysWithinRoom = (roots : ℕ) (log : List Event) → roots ≤ TASKS → CanNoteAll roots [] log → tasks_of roots log + reserved_of roots log ≤ TASKS

-- A task's priority never falls along a log.
abbrev pub PrioritiesNeverFall : Type 0
PrioritiesNeverFall = (log more : List Event) (t : TaskId) (p q : Priority) → IsPriority (links_of log) t p → IsPriority (links_of (log ++ more)) t q → rank p ≤ rank q
