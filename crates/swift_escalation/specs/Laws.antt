-- A law of priorities (our own).
use Rattle.std.specs.Prelude.{◌≤◌, List, ◌++◌}
use Rattle.swift_types.specs.Priority.{rank}
use Rattle.swift_types.specs.declared.id.TaskId.{TaskId}
use Rattle.swift_types.specs.declared.priority.Priority.{Priority}
use Rattle.swift_escalation.specs.Waits.{IsPriority}
use Rattle.swift_escalation.specs.declared.waits.PriorityEvent.{PriorityEvent}

-- a task's priority never falls as events are added
abbrev pub NeverFalls : Type 0
NeverFalls = (events more : List PriorityEvent) (t : TaskId) (p q : Priority) → IsPriority events t p → IsPriority (events ++ more) t q → rank p ≤ rank q
