-- Which tasks and waits priorities take.
use Rattle.std.specs.Prelude.{List}
use Rattle.swift_escalation.specs.Waits.{IsKnown}
use Rattle.swift_escalation.specs.declared.waits.PriorityEvent.{PriorityEvent}
use Rattle.swift_escalation.specs.declared.waits.PriorityEvent.TheVariants.{Root, Child, Free, Wait}

-- a new task, below a task that is known if it is a child; or a wait between tasks that are known
abbrev pub CanLink : List PriorityEvent → PriorityEvent → Type 0
CanLink events (Root t p) = IsKnown events t → ⊥
CanLink events (Child t owner p) = IsKnown events owner × (IsKnown events t → ⊥)
CanLink events (Free t p) = IsKnown events t → ⊥
CanLink events (Wait waiter awaited) = IsKnown events waiter × IsKnown events awaited
