-- Priorities of tasks by what happened to them (SE-0304; that a wait raises children too, and that priorities never
-- fall, is our own).
use Rattle.std.specs.Prelude.{◌≡◌, ℕ, zero, suc, ◌-◌, ◌≤◌, ◌⊎◌, List, [], ◌∷◌, ◌++◌, Contains}
use Rattle.swift_types.specs.Priority.{rank}
use Rattle.swift_types.specs.declared.id.TaskId.{TaskId}
use Rattle.swift_types.specs.declared.priority.Priority.{Priority}
use Rattle.swift_escalation.specs.declared.waits.PriorityEvent.{PriorityEvent}
use Rattle.swift_escalation.specs.declared.waits.PriorityEvent.TheVariants.{Root, Child, Free, Wait}

-- the tasks that the events add, in order
abbrev pub tasks_of : List PriorityEvent → List TaskId
tasks_of [] = []
tasks_of (Root t p ∷ events) = t ∷ tasks_of events
tasks_of (Child t parent p ∷ events) = t ∷ tasks_of events
tasks_of (Free t p ∷ events) = t ∷ tasks_of events
tasks_of (Wait u t ∷ events) = tasks_of events

-- a task is known if some event adds it
abbrev pub IsKnown : List PriorityEvent → TaskId → Type 0
IsKnown events t = Contains (tasks_of events) t

-- an event gives the task this priority of its own
abbrev pub IsGiven : List PriorityEvent → TaskId → Priority → Type 0
IsGiven events t p = Contains events (Root t p) ⊎ Contains events (Free t p) ⊎ ((parent : TaskId) × Contains events (Child t parent p))

-- one task leads to another if that is its child, or if it waits for that
abbrev pub Leads : List PriorityEvent → TaskId → TaskId → Type 0
Leads events a b = ((p : Priority) × Contains events (Child b a p)) ⊎ Contains events (Wait a b)

-- from a one comes to b in n such steps
abbrev pub Reaches : List PriorityEvent → ℕ → TaskId → TaskId → Type 0
Reaches events zero a b = a ≡ b
Reaches events (suc n) a b = (m : TaskId) × Reaches events n a m × Leads events m b

-- a task's priority is the greatest of those that were given to tasks from which it is reached, itself included
pub record IsPriority (events : List PriorityEvent) (t : TaskId) (p : Priority) : Type 0 where
  pub given : (s : TaskId) × (n : ℕ) × IsGiven events s p × Reaches events n s t
  pub greatest : (s : TaskId) (n : ℕ) (q : Priority) → IsGiven events s q → Reaches events n s t → rank q ≤ rank p

-- the accepted calls as events, and how many more calls find memory for sure
pub record WaitsView : Type 0 where
  pub events : List PriorityEvent
  pub reserved : ℕ

-- one more event, for which one of the reserved calls was used
abbrev pub with_event : WaitsView → PriorityEvent → WaitsView
with_event w e = record { events = w.events ++ e ∷ []; reserved = w.reserved - 1 }
