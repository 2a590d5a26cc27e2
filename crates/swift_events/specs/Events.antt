-- What one event says. A log has the oldest event first.
use Rattle.std.specs.Prelude.{ℕ, ◌+◌, Bool, true, false, ◌==◌, Option, Some, None, List, [], ◌∷◌, filter, count_by}
use Rattle.swift_events.specs.declared.event.Event.{Event}
use Rattle.swift_events.specs.declared.event.Event.TheVariants.{Root, Begin, Apply, Free, Open, Child, Skip, CancelTask, CancelGroup, Wait, Next, Close, End, Give}

-- the task that an event is of
abbrev pub task_of : Event → ℕ
task_of (Root t p) = t.0
task_of (Begin t n env) = t.0
task_of (Apply t n) = t.0
task_of (Free t by p detached) = t.0
task_of (Open o g) = o.0
task_of (Child t o g p) = t.0
task_of (Skip o g) = o.0
task_of (CancelTask t) = t.0
task_of (CancelGroup o g) = o.0
task_of (Wait t awaited) = t.0
task_of (Next o g) = o.0
task_of (Close o g) = o.0
task_of (End t ending) = t.0
task_of (Give t n resume) = t.0

-- the events of a task, in order
abbrev pub events_of : ℕ → List Event → List Event
events_of t log = filter (λ e. task_of e == t) log

-- whether an event makes a task that is no root
abbrev pub is_made : Event → Bool
is_made (Free t by p detached) = true
is_made (Child t o g p) = true
is_made _ = false

-- How many numbers of tasks are taken: those of the script's roots, whether they were added or not, and those of the tasks
-- that were made since.
abbrev pub tasks_of : ℕ → List Event → ℕ
tasks_of roots log = roots + count_by is_made log

-- the later of two sayings
abbrev pub later : {A : Type 0} → Option A → Option A → Option A
later (Some x) before = Some x
later None before = before

-- what the last event says of those that say something
abbrev pub last_of : {A : Type 0} → (Event → Option A) → List Event → Option A
last_of says [] = None
last_of says (e ∷ es) = later (last_of says es) (says e)
