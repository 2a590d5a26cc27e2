-- Which job is picked, and what a raise changes (SE-0306; the order among equals and that a raise lasts are our own).
use Rattle.std.specs.Prelude.{◌≡◌, ◌≤◌, if◌then◌else◌, ◌&&◌, eqb, nat_lt}
use Rattle.swift_types.specs.declared.id.TaskId.{TaskId}
use Rattle.swift_types.specs.declared.priority.Priority.{Priority}
use Rattle.swift_types.specs.Priority.{rank}
use Rattle.swift_executor.specs.declared.queue.waiting.Waiting.{Waiting}

-- x is picked before y, or is y: it has the greater priority, or the same and arrived no later
abbrev pub PicksFirst : {B : Type 0} → Waiting B → Waiting B → Type 0
PicksFirst x y = (rank y.priority ≤ rank x.priority) × (rank y.priority ≡ rank x.priority → x.arrival ≤ y.arrival)

-- x arrived before y, or is y
abbrev pub IsOlder : {B : Type 0} → Waiting B → Waiting B → Type 0
IsOlder x y = x.arrival ≤ y.arrival

-- a job of the task has the priority p where its own was lower, and all else stays as it is
abbrev pub raised : {B : Type 0} → TaskId → Priority → Waiting B → Waiting B
raised task p x = if eqb x.job.task.0 task.0 && nat_lt (rank x.priority) (rank p) then record x { priority = p } else x
