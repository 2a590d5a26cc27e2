-- The arrival numbers of the jobs, by task.
use Rattle.std.specs.Prelude.{ℕ, ◌<◌, IfNone, IfSome, List, None, Option, length, slice_index_or}
use Rattle.swift_types.specs.declared.id.TaskId.{TaskId}
use Rattle.swift_executor.specs.Queue.{IsWithout}
use Rattle.swift_executor.specs.QueueInside.List.{HasArrival}
use Rattle.swift_executor.specs.declared.queue.waiting.Waiting.{Waiting}

-- what is noted of a task is the arrival number of its job, if one is inside
pub record IsArrivalOf {B : Type 0} (noted : Option ℕ) (jobs : List (Waiting B)) (task : TaskId) : Type 0 where
  pub none : IfNone noted (IsWithout jobs task)
  pub some : IfSome noted (HasArrival jobs task)
  pub inside : IfSome noted (λ _. IsWithout jobs task → ⊥)

-- this is so of each task of which something is noted
abbrev pub AreArrivals : {B : Type 0} → List (Option ℕ) → List (Waiting B) → Type 0
AreArrivals noted jobs = (t : ℕ) → t < length noted → IsArrivalOf (slice_index_or noted t None) jobs (record { 0 = t })
