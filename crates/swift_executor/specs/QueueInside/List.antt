-- The list of one priority: jobs that wait, in the order of arrival.
use Rattle.std.specs.Prelude.{◌≡◌, ℕ, ◌≤◌, ◌<◌, List, ◌∷◌, length, slice_index_or}
use Rattle.std.specs.List.{All, AllPairs}
use Rattle.std.specs.VecDeque.{deque_capacity}
use Rattle.std.specs.declared.collections.VecDeque.{VecDeque}
use Rattle.swift_types.specs.declared.id.TaskId.{TaskId}
use Rattle.swift_types.specs.Priority.{rank}
use Rattle.swift_executor.specs.declared.queue.waiting.Waiting.{Waiting}

-- each job arrived after those before it
abbrev pub IsByArrival : {B : Type 0} → List (Waiting B) → Type 0
IsByArrival jobs = AllPairs (λ x y. x.arrival < y.arrival) jobs

-- a job of the task, if one is inside, has this arrival number
abbrev pub HasArrival : {B : Type 0} → List (Waiting B) → TaskId → ℕ → Type 0
HasArrival jobs task arrival = All (λ x. x.job.task ≡ task → x.arrival ≡ arrival) jobs

-- x is the first of xs
pub record StartsWith {X : Type 0} (xs : List X) (x : X) : Type 0 where
  pub rest : List X
  pub is : xs ≡ x ∷ rest

-- the task's job stands at this place
pub record IsAtPlace {B : Type 0} (jobs : List (Waiting B)) (task : TaskId) (place : ℕ) : Type 0 where
  pub within : place < length jobs
  pub task_is : (d : Waiting B) → (slice_index_or jobs place d).job.task ≡ task

-- a list has room for all jobs, and its jobs are of its priority, in the order of arrival
pub record IsList {B Z : Type 0} (room level : ℕ) (list : VecDeque (Waiting B) Z) : Type 0 where
  pub made : room ≤ deque_capacity list
  pub by_arrival : IsByArrival list.items
  pub ranks : All (λ x. rank x.priority ≡ level) list.items
