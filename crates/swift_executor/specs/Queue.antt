-- A queue as callers see it: a list of jobs, each with its priority and its arrival number (our own).
use Rattle.std.specs.Prelude.{◌≢◌, ℕ, ◌≤◌, ◌<◌, List, ◌∷◌, All, length}
use Rattle.std.specs.List.{AllPairs}
use Rattle.std.specs.List.Sorted.{IsPermutation}
use Rattle.swift_types.specs.declared.id.TaskId.{TaskId}
use Rattle.swift_types.specs.declared.priority.Priority.{Priority}
use Rattle.swift_job.specs.Job.{JobView}
use Rattle.swift_executor.specs.declared.queue.waiting.Waiting.{Waiting}

-- the jobs inside, in no order that means anything, the room for them, and how many were ever put
pub record QueueView (B : Type 0) : Type 0 where
  pub jobs : List (Waiting B)
  pub room : ℕ
  pub arrived : ℕ

-- a job that waits with this priority and arrival number
abbrev pub waiting : {B : Type 0} → JobView B → Priority → ℕ → Waiting B
waiting job p n = record { job = job; priority = p; arrival = n }

-- the job was inside with some priority, came before all others, and only it is gone
pub record TakesFirst {B : Type 0} (Comes : Waiting B → Waiting B → Type 0) (old : List (Waiting B)) (job : JobView B) (arrival : ℕ) (new : List (Waiting B)) : Type 0 where
  pub priority : Priority
  pub first : All (λ y. Comes (waiting job priority arrival) y) old
  pub rest : IsPermutation old (waiting job priority arrival ∷ new)

-- no job of the task is inside
abbrev pub IsWithout : {B : Type 0} → List (Waiting B) → TaskId → Type 0
IsWithout jobs task = All (λ x. x.job.task ≢ task) jobs

-- A job of the task may be added with this arrival number: there is room, the number was given before, and neither is inside. That the
-- number was this job's it does not say.
pub record IsRestorable {B : Type 0} (q : QueueView B) (task : TaskId) (arrival : ℕ) : Type 0 where
  pub room : length q.jobs < q.room
  pub below : arrival < q.arrived
  pub apart : All (λ x. x.arrival ≢ arrival) q.jobs
  pub without : IsWithout q.jobs task

-- what holds of every queue: no two jobs are of one task or arrived as one, and none arrived after the last
pub record IsOrderly {B : Type 0} (q : QueueView B) : Type 0 where
  pub few : length q.jobs ≤ q.room
  pub below : All (λ x. x.arrival < q.arrived) q.jobs
  pub arrivals : AllPairs (λ x y. x.arrival ≢ y.arrival) q.jobs
  pub tasks : AllPairs (λ x y. x.job.task ≢ y.job.task) q.jobs
