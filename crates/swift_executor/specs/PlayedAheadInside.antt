-- Turns that are played before they begin, by what was given before. No public clause names these.
use Rattle.std.specs.Prelude.{◌≡◌, ℕ, ◌<◌, Bool, true, Some, List, ◌∷◌, All}
use Rattle.std.specs.List.Sorted.{IsPermutation}
use Rattle.swift_types.specs.declared.env.Env.{Env}
use Rattle.swift_types.specs.declared.id.TaskId.{TaskId}
use Rattle.swift_script.specs.Scripts.{ScriptView, executor_kind, root_count}
use Rattle.swift_events.specs.declared.event.Event.{Event}
use Rattle.swift_events.specs.Room.{IsEnv}
use Rattle.swift_job.specs.Job.{JobView}
use Rattle.swift_turn.specs.Body.{BodyView}
use Rattle.swift_journal.specs.Records.{RecordView}
use Rattle.swift_history.specs.Jobs.{job_facts}
use Rattle.swift_history.specs.Orderly.{has_last_root}
use Rattle.swift_history.specs.TurnEnds.{JobFacts}
use Rattle.swift_ledger.specs.Levels.{AreLevels}
use Rattle.swift_course.specs.Views.{BookKnown}
use Rattle.swift_tasks.specs.Books.{BookView}
use Rattle.swift_shared_book.specs.Calls.{facts_of}
use Rattle.swift_shared_book.specs.Shared.{BeginsTicket, BookSeatView, IsInRun, after_turn, knowing}
use Rattle.swift_executor.specs.Exec.{IsOf}
use Rattle.swift_executor.specs.Ready.{AreAtMost, ComesFirst, level_at, ready_job}
use Rattle.swift_executor.specs.Seats.{HaveSeen, IsSeatFor}
use Rattle.swift_executor.specs.State.{ChosenStageView, ChosenView, EndsTurn, ExecStateView, Plays, PutsBack, before_turn, begun, picked, played, record_of, takes_by_arrival}
use Rattle.swift_executor.specs.Taken.{TakenView}
use Rattle.swift_executor.specs.Visits.{HasBegun, HasStayed, RunsTurn}
use Rattle.swift_executor.specs.declared.committing.Ahead.{Ahead}
use Rattle.swift_executor.specs.declared.committing.Ahead.TheVariants as ahead

-- By the levels that were given before, the job that comes first was chosen.
pub record ChoosesAhead (old new : ExecStateView) (task : TaskId) : Type 0 where
  pub job : JobView BodyView
  pub arrival : ℕ
  pub first : All (ComesFirst (takes_by_arrival (executor_kind old.script old.executor)) old.ready.levels (ready_job job arrival)) old.ready.front
  pub task_is : job.task ≡ task
  pub rest : IsPermutation old.ready.front (ready_job job arrival ∷ new.ready.front)
  pub same : new ≡ record old { ready = record old.ready { front = new.ready.front }; chosen = Some (record { job = job; arrival = arrival; stage = picked }) }

-- These levels are those of a log, for all that counts: none that it gives is greater, and by it the task was made.
abbrev pub IsCurrent : List Event → List ℕ → TaskId → Type 0
IsCurrent log levels task = (given : List ℕ) × AreLevels log given × AreAtMost given levels × (0 < level_at given task)

-- the job that was picked, as if its turn had begun on this worker in this environment
abbrev pub begun_as : ExecStateView → ChosenView → ℕ → Env → ExecStateView
begun_as s c worker env = record s { chosen = Some (record c { stage = begun worker env }) }

-- From a state in which this job was picked, its turn was played as one that has begun on a worker in some environment.
pub record PlaysAhead (was : ExecStateView) (worker : ℕ) (c : ChosenView) (new : ExecStateView) : Type 0 where
  pub env : Env
  pub at : was.chosen ≡ Some c
  pub stage : c.stage ≡ picked
  pub plays : Plays (begun_as was c worker env) new (record c { stage = begun worker env })

-- so it was, and the seat is that of the executor as it was when the job was picked
pub record HasAhead (worker : ℕ) (seat : BookSeatView) (new : ExecStateView) : Type 0 where
  pub was : ExecStateView
  pub chosen : ChosenView
  pub plays : PlaysAhead was worker chosen new
  pub known : IsSeatFor was seat

-- The turn of the chosen job has begun in this environment, in a book to which the run has come, by what the seat knew, and of which the
-- levels that were given are current. What the seat knows then; and whether the executor's turns begin in order.
pub record BeginsThere (script : ScriptView) (levels : List ℕ) (knows : BookKnown) (c : ChosenView) (env : Env) (mid : BookKnown) (was_orderly is_orderly : Bool) : Type 0 where
  pub book : BookView
  pub script_is : book.script ≡ script
  pub run : IsInRun knows (facts_of book)
  pub front : HaveSeen book.log knows
  pub current : IsCurrent book.log levels c.job.task
  pub given : IsEnv (root_count book.script) c.job.task book.log env
  pub ticket : BeginsTicket book.log (has_last_root book.script book.log) (before_turn c.stage c.job) env knows mid
  pub order : is_orderly ≡ true → (was_orderly ≡ true) × (has_last_root book.script book.log ≡ true)

-- how far a job is whose turn was played, and in which environment
abbrev pub IsPlayedIn : Env → ChosenStageView → Type 0
IsPlayedIn env (played worker env' frame fields effects exit) = env' ≡ env
IsPlayedIn env _ = ⊥

-- It has begun in the environment in which it was played, and is journalled, and the seat's account has its record.
pub record AppliesThere (worker : ℕ) (task : TaskId) (jobs jobs' : List JobFacts) (seat seat' : BookSeatView) (was_orderly is_orderly : Bool) (old new : ExecStateView) (c : ChosenView) : Type 0 where
  pub env : Env
  pub was : IsPlayedIn env c.stage
  pub mid : BookSeatView
  pub same_lock : (mid.lock ≡ seat.lock) × (mid.here ≡ seat.here)
  pub begins : BeginsThere old.script old.ready.levels seat.knows c env mid.knows was_orderly is_orderly
  pub ends : EndsTurn mid.knows jobs jobs' old new
  pub record_is : (r : RecordView) × (record_of old.chosen ≡ Some r) × (seat' ≡ knowing (after_turn r mid.knows) mid)
  pub known : IsSeatFor new seat'
  pub task_is : task ≡ c.job.task

-- It has begun in another one, or the book did not take it: the job is as it was when it was chosen, and its turn has begun.
pub record BeginsElse (worker : ℕ) (task : TaskId) (seat seat' : BookSeatView) (was_orderly is_orderly : Bool) (old new : ExecStateView) (c : ChosenView) : Type 0 where
  pub env : Env
  pub same_lock : (seat'.lock ≡ seat.lock) × (seat'.here ≡ seat.here)
  pub begins : BeginsThere old.script old.ready.levels seat.knows c env seat'.knows was_orderly is_orderly
  pub job : JobView BodyView
  pub same_job : job_facts job ≡ before_turn c.stage c.job
  pub new_is : new ≡ record old { chosen = Some (record { job = job; arrival = c.arrival; stage = begun worker env }) }
  pub task_is : task ≡ c.job.task

-- It has not begun: the chosen job is ready again, and all else is as before.
pub record StaysThere (seat seat' : BookSeatView) (was_orderly is_orderly : Bool) (old new : ExecStateView) (c : ChosenView) : Type 0 where
  pub back : PutsBack old new c
  pub same : seat' ≡ seat
  pub order : is_orderly ≡ true → was_orderly ≡ true

-- what was done with a turn that was played ahead, by the answer
abbrev pub CommitsChosen : ℕ → List JobFacts → List JobFacts → BookSeatView → BookSeatView → Bool → Bool → ExecStateView → ExecStateView → Ahead → ChosenView → Type 0
CommitsChosen worker jobs jobs' seat seat' was is old new (ahead.Applied task) c = AppliesThere worker task jobs jobs' seat seat' was is old new c
CommitsChosen worker jobs jobs' seat seat' was is old new (ahead.Begun task) c = BeginsElse worker task seat seat' was is old new c
CommitsChosen worker jobs jobs' seat seat' was is old new ahead.Not c = StaysThere seat seat' was is old new c

-- No turn was run, and what lies beside the state still goes together with it.
pub record StaysWhole (old new : TakenView) : Type 0 where
  pub stays : HasStayed old new
  pub is_of : IsOf old.taker old.seat old.state → IsOf new.taker new.seat new.state

-- No turn was run, and then this was done.
pub record Afresh (P : TakenView → TakenView → Type 0) (old new : TakenView) : Type 0 where
  pub ready : TakenView
  pub whole : StaysWhole old ready
  pub does : P ready new

-- what was done with a state that a worker holds, by the answer
abbrev pub RunsAhead : ℕ → List JobFacts → List JobFacts → TakenView → TakenView → Ahead → Type 0
RunsAhead worker jobs jobs' old new (ahead.Applied task) = Afresh (RunsTurn worker task jobs jobs') old new
RunsAhead worker jobs jobs' old new (ahead.Begun task) = Afresh (HasBegun worker task) old new
RunsAhead worker jobs jobs' old new ahead.Not = StaysWhole old new

-- what is as before unless a turn was run
abbrev pub SameUnlessRun : {A : Type 0} → A → A → Ahead → Type 0
SameUnlessRun old new (ahead.Applied task) = Unit {0}
SameUnlessRun old new (ahead.Begun task) = new ≡ old
SameUnlessRun old new ahead.Not = new ≡ old
