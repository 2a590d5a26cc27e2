-- How a turn that was played ahead is committed and taken back. No public clause names these.
use Rattle.std.specs.Prelude.{◌≡◌, ℕ, Bool, true, Some, List}
use Rattle.swift_types.specs.declared.env.Env.{Env}
use Rattle.swift_job.specs.Job.{JobView}
use Rattle.swift_turn.specs.Body.{BodyView}
use Rattle.swift_journal.specs.Records.{RecordView}
use Rattle.swift_history.specs.Jobs.{job_facts}
use Rattle.swift_history.specs.Orderly.{has_last_root}
use Rattle.swift_history.specs.TurnEnds.{JobFacts}
use Rattle.swift_course.specs.Views.{BookKnown}
use Rattle.swift_tasks.specs.Books.{BookView}
use Rattle.swift_shared_book.specs.Calls.{facts_of}
use Rattle.swift_shared_book.specs.Commits.{CommitsTurn, OnlyBegins}
use Rattle.swift_shared_book.specs.Shared.{BookLockView, IsInRun}
use Rattle.swift_shared_book.specs.declared.commits.Committed.{Committed}
use Rattle.swift_shared_book.specs.declared.commits.Committed.TheVariants as committed
use Rattle.swift_executor.specs.PlayedAheadInside.{IsCurrent}
use Rattle.swift_executor.specs.Seats.{HaveSeen}
use Rattle.swift_executor.specs.State.{before_turn}
use Rattle.swift_executor.specs.StateInside.{stage_of}
use Rattle.swift_executor.specs.declared.chosen.Chosen.{Chosen}
use Rattle.swift_executor.specs.declared.chosen.ChosenStage.{ChosenStage}
use Rattle.swift_executor.specs.declared.chosen.ChosenStage.TheVariants as stage
use Rattle.swift_executor.specs.declared.chosen.PlayedTurn.{PlayedTurn}

-- the turn was played in this environment
abbrev pub StageIs : Env → ChosenStage → Type 0
StageIs env (stage.Played worker env') = env ≡ env'
StageIs env _ = ⊥

-- the job is as it was when it was chosen, and its turn has begun in this environment on the worker that has played it
pub record RewindsJob (old new : Chosen) (p : PlayedTurn) (env : Env) (j : JobView BodyView) : Type 0 where
  pub worker : ℕ
  pub before : Env
  pub was : old.stage ≡ stage.Played worker before
  pub job : JobView BodyView
  pub same_job : job_facts job ≡ before_turn (stage_of p old.stage) j
  pub script_is : job.body.script ≡ j.body.script
  pub new_is : new ≡ record old { job = Some job; stage = stage.Begun worker env }

-- The book is one to which the run has come, by what the seat knew, and the levels are current by it. Where the turn begins in order, the
-- last root is there.
pub record IsThere (l : BookLockView) (levels : List ℕ) (j : JobView BodyView) (v : BookKnown) (was is : Bool) (b : BookView) : Type 0 where
  pub script_is : b.script ≡ l.script
  pub run : IsInRun v (facts_of b)
  pub front : HaveSeen b.log v
  pub current : IsCurrent b.log levels j.task
  pub order : is ≡ true → (was ≡ true) × (has_last_root b.script b.log ≡ true)

-- what was done in some such book, by the answer
abbrev pub CommitsHere : BookLockView → List ℕ → JobView BodyView → RecordView → List JobFacts → List JobFacts → BookKnown → BookKnown → Bool → Bool → Committed → Type 0
CommitsHere l levels j r jobs jobs' v w was is committed.Applied = (b : BookView) × IsThere l levels j v was is b × CommitsTurn b j r jobs jobs' v w
CommitsHere l levels j r jobs jobs' v w was is (committed.Begun env) = (b : BookView) × IsThere l levels j v was is b × OnlyBegins b j r env v w
CommitsHere l levels j r jobs jobs' v w was is committed.Refused = (w ≡ v) × (is ≡ true → was ≡ true)
