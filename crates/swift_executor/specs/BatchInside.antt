-- Several turns that are played before they begin, and committed by one lock of the book. No public clause names these.
use Rattle.std.specs.Prelude.{◌≡◌, ◌-◌, ◌<◌, ℕ, suc, Bool, true, Option, Some, None, List, [], ◌∷◌, drop, take}
use Rattle.swift_types.specs.declared.id.TaskId.{TaskId}
use Rattle.swift_types.specs.declared.env.Env.{Env}
use Rattle.swift_history.specs.TurnEnds.{JobFacts}
use Rattle.swift_course.specs.Views.{BookKnown}
use Rattle.swift_history.specs.Jobs.{job_facts}
use Rattle.swift_job.specs.Job.{JobView}
use Rattle.swift_turn.specs.Body.{BodyView}
use Rattle.swift_shared_book.specs.Shared.{BookLockView, BookSeatView, seat_of}
use Rattle.swift_shared_book.specs.declared.commits.Committed.{Committed}
use Rattle.swift_shared_book.specs.declared.commits.Committed.TheVariants as committed
use Rattle.swift_executor.specs.AsideInside.{IsShuffled, PlayAside, PlaysAside}
use Rattle.swift_executor.specs.Exec.{IsOf}
use Rattle.swift_executor.specs.Held.{GoesTogether, IsOfBook}
use Rattle.swift_executor.specs.PlayedAheadInside.{BeginsThere}
use Rattle.swift_executor.specs.State.{ChosenStageView, ChosenView, ExecStateView, before_turn, begun, played}
use Rattle.swift_executor.specs.Ready.{ReadyJobsView}
use Rattle.swift_executor.specs.Taken.{TakenView, taken_of}
use Rattle.swift_executor.specs.Visits.{HasBegun, RunsTurns}
use Rattle.swift_executor.specs.declared.aside.Aside.{Aside}

-- those from one place on, of this many
abbrev pub between : ℕ → ℕ → List Aside → List Aside
between from many asides = take (many - from) (drop from asides)

-- which worker has played a turn
abbrev pub IsPlayedOn : ℕ → ChosenStageView → Type 0
IsPlayedOn worker (played worker' env frame fields effects exit) = worker ≡ worker'
IsPlayedOn worker _ = ⊥

-- what the commits of a batch go on from: the state before its first turn, and the one after its last turn was played
pub record Batch : Type 0 where
  pub first : TakenView
  pub end : ExecStateView

-- These turns are aside, which were played from a state on in which no job was chosen; its seat has taken the book, and knows this. The levels
-- that were given are still the same.
pub record IsBatch (worker : ℕ) (b : BookLockView) (ready : ReadyJobsView BodyView) (knows : BookKnown) (order : Bool) (asides : List Aside) (g : Batch) : Type 0 where
  pub free : g.first.state.chosen ≡ None
  pub together : GoesTogether g.first
  pub script_is : b.script ≡ g.first.state.script
  pub seat_is : g.first.seat ≡ seat_of b knows
  pub order_is : g.first.is_orderly ≡ order
  pub levels : ready.levels ≡ g.first.state.ready.levels
  pub counted : ready.counted ≡ g.first.state.ready.counted
  pub plays : PlayAside worker g.first.state asides g.end

-- These turns are aside, which were played from a state on that a worker holds, with this seat of the book.
pub record StartsBatch (worker : ℕ) (b : BookLockView) (seat : BookSeatView) (order : Bool) (asides : List Aside) (end : ExecStateView) (r : TakenView) : Type 0 where
  pub free : r.state.chosen ≡ None
  pub together : GoesTogether r
  pub of_book : IsOfBook b r
  pub seat_is : r.seat ≡ seat
  pub order_is : r.is_orderly ≡ order
  pub plays : PlayAside worker r.state asides end

-- The job of the turn that was aside is the chosen one, as it was when it was chosen, and its turn has begun in this environment.
pub record RewindsTo (env : Env) (s new : ExecStateView) : Type 0 where
  pub back : ExecStateView
  pub shuffled : IsShuffled s back
  pub chosen : ChosenView
  pub at : s.chosen ≡ Some chosen
  pub worker : ℕ
  pub on : IsPlayedOn worker chosen.stage
  pub job : JobView BodyView
  pub same_job : job_facts job ≡ before_turn chosen.stage chosen.job
  pub new_is : new ≡ record back { chosen = Some (record { job = job; arrival = chosen.arrival; stage = begun worker env }) }

-- Of a batch so many turns were run, and then the state was so, in which no job is chosen, where its seat has taken the book and knows
-- this.
pub record HasRunSome (b : BookLockView) (worker n : ℕ) (last : TaskId) (jobs jobs' : List JobFacts) (r : TakenView) (knows : BookKnown) (order : Bool) (s : ExecStateView) : Type 0 where
  pub free : s.chosen ≡ None
  pub script_is : b.script ≡ s.script
  pub levels : (s.ready.levels ≡ r.state.ready.levels) × (s.ready.counted ≡ r.state.ready.counted)
  pub together : GoesTogether (taken_of s r.taker (seat_of b knows) order)
  pub runs : RunsTurns worker n last jobs jobs' r (taken_of s r.taker (seat_of b knows) order)

-- And then the book has begun the next one of these in this environment, which is not the one in which it was played, or has not taken it.
pub record BeginsNext (b : BookLockView) (worker n : ℕ) (last : TaskId) (jobs jobs' : List JobFacts) (g : Batch) (asides : List Aside) (env : Env) (knows : BookKnown) (order : Bool) : Type 0 where
  pub aside : Aside
  pub others : List Aside
  pub here : asides ≡ aside ∷ others
  pub state : ExecStateView
  pub knew : BookKnown
  pub was : Bool
  pub some : HasRunSome b worker n last jobs jobs' g.first knew was state
  pub next : ExecStateView
  pub plays : PlaysAside worker state aside next
  pub play : PlayAside worker next others g.end
  pub chosen : ChosenView
  pub at : plays.played.chosen ≡ Some chosen
  pub begins : BeginsThere plays.played.script plays.played.ready.levels knew chosen env knows was order

-- what was done with a batch: so many turns were run, and these asides are left, by how the commits have ended
abbrev pub CommitsEach : BookLockView → ℕ → ℕ → TaskId → List JobFacts → List JobFacts → Batch → List Aside → BookKnown → Bool → Committed → Type 0
CommitsEach b worker n last jobs jobs' g asides knows order committed.Applied = (s : ExecStateView) × HasRunSome b worker n last jobs jobs' g.first knows order s × IsShuffled s g.end
CommitsEach b worker n last jobs jobs' g asides knows order (committed.Begun env) = BeginsNext b worker n last jobs jobs' g asides env knows order
CommitsEach b worker n last jobs jobs' g asides knows order committed.Refused = (s : ExecStateView) × HasRunSome b worker n last jobs jobs' g.first knows order s × PlayAside worker s asides g.end

-- So many turns were run, the last of this task; and then the turn of a task has begun, or none has. What lies beside the state goes
-- together with it then.
abbrev pub RunsBatch : ℕ → ℕ → TaskId → Option TaskId → List JobFacts → List JobFacts → TakenView → TakenView → Type 0
RunsBatch worker n last None jobs jobs' old new = RunsTurns worker n last jobs jobs' old new × IsOf new.taker new.seat new.state
RunsBatch worker n last (Some task) jobs jobs' old new = (mid : TakenView) × RunsTurns worker n last jobs jobs' old mid × IsOf mid.taker mid.seat mid.state × HasBegun worker task mid new
