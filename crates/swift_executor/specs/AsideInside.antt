-- Turns that were played and journalled, and that no book has taken yet. No public clause names these.
use Rattle.std.specs.Prelude.{◌≡◌, ◌≢◌, ◌<◌, ℕ, ℤ, Some, None, List, All, length, map, [], ◌∷◌}
use Rattle.std.specs.List.Sorted.{IsPermutation}
use Rattle.swift_types.specs.declared.limits.TheConstants.{FOLD}
use Rattle.swift_types.specs.declared.id.TaskId.{TaskId}
use Rattle.swift_interpreter.specs.Saved.{restored}
use Rattle.swift_turn.specs.Body.{BodyView}
use Rattle.swift_job.specs.Job.{JobView}
use Rattle.swift_history.specs.Jobs.{job_facts}
use Rattle.swift_history.specs.TurnEnds.{JobFacts}
use Rattle.swift_executor.specs.FieldsInside.{FieldsAre}
use Rattle.swift_executor.specs.PlayedAheadInside.{ChoosesAhead, PlaysAhead}
use Rattle.swift_executor.specs.PlayingInside.{StageIsPlayed, WritesRecord}
use Rattle.swift_executor.specs.Ready.{ReadyJob}
use Rattle.swift_executor.specs.State.{BelongsTo, ChosenView, ExecInvariant, ExecStateView}
use Rattle.swift_executor.specs.StateInside.{chosen_view}
use Rattle.swift_executor.specs.declared.aside.Aside.{Aside}
use Rattle.swift_executor.specs.declared.chosen.ChosenStage.{ChosenStage}
use Rattle.swift_executor.specs.declared.chosen.PlayedTurn.{PlayedTurn}
use Rattle.swift_journal.specs.Records.{RecordView}

-- what is aside, as a turn that was played on fields that are so
abbrev pub played_on : Aside → FieldsAre → PlayedTurn
played_on a fields = record { frame = a.frame; fields = fields; effects = a.effects; exit = a.exit }

-- In this state its job was chosen, and its turn was played. What is aside is that job with what the turn has left; the rows that the
-- turn has set, as they were; and the journal with its record, which was not full. No other job of its task was there.
pub record IsAside (s : ExecStateView) (a : Aside) : Type 0 where
  pub after : List (List ℤ)
  pub job : JobView BodyView
  pub place : a.chosen.job ≡ Some job
  pub chosen_is : s.chosen ≡ Some (chosen_view (played_on a (record { before = s.fields; after = after })) a.chosen.arrival a.chosen.stage job)
  pub played : StageIsPlayed a.chosen.stage
  pub back : restored a.saved after ≡ s.fields
  pub written : WritesRecord (played_on a (record { before = s.fields; after = after })) a.chosen.stage job s.journal a.written.value
  pub few : length a.written.value < FOLD
  pub alone : All (λ j. j.task ≢ job.task) s.ready.behind

-- the state after a turn that is aside
abbrev pub after_aside : (s : ExecStateView) (a : Aside) → IsAside s a → ExecStateView
after_aside s a is = record s { chosen = None; journal = a.written.value; fields = is.after }

-- the turn that was played was set aside
pub record SetsAside (old new : ExecStateView) (a : Aside) : Type 0 where
  pub is : IsAside old a
  pub new_is : new ≡ after_aside old a is

-- what is seen of a ready job, whose body may be another one in its place
abbrev pub seen_ready : ReadyJob BodyView → JobFacts × ℕ
seen_ready x = (job_facts x.job, x.arrival)

-- Only the jobs in front are others, which are seen the same, in some order; and they are of the executor.
pub record IsShuffled (old new : ExecStateView) : Type 0 where
  pub front : IsPermutation (map seen_ready old.ready.front) (map seen_ready new.ready.front)
  pub belongs : All (λ x. BelongsTo old.script old.executor x.job) new.ready.front
  pub same : new ≡ record old { ready = record old.ready { front = new.ready.front } }

-- The turn is aside, of a state that was right; since then only jobs in front have become others.
pub record WasAside (s : ExecStateView) (a : Aside) (now : ExecStateView) : Type 0 where
  pub keeps : ExecInvariant s
  pub is : IsAside s a
  pub shuffled : IsShuffled (after_aside s a is) now

-- No job was chosen. By the levels that were given before, one was chosen in this state, its turn was played on this worker, and is aside;
-- and then the state was so.
pub record PlaysAside (worker : ℕ) (s : ExecStateView) (a : Aside) (next : ExecStateView) : Type 0 where
  pub free : s.chosen ≡ None
  pub task : TaskId
  pub picked : ExecStateView
  pub chooses : ChoosesAhead s picked task
  pub chosen : ChosenView
  pub played : ExecStateView
  pub plays : PlaysAhead picked worker chosen played
  pub keeps : ExecInvariant played
  pub sets : SetsAside played next a

-- So it was with each of these turns in turn, from the first on; and then only jobs in front were others.
abbrev pub PlayAside : ℕ → ExecStateView → List Aside → ExecStateView → Type 0
PlayAside worker s [] new = IsShuffled s new
PlayAside worker s (a ∷ others) new = (next : ExecStateView) × PlaysAside worker s a next × PlayAside worker next others new

-- no turn is aside there
abbrev pub IsFree : Aside → Type 0
IsFree a = a.chosen.job ≡ None

-- the record of a turn that was played is written, the journal is not full, and no job of the task waits behind
pub record IsWritten (behind : List (JobView BodyView)) (p : PlayedTurn) (stage : ChosenStage) (old new : List RecordView) (j : JobView BodyView) : Type 0 where
  pub written : WritesRecord p stage j old new
  pub few : length new < FOLD
  pub alone : All (λ k. k.task ≢ j.task) behind
