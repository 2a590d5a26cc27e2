-- The account of an executor (SE-0392 for jobs that run once; the account is our own): each job that it took is ready, chosen or
-- journalled, exactly one of these, as often as it was taken.
use Rattle.std.specs.Prelude.{◌≡◌, ℕ, ℤ, Option, Some, None, List, [], ◌∷◌, ◌++◌, map}
use Rattle.std.specs.List.Sorted.{IsPermutation}
use Rattle.swift_types.specs.declared.outcome.Resume.{Resume}
use Rattle.swift_interpreter.specs.Frames.{FrameView}
use Rattle.swift_interpreter.specs.Turn.{head}
use Rattle.swift_turn.specs.Body.{BodyView}
use Rattle.swift_journal.specs.Checkpoints.{CheckpointView, FoldedView}
use Rattle.swift_journal.specs.Records.{RecordView}
use Rattle.swift_history.specs.TurnEnds.{JobFacts}
use Rattle.swift_history.specs.Jobs.{job_facts}
use Rattle.swift_executor.specs.Ready.{ReadyJobsView}
use Rattle.swift_executor.specs.State.{ChosenView, ExecStateView, before_turn}

-- the jobs that are ready, in front and behind
abbrev pub ready_jobs : ReadyJobsView BodyView → List JobFacts
ready_jobs r = map (λ x. job_facts x.job) r.front ++ map job_facts r.behind

-- the job that is chosen, if there is one, as it was when it was chosen
abbrev pub chosen_jobs : Option ChosenView → List JobFacts
chosen_jobs None = []
chosen_jobs (Some c) = before_turn c.stage c.job ∷ []

-- What a record keeps of the job whose turn it is: the task, the number of the turn, what it begins with, the frame that runs, and
-- the bindings that stood when that frame began. The callers of that frame are not in it.
pub record SeenJob : Type 0 where
  pub task : ℕ
  pub number : ℕ
  pub resume : Resume
  pub frame : Option FrameView
  pub outer : List (ℕ × ℤ)

-- what the record of a job's turn keeps of the job
abbrev pub job_seen : JobFacts → SeenJob
job_seen j = record { task = j.task; number = j.number; resume = j.resume; frame = head j.frames.frames; outer = j.frames.outer }

-- what a record keeps of the job whose turn it is
abbrev pub record_seen : RecordView → SeenJob
record_seen r = record { task = r.task; number = r.number; resume = r.resume; frame = Some r.frame; outer = r.outer }

-- what is left of a job once its record was folded: the task, and the number of the turn
abbrev pub job_named : JobFacts → ℕ × ℕ
job_named j = (j.task, j.number)

-- what a folded turn keeps of the job whose turn it was: the task, and the number of the turn
abbrev pub folded_named : FoldedView → ℕ × ℕ
folded_named f = (f.task, f.number)

-- The jobs taken are a permutation of those that are not run yet, those of the records of a journal, and those whose records were
-- folded. A record is that of its job, and so is what is left of one.
pub record AreTaken (taken unrun : List JobFacts) (journal : List RecordView) (checkpoint : CheckpointView) : Type 0 where
  pub journalled : List JobFacts
  pub folded : List JobFacts
  pub all : IsPermutation taken (unrun ++ (journalled ++ folded))
  pub records : map job_seen journalled ≡ map record_seen journal
  pub past : map job_named folded ≡ map folded_named checkpoint.folded

-- An executor has taken these jobs: they are those that are ready, the chosen one as it was when it was chosen, and those that are
-- journalled.
abbrev pub HasTaken : List JobFacts → ExecStateView → Type 0
HasTaken taken s = AreTaken taken (ready_jobs s.ready ++ chosen_jobs s.chosen) s.journal s.checkpoint
