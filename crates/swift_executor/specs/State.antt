-- What an executor keeps, apart from threads, and what its calls do (SE-0392 for executors that run one job at a time, SE-0306
-- for the order by priority; the rest is our own).
use Rattle.std.specs.Prelude.{◌≡◌, ℕ, suc, ◌+◌, ◌<◌, ◌==◌, ℤ, Bool, true, false, IsTrue, if◌then◌else◌, Option, Some, None, IfSome, List, [], ◌∷◌, ◌++◌, Contains, All, length, map, replicate}
use Rattle.std.specs.List.Sorted.{IsPermutation}
use Rattle.swift_types.specs.declared.id.TaskId.{TaskId}
use Rattle.swift_types.specs.declared.limits.TheConstants.{FOLD, TASKS}
use Rattle.swift_types.specs.declared.executor_kind.ExecutorKind.{ExecutorKind}
use Rattle.swift_types.specs.declared.executor_kind.ExecutorKind.TheVariants as kind
use Rattle.script_code.specs.Tree.{Term}
use Rattle.script_code.specs.Value.{holds}
use Rattle.swift_types.specs.declared.env.Env.{Env}
use Rattle.swift_script.specs.Scripts.{ScriptView, actor_executor, executor_invariants, executor_kind, executor_start, method_actor, method_count, root_count}
use Rattle.swift_interpreter.specs.Frames.{FrameView}
use Rattle.swift_interpreter.specs.Turn.{EffectView, ExitView, returning, failing, head}
use Rattle.swift_turn.specs.Body.{BodyView, HasFirst, IsTurnOf, callers_of, left}
use Rattle.swift_job.specs.Job.{JobView}
use Rattle.swift_journal.specs.Checkpoints.{CheckpointView, folded_of, folds}
use Rattle.swift_journal.specs.Records.{RecordView}
use Rattle.swift_history.specs.Replay.{AreLawful, RunOn, replay}
use Rattle.swift_events.specs.declared.event.Event.{Event}
use Rattle.swift_events.specs.declared.event.Event.TheVariants.{Begin}
use Rattle.swift_events.specs.Room.{IsEnv}
use Rattle.swift_history.specs.TurnEnds.{JobFacts}
use Rattle.swift_course.specs.Views.{BookKnown}
use Rattle.swift_shared_book.specs.Calls.{facts_of}
use Rattle.swift_shared_book.specs.Shared.{IsInRun}
use Rattle.swift_tasks.specs.Books.{BookView, IsEndOf}
use Rattle.swift_history.specs.Jobs.{job_facts}
use Rattle.swift_ledger.specs.Levels.{AreLevels}
use Rattle.swift_tasks.specs.Refusals.{refusal_of_apply, refusal_of_begin}
use Rattle.swift_tasks.specs.declared.fault.BookFault.{BookFault}
use Rattle.swift_executor.specs.Ready.{AreHigher, CanRestore, ComesFirst, Forwards, ReadyJobsView, ReadyJob, level_at, ready_job}

-- How far the chosen job is: its turn has not begun; it has begun, on a worker and with what it was given; or it was played:
-- then there are the frame as it was before, and the fields, the effects and the exit that the turn has given.
pub data ChosenStageView : Type 0 where
  picked : ChosenStageView
  begun : ℕ → Env → ChosenStageView
  played : ℕ → Env → FrameView → List (List ℤ) → List EffectView → ExitView → ChosenStageView

-- the job that was chosen, with the number of its arrival
pub record ChosenView : Type 0 where
  pub job : JobView BodyView
  pub arrival : ℕ
  pub stage : ChosenStageView

-- An executor of a script, by its number: the jobs that are ready, the one that is chosen, the checkpoint and the turns since
-- then, and the fields of its actors, a list for each.
pub record ExecStateView : Type 0 where
  pub script : ScriptView
  pub executor : ℕ
  pub ready : ReadyJobsView BodyView
  pub chosen : Option ChosenView
  pub journal : List RecordView
  pub checkpoint : CheckpointView
  pub fields : List (List ℤ)

-- The job is one of the executor: its body is of the script and has not ended, and the frame that runs is of an actor that runs
-- there.
pub record BelongsTo (script : ScriptView) (executor : ℕ) (j : JobView BodyView) : Type 0 where
  pub script_is : j.body.script ≡ script
  pub top : HasFirst j.body.task.frames (λ f. actor_executor script (method_actor script f.method) ≡ executor)

-- what a turn that was played has given is the kept turn of the frame that ran, on these fields
abbrev pub HasPlayed : ScriptView → List (List ℤ) → JobView BodyView → ChosenStageView → Type 0
HasPlayed script fields j (played worker env frame fields' effects exit) =
    (frame.method < method_count script) × HasFirst j.body.task.frames (λ f. (f.method ≡ frame.method) × IsTurnOf script frame j.body.task.outer fields j.resume env f (left fields' effects exit))
HasPlayed script fields j _ = Unit {0}

-- how many jobs are chosen: 1 or 0
abbrev pub chosen_count : Option ChosenView → ℕ
chosen_count None = 0
chosen_count (Some c) = 1

-- how many jobs were accepted so far
abbrev pub accepted : ExecStateView → ℕ
accepted s = s.ready.arrived + length s.ready.behind

-- the tasks that have a job in front or chosen
abbrev pub leaders : List (ReadyJob BodyView) → Option ChosenView → List TaskId
leaders front None = map (λ x. x.job.task) front
leaders front (Some c) = c.job.task ∷ map (λ x. x.job.task) front

-- the chosen job belongs to the executor and may go back, and what it has played is its kept turn
pub record IsChosen (s : ExecStateView) (c : ChosenView) : Type 0 where
  pub belongs : BelongsTo s.script s.executor c.job
  pub restorable : CanRestore s.ready c.job.task c.arrival
  pub plays : HasPlayed s.script s.fields c.job c.stage

-- There are records of the turns that a checkpoint has: they are lawful from the start values on and of the executor's actors, and
-- the checkpoint's fields are their replay.
pub record HasPast (script : ScriptView) (executor : ℕ) (c : CheckpointView) : Type 0 where
  pub records : List RecordView
  pub folded : c.folded ≡ map folded_of records
  pub lawful : AreLawful script (executor_start script executor) records
  pub runs : RunOn script executor records
  pub replayed : c.fields ≡ replay script (executor_start script executor) records

-- What an executor keeps. The turns of its checkpoint were lawful (`HasPast`). Its journal is lawful from the checkpoint on, its
-- turns are of its actors, and replaying it gives the fields. Each invariant of its actors that held at the start holds of the
-- checkpoint's fields. As many jobs were accepted as
-- are ready, chosen and journalled together, those of the checkpoint too. Each job is one of the executor. And a job waits behind
-- only where one of its task is in front or chosen.
pub record ExecInvariant (s : ExecStateView) : Type 0 where
  pub past : HasPast s.script s.executor s.checkpoint
  pub lawful : AreLawful s.script s.checkpoint.fields s.journal
  pub replayed : s.fields ≡ replay s.script s.checkpoint.fields s.journal
  pub runs : RunOn s.script s.executor s.journal
  pub kept : (t : Term) → Contains (executor_invariants s.script s.executor) t → IsTrue (holds (Some t) (executor_start s.script s.executor)) → IsTrue (holds (Some t) s.checkpoint.fields)
  pub counted : accepted s ≡ length s.ready.front + length s.ready.behind + chosen_count s.chosen + length s.journal + length s.checkpoint.folded
  pub few : length s.journal < FOLD
  pub front : All (λ x. BelongsTo s.script s.executor x.job) s.ready.front
  pub behind : All (BelongsTo s.script s.executor) s.ready.behind
  pub led : All (λ j. Contains (leaders s.ready.front s.chosen) j.task) s.ready.behind
  pub chosen : IfSome s.chosen (IsChosen s)

-- an executor that has run no turn and has no job
abbrev pub new_executor : ScriptView → ℕ → ℕ → ExecStateView
new_executor script executor room = record {
  script = script;
  executor = executor;
  ready = record { front = []; behind = []; room = room; arrived = 0; levels = replicate TASKS 0; counted = 0 };
  chosen = None;
  journal = [];
  checkpoint = record { fields = executor_start script executor; folded = [] };
  fields = executor_start script executor;
}

-- whether an executor takes its jobs in the order of arrival alone
abbrev pub takes_by_arrival : ExecutorKind → Bool
takes_by_arrival kind.Priority = false
takes_by_arrival kind.Fifo = true
takes_by_arrival (kind.Pinned k) = false

-- Of the jobs in front, the one that comes first, where each counts at the greater of the level that the book gives its task and
-- of those that were given before.
pub record Picks (log : List Event) (old new : ExecStateView) (job : JobView BodyView) (arrival : ℕ) : Type 0 where
  pub given : List ℕ
  pub levels : AreLevels log given
  pub higher : AreHigher old.ready.levels given new.ready.levels
  pub first : All (ComesFirst (takes_by_arrival (executor_kind old.script old.executor)) new.ready.levels (ready_job job arrival)) old.ready.front

-- that job is chosen, and its task was made
pub record Chooses (log : List Event) (old new : ExecStateView) (task : TaskId) : Type 0 where
  pub job : JobView BodyView
  pub arrival : ℕ
  pub picks : Picks log old new job arrival
  pub task_is : job.task ≡ task
  pub known : 0 < level_at picks.given task
  pub rest : IsPermutation old.ready.front (ready_job job arrival ∷ new.ready.front)
  pub same : new ≡ record old { ready = record old.ready { front = new.ready.front; levels = new.ready.levels }; chosen = Some (record { job = job; arrival = arrival; stage = picked }) }

-- its task was not made by what the book says, and no job is chosen
pub record LacksTask (log : List Event) (old new : ExecStateView) : Type 0 where
  pub job : JobView BodyView
  pub arrival : ℕ
  pub picks : Picks log old new job arrival
  pub inside : Contains old.ready.front (ready_job job arrival)
  pub unknown : level_at picks.given job.task ≡ 0
  pub rest : IsPermutation old.ready.front new.ready.front
  pub same : new ≡ record old { ready = record old.ready { front = new.ready.front; levels = new.ready.levels } }

-- no job is ready
pub record HasNone (log : List Event) (old new : ExecStateView) : Type 0 where
  pub given : List ℕ
  pub levels : AreLevels log given
  pub higher : AreHigher old.ready.levels given new.ready.levels
  pub empty : (old.ready.front ≡ []) × (old.ready.behind ≡ [])
  pub same : new ≡ record old { ready = record old.ready { levels = new.ready.levels } }

-- the chosen job as it was when it was chosen
abbrev pub before_turn : ChosenStageView → JobView BodyView → JobFacts
before_turn (played worker env frame fields effects exit) j = record (job_facts j) { frames = record { frames = frame ∷ callers_of j.body.task.frames; outer = j.body.task.outer } }
before_turn _ j = job_facts j

-- The chosen job is ready again, with the number of its arrival and as it was when it was chosen. All else is as it was.
pub record PutsBack (old new : ExecStateView) (c : ChosenView) : Type 0 where
  pub job : JobView BodyView
  pub same_job : job_facts job ≡ before_turn c.stage c.job
  pub front : IsPermutation (ready_job job c.arrival ∷ old.ready.front) new.ready.front
  pub same : new ≡ record old { ready = record old.ready { front = new.ready.front }; chosen = None }

-- there is a chosen job, of which this holds
abbrev pub HasChosen : ExecStateView → (ChosenView → Type 0) → Type 0
HasChosen s P = (c : ChosenView) × (s.chosen ≡ Some c) × P c

-- the turn of the chosen job has not begun
abbrev pub IsPicked : ChosenStageView → Type 0
IsPicked picked = Unit {0}
IsPicked _ = ⊥

-- the turn of the chosen job has begun, and was not played
abbrev pub IsBegun : ChosenStageView → Type 0
IsBegun (begun worker env) = Unit {0}
IsBegun _ = ⊥

-- the turn of the chosen job was played
abbrev pub IsPlayed : ChosenStageView → Type 0
IsPlayed (played worker env frame fields effects exit) = Unit {0}
IsPlayed _ = ⊥

-- The turn of a job that was picked has begun on this worker: the book has begun it, and what it gave is kept.
pub record BeginsChosen (book book' : BookView) (worker : ℕ) (old new : ExecStateView) (c : ChosenView) : Type 0 where
  pub was : c.stage ≡ picked
  pub env : Env
  pub given : IsEnv (root_count book.script) c.job.task book.log env
  pub book_is : book' ≡ record book { log = book.log ++ Begin c.job.task c.job.number env ∷ [] }
  pub same : new ≡ record old { chosen = Some (record c { stage = begun worker env }) }

-- The turn of the chosen job has begun on this worker, in this book.
pub record BeginsTurn (book : BookView) (worker : ℕ) (old new : ExecStateView) : Type 0 where
  pub book_after : BookView
  pub turn : HasChosen old (BeginsChosen book book_after worker old new)

-- The turn was played: what is kept of it is the kept turn of the frame that ran, and the rest of the job is as it was.
pub record Plays (old new : ExecStateView) (c : ChosenView) : Type 0 where
  pub worker : ℕ
  pub env : Env
  pub was : c.stage ≡ begun worker env
  pub job : JobView BodyView
  pub frame : FrameView
  pub fields : List (List ℤ)
  pub effects : List EffectView
  pub exit : ExitView
  pub plays : HasPlayed old.script old.fields job (played worker env frame fields effects exit)
  pub same_job : before_turn (played worker env frame fields effects exit) job ≡ job_facts c.job
  pub script_is : job.body.script ≡ c.job.body.script
  pub same : new ≡ record old { chosen = Some (record { job = job; arrival = c.arrival; stage = played worker env frame fields effects exit }) }

-- of a task's frames, the one that runs after a turn that ended so, where it goes on
abbrev pub frame_after : ExitView → List FrameView → Option FrameView
frame_after (returning v) frames = None
frame_after (failing f) frames = None
frame_after _ frames = head frames

-- the record of a turn that was played
abbrev pub record_by : JobView BodyView → ℕ → Env → FrameView → List EffectView → ExitView → RecordView
record_by j worker env frame effects exit = record {
  task = j.task.0;
  number = j.number;
  worker = worker;
  frame = frame;
  outer = j.body.task.outer;
  resume = j.resume;
  env = env;
  exit = exit;
  effects = effects;
  after = frame_after exit j.body.task.frames;
}

-- a journal that gains a record, or is folded with it where it is then full
abbrev pub journal_with : List RecordView → RecordView → List RecordView
journal_with journal r = if suc (length journal) == FOLD then [] else journal ++ r ∷ []

-- the checkpoint once a journal gains record `r`, with the fields after it: where the journal is then full, it is folded
abbrev pub checkpoint_with : CheckpointView → List RecordView → RecordView → List (List ℤ) → CheckpointView
checkpoint_with c journal r fields = if suc (length journal) == FOLD then folds c (journal ++ r ∷ []) fields else c

-- The turn is journalled. The book is as the end of the turn leaves it, and the jobs that it makes come behind those that were
-- there. The fields are those that the turn gave, its record is the newest, no job is chosen, and a job of the task that has
-- waited behind this one comes to the front.
pub record Journals (book book' : BookView) (jobs jobs' : List JobFacts) (old new : ExecStateView) (c : ChosenView) : Type 0 where
  pub worker : ℕ
  pub env : Env
  pub frame : FrameView
  pub fields : List (List ℤ)
  pub effects : List EffectView
  pub exit : ExitView
  pub was : c.stage ≡ played worker env frame fields effects exit
  pub script_is : book'.script ≡ book.script
  pub ends : IsEndOf book jobs c.job effects exit book'.log book'.held jobs'
  pub forwards : Forwards old.ready c.job.task new.ready
  pub same : new ≡ record old {
    ready = new.ready;
    chosen = None;
    journal = journal_with old.journal (record_by c.job worker env frame effects exit);
    checkpoint = checkpoint_with old.checkpoint old.journal (record_by c.job worker env frame effects exit) fields;
    fields = fields;
  }

-- why the book does not begin the turn of the chosen job
abbrev pub refusal_to_begin : BookView → Option ChosenView → Option BookFault
refusal_to_begin book None = None
refusal_to_begin book (Some c) = refusal_of_begin book.script book.log c.job

-- why the book does not take the turn of this job, where it was played
abbrev pub refusal_of_stage : BookView → JobView BodyView → ChosenStageView → Option BookFault
refusal_of_stage book j (played worker env frame fields effects exit) = refusal_of_apply book.script book.log j effects exit
refusal_of_stage book j _ = None

-- why the book does not take the turn of the chosen job, where it was played
abbrev pub refusal_to_apply : BookView → Option ChosenView → Option BookFault
refusal_to_apply book None = None
refusal_to_apply book (Some c) = refusal_of_stage book c.job c.stage

-- The turn of the chosen job is journalled, and a book of an equal script has taken it, for which no refusal stands there. It is one
-- that the run has come to in which a seat knows this.
pub record EndsTurn (knows : BookKnown) (jobs jobs' : List JobFacts) (old new : ExecStateView) : Type 0 where
  pub book : BookView
  pub book_after : BookView
  pub book_of : book.script ≡ old.script
  pub run : IsInRun knows (facts_of book)
  pub allowed : refusal_to_apply book old.chosen ≡ None
  pub turn : HasChosen old (Journals book book_after jobs jobs' old new)

-- the fields of an actor, among those of these actors
abbrev pub fields_at : List ℕ → List (List ℤ) → ℕ → List ℤ
fields_at [] rows actor = []
fields_at (a ∷ others) [] actor = []
fields_at (a ∷ others) (row ∷ rows) actor = if a == actor then row else fields_at others rows actor

-- the record of the turn of this job, where it was played
abbrev pub record_at : JobView BodyView → ChosenStageView → Option RecordView
record_at j (played worker env frame fields effects exit) = Some (record_by j worker env frame effects exit)
record_at j _ = None

-- the record of the turn of the chosen job, where it was played
abbrev pub record_of : Option ChosenView → Option RecordView
record_of None = None
record_of (Some c) = record_at c.job c.stage

-- only the jobs have changed, those that are ready and the one that is chosen
abbrev pub OnlyJobs : ExecStateView → ExecStateView → Type 0
OnlyJobs old new = new ≡ record old { ready = new.ready; chosen = new.chosen }
