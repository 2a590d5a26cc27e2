-- How a job is played and put back. No public clause names these.
use Rattle.std.specs.Prelude.{◌≡◌, ◌<◌, ◌≤◌, ℕ, ℤ, Bool, Option, Some, None, List, [], ◌∷◌, ◌++◌, length, map}
use Rattle.std.specs.declared.vec.Vec.{Vec}
use Rattle.std.specs.declared.alloc.Global.{Global}
use Rattle.script_code.specs.Seen.{rows_of}
use Rattle.swift_types.specs.declared.env.Env.{Env}
use Rattle.swift_types.specs.declared.limits.TheConstants.{FOLD}
use Rattle.swift_types.specs.declared.outcome.Resume.{Resume}
use Rattle.swift_interpreter.specs.Frames.{effect_views, frame_view}
use Rattle.swift_interpreter.specs.TurnStates.{exit_view}
use Rattle.swift_turn.specs.Body.{BodyView, HasFirst, IfRunning, Polls, entered, invariants_at, left}
use Rattle.swift_undo.specs.Laws.{AllHold}
use Rattle.swift_undo.specs.Rows.{HaveRows}
use Rattle.swift_job.specs.Job.{JobView}
use Rattle.swift_journal.specs.Checkpoints.{CheckpointRoomView, folded_of, folds}
use Rattle.swift_journal.specs.Records.{RecordView}
use Rattle.swift_executor.specs.declared.chosen.Chosen.{Chosen}
use Rattle.swift_executor.specs.declared.chosen.PlayedTurn.{PlayedTurn}
use Rattle.swift_events.specs.declared.event.Event.{Event}
use Rattle.swift_events.specs.Room.{IsEnv}
use Rattle.swift_executor.specs.declared.chosen.ChosenStage.{ChosenStage}
use Rattle.swift_executor.specs.declared.chosen.ChosenStage.TheVariants as stage
use Rattle.swift_interpreter.specs.Turn.{EffectView, ExitView}
use Rattle.swift_history.specs.TurnEnds.{JobFacts}
use Rattle.swift_course.specs.Views.{BookKnown}
use Rattle.swift_script.specs.Scripts.{ScriptView, method_count, root_count}
use Rattle.swift_shared_book.specs.Calls.{facts_of}
use Rattle.swift_shared_book.specs.Shared.{BeginsTicket, IsInRun}
use Rattle.swift_tasks.specs.Books.{BookView, IsEndOf}
use Rattle.swift_history.specs.Jobs.{job_facts}
use Rattle.swift_types.specs.declared.id.TaskId.{TaskId}
use Rattle.swift_tasks.specs.Refusals.{IsRefusal, refusal_of_apply}
use Rattle.swift_tasks.specs.declared.fault.BookFault.{BookFault}
use Rattle.swift_executor.specs.State.{record_by}

-- All invariants of the actors of the executor of the frame that runs hold of these fields, and beside each is the row that it
-- reads.
abbrev pub MaySpare : List ℕ → List (List ℤ) → BodyView → Type 0
MaySpare rows fields b = IfRunning b.task.frames (λ p. HaveRows rows (invariants_at b.script p)) × IfRunning b.task.frames (λ p. AllHold (invariants_at b.script p) fields)

-- a body has had a turn on these fields: what is left of it is that of the frame that ran
pub record HasTurned (old new : BodyView) (rows : List (List ℤ)) (resume : Resume) (env : Env) (p : PlayedTurn) : Type 0 where
  pub frame : HasFirst old.task.frames (λ f. f ≡ frame_view p.frame)
  pub method : p.frame.method.0 < method_count old.script
  pub turn : Polls old.script old.task.outer old.task.frames (entered rows resume env) new.task.frames (left p.fields.after (effect_views p.effects.items) (exit_view p.exit))
  pub script : new.script ≡ old.script
  pub outer : new.task.outer ≡ old.task.outer

-- a body has had none, and is as before but for its phase
pub record IsUnturned (old new : BodyView) : Type 0 where
  pub script : new.script ≡ old.script
  pub task : new.task ≡ old.task

-- the body of a job has had such a turn, and its other parts stay
pub record JobTurned (old new : JobView BodyView) (rows : List (List ℤ)) (env : Env) (p : PlayedTurn) : Type 0 where
  pub body : HasTurned old.body new.body rows old.resume env p
  pub task : new.task ≡ old.task
  pub number : new.number ≡ old.number
  pub resume : new.resume ≡ old.resume

pub record JobUnturned (old new : JobView BodyView) : Type 0 where
  pub body : IsUnturned old.body new.body
  pub task : new.task ≡ old.task
  pub number : new.number ≡ old.number
  pub resume : new.resume ≡ old.resume

-- a job whose frame may go back
abbrev pub CanGoBack : JobView BodyView → PlayedTurn → ChosenStage → Type 0
CanGoBack j p (stage.Played worker env) = p.frame.method.0 < method_count j.body.script
CanGoBack j p _ = Unit {0}

-- the record of the chosen job, where it was played
abbrev pub WritesRecord : PlayedTurn → ChosenStage → JobView BodyView → List RecordView → List RecordView → Type 0
WritesRecord p (stage.Played worker env) j old new = new ≡ old ++ record_by j worker env (frame_view p.frame) (effect_views p.effects.items) (exit_view p.exit) ∷ []
WritesRecord p _ j old new = new ≡ old

-- there is room for a fold where the journal is full, with the fields that it takes
abbrev pub HasFoldRoom : Option (Vec (Vec ℤ Global) Global) → CheckpointRoomView → List RecordView → List (List ℤ) → Type 0
HasFoldRoom None c journal rows = length journal < FOLD
HasFoldRoom (Some copy) c journal rows = (FOLD ≤ length journal) × (rows_of copy.items ≡ rows) × (c.room ≡ map folded_of journal)

abbrev pub StageIsPlayed : ChosenStage → Type 0
StageIsPlayed (stage.Played worker env) = Unit {0}
StageIsPlayed _ = ⊥

-- the book has taken the turn, and the jobs that it makes come behind others
pub record Applied (book book' : BookView) (j : JobView BodyView) (effects : List EffectView) (exit : ExitView) (jobs jobs' : List JobFacts) : Type 0 where
  pub script_is : book'.script ≡ book.script
  pub ends : IsEndOf book jobs j effects exit book'.log book'.held jobs'

-- there is a job in this place, of which this holds
abbrev pub HasJob : Option (JobView BodyView) → (JobView BodyView → Type 0) → Type 0
HasJob place P = (j : JobView BodyView) × (place ≡ Some j) × P j

abbrev pub StageIsBegun : ChosenStage → Type 0
StageIsBegun (stage.Begun worker env) = Unit {0}
StageIsBegun _ = ⊥

-- the book of this script has begun its turn on a worker, where this was the log, and the last root was `there` or was not; and its ticket
-- says so and comes first
pub record BeginsShared (script : ScriptView) (log : List Event) (there : Bool) (worker : ℕ) (old new : Chosen) (knows knows' : BookKnown) (j : JobView BodyView) : Type 0 where
  pub env : Env
  pub given : IsEnv (root_count script) j.task log env
  pub new_is : new ≡ record old { stage = stage.Begun worker env }
  pub ticket : BeginsTicket log there (job_facts j) env knows knows'

-- its turn was played on these fields, and has left this
pub record PlaysJob (rows : List (List ℤ)) (old new : Chosen) (p : PlayedTurn) (j : JobView BodyView) : Type 0 where
  pub worker : ℕ
  pub env : Env
  pub was : old.stage ≡ stage.Begun worker env
  pub job : JobView BodyView
  pub turned : JobTurned j job rows env p
  pub new_is : new ≡ record old { job = Some job; stage = stage.Played worker env }

-- it has had no turn
pub record KeepsJob (old new : Chosen) (j : JobView BodyView) : Type 0 where
  pub job : JobView BodyView
  pub unturned : JobUnturned j job
  pub new_is : new ≡ record old { job = Some job }

-- why the book does not take what a turn has left
abbrev pub refusal_of_left : BookView → JobView BodyView → PlayedTurn → Option BookFault
refusal_of_left book j p = refusal_of_apply book.script book.log j (effect_views p.effects.items) (exit_view p.exit)

-- the book has taken its turn
pub record AppliesJob (book book' : BookView) (p : PlayedTurn) (jobs jobs' : List JobFacts) (task : TaskId) (j : JobView BodyView) : Type 0 where
  pub applied : Applied book book' j (effect_views p.effects.items) (exit_view p.exit) jobs jobs'
  pub task_is : task ≡ j.task

-- a book of an equal script has taken its turn, for which no refusal stood there; the run has come to it, by what a seat knew
pub record IsTaken (knows : BookKnown) (p : PlayedTurn) (jobs jobs' : List JobFacts) (task : TaskId) (j : JobView BodyView) : Type 0 where
  pub book : BookView
  pub book_after : BookView
  pub book_of : book.script ≡ j.body.script
  pub run : IsInRun knows (facts_of book)
  pub allowed : refusal_of_left book j p ≡ None
  pub takes : AppliesJob book book_after p jobs jobs' task j

-- a book of an equal script refuses its turn; the run has come to it, by what a seat knew
pub record IsRefused (knows : BookKnown) (p : PlayedTurn) (fault : BookFault) (j : JobView BodyView) : Type 0 where
  pub book : BookView
  pub book_of : book.script ≡ j.body.script
  pub run : IsInRun knows (facts_of book)
  pub refused : IsRefusal (refusal_of_left book j p) fault

-- a journal for which there is room is folded, another stays
abbrev pub Settles : Option (Vec (Vec ℤ Global) Global) → List RecordView → List RecordView → CheckpointRoomView → CheckpointRoomView → Type 0
Settles None journal journal' c c' = (journal' ≡ journal) × (c'.view ≡ c.view)
Settles (Some copy) journal journal' c c' = (journal' ≡ []) × (c'.view ≡ folds c.view journal (rows_of copy.items))
