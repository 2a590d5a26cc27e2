-- A history that goes on step by step (our own).
use Rattle.std.specs.Prelude.{◌≡◌, ℕ, ℤ, ◌+◌, ◌==◌, if◌then◌else◌, Option, Some, None, List, [], ◌∷◌, ◌++◌, length, map, slice_get}
use Rattle.std.specs.List.{range_with_len}
use Rattle.std.specs.Arc.{arc_value}
use Rattle.script_code.specs.Seen.{rows_of}
use Rattle.swift_types.specs.declared.env.Env.{Env}
use Rattle.swift_types.specs.declared.id.TaskId.{TaskId}
use Rattle.swift_script.specs.Scripts.{ScriptView, actor_executor, method_actor}
use Rattle.swift_interpreter.specs.Frames.{FrameView, effect_views}
use Rattle.swift_interpreter.specs.Turn.{EffectView, ExitView}
use Rattle.swift_interpreter.specs.TurnStates.{exit_view}
use Rattle.swift_turn.specs.Body.{HasFrames, IfRunning, IsTurnOf, left}
use Rattle.swift_events.specs.declared.event.Event.{Event}
use Rattle.swift_events.specs.declared.event.Event.TheVariants.{Begin}
use Rattle.swift_events.specs.declared.life.JobStage.TheVariants.{Begun}
use Rattle.swift_events.specs.Lives.{life_of}
use Rattle.swift_journal.specs.Checkpoints.{CheckpointView}
use Rattle.swift_journal.specs.Records.{RecordView}
use Rattle.swift_history.specs.Histories.{AllStand, Block, added, begun, checkpoint_at, fields_of, roots_of, with_jobs}
use Rattle.swift_history.specs.TurnEnds.{WaitingTaskView, JobFacts}
use Rattle.swift_course.specs.Course.{standing}
use Rattle.swift_course.specs.Frames.{kept_frame}
use Rattle.swift_tasks.specs.Books.{IsEndOf}
use Rattle.swift_tasks.specs.Refusals.{refusal_of_apply}
use Rattle.swift_steps.specs.declared.next_turn.NextTurn.{NextTurn}
use Rattle.swift_steps.specs.declared.history.OpenHistory.{OpenHistory}
use Rattle.swift_steps.specs.declared.played.PlayedTurn.{PlayedTurn}
use Rattle.swift_steps.specs.NextTurns.{AreGiven, AreOf, given_at, job_of, with_given}

-- the fields of each executor, as rows
abbrev pub rows_at : OpenHistory → List (List (List ℤ))
rows_at x = map (λ rows. rows_of rows.items) x.fields.items

-- The blocks may stand on these checkpoints, and lead to this log, these waiting tasks, jobs and fields; the first `roots` roots were
-- added, in order.
pub record IsLed (script : ScriptView) (checkpoints : List CheckpointView) (blocks : List Block) (log : List Event) (held : List (Option WaitingTaskView)) (tasks : List (Option NextTurn)) (fields : List (List (List ℤ))) (roots : ℕ) : Type 0 where
  pub stand : AllStand script checkpoints [] blocks
  pub log_is : log ≡ (standing script blocks).log
  pub held_is : held ≡ (standing script blocks).held
  pub given : AreGiven (standing script blocks).jobs tasks
  pub fields_are : (e : ℕ) (rows : List (List ℤ)) → slice_get fields e ≡ Some rows → rows ≡ fields_of script checkpoints e blocks
  pub roots_are : roots_of blocks ≡ range_with_len 0 roots

-- between two steps
pub record IsAtRest (x : OpenHistory) : Type 0 where
  pub book_is : x.book.script ≡ arc_value x.script
  pub none : x.jobs.items ≡ []
  pub scripts : AreOf (arc_value x.script) x.tasks.items

-- these blocks were followed, from these checkpoints
pub record IsFollowed (script : ScriptView) (checkpoints : List CheckpointView) (blocks : List Block) (x : OpenHistory) : Type 0 where
  pub script_is : arc_value x.script ≡ script
  pub book_is : x.book.script ≡ script
  pub none : x.jobs.items ≡ []
  pub scripts : AreOf script x.tasks.items
  pub led : IsLed script checkpoints blocks x.book.log x.book.held x.tasks.items (rows_at x) x.roots

-- each executor that is told of has the fields of its checkpoint
abbrev pub StartsFrom : List CheckpointView → List (List (List ℤ)) → Type 0
StartsFrom checkpoints fields = (e : ℕ) (rows : List (List ℤ)) → slice_get fields e ≡ Some rows → rows ≡ (checkpoint_at checkpoints e).fields

-- nothing was followed, from whichever checkpoints have these fields
pub record IsFirst (x : OpenHistory) : Type 0 where
  pub roots_are : x.roots ≡ 0
  pub starts : (checkpoints : List CheckpointView) → StartsFrom checkpoints (rows_at x) → IsFollowed (arc_value x.script) checkpoints [] x

-- a copy: whatever was followed in the one was followed in the other
pub record IsCopyOf (x y : OpenHistory) : Type 0 where
  pub script_is : arc_value y.script ≡ arc_value x.script
  pub many : length y.fields.items ≡ length x.fields.items
  pub roots_are : y.roots ≡ x.roots
  pub followed : (script : ScriptView) (checkpoints : List CheckpointView) (blocks : List Block) → IsFollowed script checkpoints blocks x → IsFollowed script checkpoints blocks y

-- how many roots were added after a block
abbrev pub roots_with : ℕ → Block → ℕ
roots_with n (added r) = n + 1
roots_with n _ = n

-- whatever was followed before, this block was followed after it
pub record Follows (old new : OpenHistory) (b : Block) : Type 0 where
  pub script_is : new.script ≡ old.script
  pub many : length new.fields.items ≡ length old.fields.items
  pub roots_are : new.roots ≡ roots_with old.roots b
  pub leads : (script : ScriptView) (checkpoints : List CheckpointView) (blocks : List Block) → IsFollowed script checkpoints blocks old → IsFollowed script checkpoints (blocks ++ b ∷ []) new

-- the next turn of a task has begun
abbrev pub Begins : OpenHistory → OpenHistory → TaskId → Type 0
Begins old new task = (number : ℕ) × (env : Env) × (new.book.log ≡ old.book.log ++ Begin task number env ∷ []) × Follows old new (begun task.0 number env)

-- the job of a task, where it has one, is of an actor of this executor
pub record RunsAt (script : ScriptView) (tasks : List (Option NextTurn)) (t : TaskId) (k : ℕ) : Type 0 where
  pub runs : (g : NextTurn) → given_at tasks t.0 ≡ Some g → HasFrames g.body.task.frames
  pub on : (g : NextTurn) → given_at tasks t.0 ≡ Some g → IfRunning g.body.task.frames (λ p. actor_executor script (method_actor g.body.script p.method) ≡ k)

-- what the next turn of a task begins with was taken out, which was there
pub record Takes (old new : OpenHistory) (t : TaskId) (g : NextTurn) : Type 0 where
  pub was : given_at old.tasks.items t.0 ≡ Some g
  pub rest : (u : ℕ) → given_at new.tasks.items u ≡ with_given t.0 None (given_at old.tasks.items) u
  pub script_is : new.script ≡ old.script
  pub book_is : new.book ≡ old.book
  pub roots_are : new.roots ≡ old.roots
  pub jobs_are : new.jobs ≡ old.jobs

-- a task goes on with what it began with, but for its frames
abbrev pub GoesOn : NextTurn → NextTurn → Type 0
GoesOn g h = h ≡ record g { body = record g.body { task = record g.body.task { frames = h.body.task.frames }; phase = h.body.phase } }

-- A turn that a task had begun was played: on the fields of its executor, which are what it gives, and by the job that was taken out.
pub record Plays (old new : OpenHistory) (turn : PlayedTurn) : Type 0 where
  pub rest : IsAtRest old
  pub before : NextTurn
  pub takes : Takes old new turn.task before
  pub has_begun : (life_of turn.task.0 old.book.log).stage ≡ Some (Begun turn.env)
  pub at : RunsAt (arc_value old.script) old.tasks.items turn.task turn.place
  pub rows : List (List ℤ)
  pub rows' : List (List ℤ)
  pub rows_are : slice_get (rows_at old) turn.place ≡ Some rows
  pub fields_are : (e : ℕ) → slice_get (rows_at new) e ≡ (if e == turn.place then Some rows' else slice_get (rows_at old) e)
  pub many : length new.fields.items ≡ length old.fields.items
  pub frame : FrameView
  pub after : FrameView
  pub callers : List FrameView
  pub first : before.body.task.frames ≡ frame ∷ callers
  pub last : turn.ready.body.task.frames ≡ after ∷ callers
  pub turns : IsTurnOf before.body.script frame before.body.task.outer rows before.resume turn.env after (left rows' (effect_views turn.effects.items) (exit_view turn.exit))
  pub goes_on : GoesOn before turn.ready

-- the frame that a record has after a turn which ends so
abbrev pub kept_first : ExitView → List FrameView → Option FrameView
kept_first exit [] = None
kept_first exit (p ∷ callers) = kept_frame exit p

-- the record of a turn that was played, of that frame and by that worker
abbrev pub record_of : PlayedTurn → ℕ → FrameView → RecordView
record_of turn worker frame = record {
  task = turn.task.0;
  number = turn.ready.number;
  worker = worker;
  frame = frame;
  outer = turn.ready.body.task.outer;
  resume = turn.ready.resume;
  env = turn.env;
  exit = exit_view turn.exit;
  effects = effect_views turn.effects.items;
  after = kept_first (exit_view turn.exit) turn.ready.body.task.frames;
}

-- What a turn did was applied.
pub record Applies (old new : OpenHistory) (task : TaskId) (ready : NextTurn) (effects : List EffectView) (exit : ExitView) : Type 0 where
  pub script_is : new.script ≡ old.script
  pub book_is : new.book.script ≡ old.book.script
  pub none : new.jobs.items ≡ []
  pub fields_are : new.fields ≡ old.fields
  pub roots_are : new.roots ≡ old.roots
  pub fits : refusal_of_apply old.book.script old.book.log (job_of task ready) effects exit ≡ None
  pub jobs : List JobFacts
  pub ends : IsEndOf old.book [] (job_of task ready) effects exit new.book.log new.book.held jobs
  pub given : (seen : ℕ → Option JobFacts) → AreGiven seen old.tasks.items → AreGiven (with_jobs jobs seen) new.tasks.items
  pub scripts : AreOf old.book.script old.tasks.items → AreOf old.book.script new.tasks.items
