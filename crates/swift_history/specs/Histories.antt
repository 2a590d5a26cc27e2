-- Histories of a run: what its blocks are, and where they lead. A report is legal where some history made it. Nothing here
-- speaks of a book, of indexes, or of threads.
use Rattle.std.specs.Prelude.{◌≡◌, ℕ, ℤ, ◌+◌, ◌<◌, ◌==◌, nat_lt, if◌then◌else◌, Bool, true, false, Option, Some, None, List, [], ◌∷◌, ◌++◌, replicate, count_by, length, unwrap_or, slice_get}
use Rattle.std.specs.List.{filter_map, range_with_len}
use Rattle.swift_types.specs.declared.priority.Priority.{Priority}
use Rattle.swift_types.specs.declared.priority.Priority.TheVariants.{Background}
use Rattle.swift_types.specs.declared.outcome.Ending.{Ending}
use Rattle.swift_types.specs.declared.env.Env.{Env}
use Rattle.swift_script.specs.Scripts.{ScriptView, root_count, executor_count, executor_start, actor_executor, method_actor}
use Rattle.swift_interpreter.specs.Frames.{FrameView}
use Rattle.swift_interpreter.specs.Turn.{EffectView, spawning, detaching, opening, ExitView, returning, failing}
use Rattle.swift_turn.specs.Body.{advanced}
use Rattle.swift_journal.specs.Records.{RecordView}
use Rattle.swift_journal.specs.Checkpoints.{FoldedView, CheckpointView}
use Rattle.swift_history.specs.Replay.{replay, IsLawfulRecord}
use Rattle.swift_events.specs.declared.event.Event.{Event}
use Rattle.swift_events.specs.declared.event.Event.TheVariants.{Begin}
use Rattle.swift_events.specs.declared.life.Origin.{Origin}
use Rattle.swift_events.specs.declared.life.JobStage.{JobStage}
use Rattle.swift_events.specs.declared.life.JobStage.TheVariants.{Begun}
use Rattle.swift_events.specs.Events.{tasks_of}
use Rattle.swift_events.specs.Lives.{life_of}
use Rattle.swift_events.specs.Relations.{opened_by, is_closed}
use Rattle.swift_events.specs.Room.{IsEnv}
use Rattle.swift_history.specs.Checks.{is_current, counters, fits_turn}
use Rattle.swift_history.specs.TurnEnds.{JobFacts, WaitingTaskView, TurnEnd, task, root_job, root_events, turn_end}

-- what a history is made of
pub data Block : Type 0 where
  -- a root is added
  added : ℕ → Block
  -- a turn of a task begins, by its number, in this environment
  begun : ℕ → ℕ → Env → Block
  -- a turn runs on an executor, and is applied
  ran : ℕ → RecordView → Block
  -- a turn runs on an executor, and is applied, of which a checkpoint has what is left
  folded : ℕ → FoldedView → Block

-- where a history leads: the log, the tasks that wait, and for each other task its job
pub record Standing : Type 0 where
  pub log : List Event
  pub held : List (Option WaitingTaskView)
  pub jobs : ℕ → Option JobFacts

-- where a history without blocks leads: the log is empty, no task waits, and none has a job
abbrev pub at_first : ScriptView → Standing
at_first script = record { log = []; held = replicate (root_count script) None; jobs = λ t. None }

-- jobs are made
abbrev pub with_jobs : List JobFacts → (ℕ → Option JobFacts) → ℕ → Option JobFacts
with_jobs [] jobs t = jobs t
with_jobs (j ∷ js) jobs t = with_jobs js (λ u. if u == j.task then Some j else jobs u) t

-- a task's job is taken
abbrev pub taken : ℕ → (ℕ → Option JobFacts) → ℕ → Option JobFacts
taken t jobs u = if u == t then None else jobs u

-- whether an effect makes a task of its task's own: one that is spawned or detached
abbrev pub makes_own : EffectView → Bool
makes_own (spawning i p bindings) = true
makes_own (detaching i p) = true
makes_own _ = false

-- whether an effect opens a group
abbrev pub opens_group : EffectView → Bool
opens_group opening = true
opens_group _ = false

-- The frame as a turn leaves it. Where it is left for good, only the task's counts matter, which go on by the effects.
abbrev pub left_as : FrameView → List EffectView → Option FrameView → FrameView
left_as p effects (Some after) = after
left_as p effects None = record p { made = p.made + count_by makes_own effects; opened = p.opened + count_by opens_group effects }

-- such an exit leaves the frame for good
abbrev pub IsLeft : ExitView → Type 0
IsLeft (returning v) = Unit {0}
IsLeft (failing f) = Unit {0}
IsLeft _ = ⊥

-- Which frame a turn of a frame can leave: none where its exit leaves the frame for good, and else one with the task's counts after
-- the effects.
abbrev pub LeavesFrame : FrameView → List EffectView → ExitView → Option FrameView → Type 0
LeavesFrame p effects exit None = IsLeft exit
LeavesFrame p effects exit (Some after) =
    (IsLeft exit → ⊥) × (after.made ≡ p.made + count_by makes_own effects) × (after.opened ≡ p.opened + count_by opens_group effects)

-- the priority of a task in the turn that it has begun
abbrev pub begun_priority : Option JobStage → Priority
begun_priority (Some (Begun env)) = env.priority
begun_priority _ = Background

-- turn `n` of task `t` is applied, whose job has these frames and bindings
abbrev pub frames_applied : ScriptView → Standing → ℕ → ℕ → List FrameView → List (ℕ × ℤ) → List EffectView → ExitView → Option FrameView → Standing
frames_applied script s t n [] outer effects exit after = s
frames_applied script s t n (p ∷ callers) outer effects exit after =
    let e = turn_end script s.log s.held t n (begun_priority (life_of t s.log).stage) effects exit (advanced script (left_as p effects after) callers outer exit) in
    record { log = e.log; held = e.held; jobs = with_jobs e.jobs (taken t s.jobs) }

-- turn `n` of task `t` is applied, whose job is this one; nothing changes where there is none
abbrev pub job_applied : ScriptView → Standing → ℕ → ℕ → Option JobFacts → List EffectView → ExitView → Option FrameView → Standing
job_applied script s t n None effects exit after = s
job_applied script s t n (Some j) effects exit after = frames_applied script s t n j.frames.frames j.frames.outer effects exit after

-- turn `n` of task `t` is applied, by the job that the task has
abbrev pub turn_applied : ScriptView → Standing → ℕ → ℕ → List EffectView → ExitView → Option FrameView → Standing
turn_applied script s t n effects exit after = job_applied script s t n (s.jobs t) effects exit after

-- where one block leads
abbrev pub after_block : ScriptView → Standing → Block → Standing
after_block script s (added r) = record s { log = s.log ++ root_events script r; jobs = with_jobs (root_job script r ∷ []) s.jobs }
after_block script s (begun t n env) = record s { log = s.log ++ Begin (task t) n env ∷ [] }
after_block script s (ran e r) = turn_applied script s r.task r.number r.effects r.exit r.after
after_block script s (folded e f) = turn_applied script s f.task f.number f.effects f.exit f.after

-- where the blocks lead, in order, from `s` on
abbrev pub after_blocks : ScriptView → Standing → List Block → Standing
after_blocks script s [] = s
after_blocks script s (b ∷ bs) = after_blocks script (after_block script s b) bs

-- the record in a block, if that is a turn which ran on executor `e`
abbrev pub record_in : ℕ → Block → Option RecordView
record_in e (ran executor r) = if executor == e then Some r else None
record_in e _ = None

-- the records of executor `e`, in order
abbrev pub records_of : ℕ → List Block → List RecordView
records_of e bs = filter_map (record_in e) bs

-- what is left of the turn in a block, if that is a folded one of executor `e`
abbrev pub folded_in : ℕ → Block → Option FoldedView
folded_in e (folded executor f) = if executor == e then Some f else None
folded_in e _ = None

-- what is left of the folded turns of executor `e`, in order
abbrev pub folded_of : ℕ → List Block → List FoldedView
folded_of e bs = filter_map (folded_in e) bs

-- the root that a block adds, if it adds one
abbrev pub root_in : Block → Option ℕ
root_in (added r) = Some r
root_in _ = None

-- the roots that were added, in order
abbrev pub roots_of : List Block → List ℕ
roots_of bs = filter_map root_in bs

-- A turn of a task that has begun, by its job and its environment; its effects and its exit fit, and the frame that runs is of
-- an actor of this executor.
pub record TurnStands (script : ScriptView) (s : Standing) (executor t n : ℕ) (effects : List EffectView) (exit : ExitView) (job : JobFacts) (env : Env) (frame : FrameView) : Type 0 where
  pub given : s.jobs t ≡ Some job
  pub number : job.number ≡ n
  pub current : is_current (life_of t s.log) n job.resume ≡ true
  pub has_begun : (life_of t s.log).stage ≡ Some (Begun env)
  pub fits : fits_turn script t s.log (counters t s.log env.room) effects exit ≡ true
  pub runs : (callers : List FrameView) × (job.frames.frames ≡ frame ∷ callers)
  pub on : actor_executor script (method_actor script frame.method) ≡ executor

-- A recorded turn: what its job, its environment and the fields at that point give.
pub record RecordStands (script : ScriptView) (s : Standing) (fields : List (List ℤ)) (executor : ℕ) (r : RecordView) : Type 0 where
  pub job : JobFacts
  pub stands : TurnStands script s executor r.task r.number r.effects r.exit job r.env r.frame
  pub resume : r.resume ≡ job.resume
  pub outer : r.outer ≡ job.frames.outer
  pub lawful : IsLawfulRecord script fields r

-- A folded turn: it is not run again. The frame that it leaves is one that its exit and its effects can leave.
pub record FoldedStands (script : ScriptView) (s : Standing) (executor : ℕ) (f : FoldedView) : Type 0 where
  pub job : JobFacts
  pub env : Env
  pub frame : FrameView
  pub stands : TurnStands script s executor f.task f.number f.effects f.exit job env frame
  pub leaves : LeavesFrame frame f.effects f.exit f.after

-- the checkpoint of an executor that has none: no fields and no turns
abbrev pub no_checkpoint : CheckpointView
no_checkpoint = record { fields = []; folded = [] }

-- the checkpoint of executor `e`
abbrev pub checkpoint_at : List CheckpointView → ℕ → CheckpointView
checkpoint_at checkpoints e = unwrap_or (slice_get checkpoints e) no_checkpoint

-- the fields of an executor's actors after these blocks: the replay of its records from its checkpoint on
abbrev pub fields_of : ScriptView → List CheckpointView → ℕ → List Block → List (List ℤ)
fields_of script checkpoints e bs = replay script (checkpoint_at checkpoints e).fields (records_of e bs)

-- A block may stand after others. A root is added once. A turn begins where it is the one that its task's last job is for, with
-- the environment of the log. Folded turns of an executor come before its records.
abbrev pub Stands : ScriptView → List CheckpointView → List Block → Block → Type 0
Stands script checkpoints before (added r) =
    let s = after_blocks script (at_first script) before in
    (nat_lt r (root_count script) ≡ true) × ((life_of r s.log).origin ≡ None)
Stands script checkpoints before (begun t n env) =
    let s = after_blocks script (at_first script) before in
    (j : JobFacts) × (s.jobs t ≡ Some j) × (is_current (life_of t s.log) n j.resume ≡ true) × IsEnv (root_count script) (task t) s.log env
Stands script checkpoints before (ran e r) =
    RecordStands script (after_blocks script (at_first script) before) (fields_of script checkpoints e before) e r
Stands script checkpoints before (folded e f) =
    FoldedStands script (after_blocks script (at_first script) before) e f × (records_of e before ≡ [])

-- each of some blocks may stand after `before` and those of them that come earlier
abbrev pub AllStand : ScriptView → List CheckpointView → List Block → List Block → Type 0
AllStand script checkpoints before [] = Unit {0}
AllStand script checkpoints before (b ∷ bs) = Stands script checkpoints before b × AllStand script checkpoints (before ++ b ∷ []) bs

-- what a run leaves: for each executor its journal, its checkpoint and the fields of its actors; the log; and for each task
-- where it comes from and how it ended
pub record ReportView : Type 0 where
  pub journals : List (List RecordView)
  pub checkpoints : List CheckpointView
  pub fields : List (List (List ℤ))
  pub log : List Event
  pub endings : List (Origin × Ending)

-- Some history, each block of which may stand where it stands, wrote the log, left the journals and the checkpoints, and leads
-- to the fields; every root was added, in text order; every task has ended as the report says, and has closed each group
-- that it has opened.
pub record IsLegal (script : ScriptView) (report : ReportView) : Type 0 where
  pub blocks : List Block
  pub stand : AllStand script report.checkpoints [] blocks
  pub roots : roots_of blocks ≡ range_with_len 0 (root_count script)
  pub log : report.log ≡ (after_blocks script (at_first script) blocks).log
  pub executors : (length report.journals ≡ executor_count script) × (length report.checkpoints ≡ executor_count script) × (length report.fields ≡ executor_count script)
  pub journals : (e : ℕ) (rs : List RecordView) → slice_get report.journals e ≡ Some rs → rs ≡ records_of e blocks
  pub folded : (e : ℕ) (c : CheckpointView) → slice_get report.checkpoints e ≡ Some c → c.folded ≡ folded_of e blocks
  pub start : (e : ℕ) (c : CheckpointView) → slice_get report.checkpoints e ≡ Some c → c.folded ≡ [] → c.fields ≡ executor_start script e
  pub fields : (e : ℕ) (f : List (List ℤ)) → slice_get report.fields e ≡ Some f → f ≡ fields_of script report.checkpoints e blocks
  pub tasks : length report.endings ≡ tasks_of (root_count script) report.log
  pub endings : (t : ℕ) (x : Origin × Ending) → slice_get report.endings t ≡ Some x → ((life_of t report.log).origin ≡ Some x.0) × ((life_of t report.log).ending ≡ Some x.1)
  pub groups : (t g : ℕ) → t < length report.endings → g < opened_by t report.log → is_closed t g report.log ≡ true
