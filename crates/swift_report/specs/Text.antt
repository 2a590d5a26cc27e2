-- The text of a report, as bytes (the format is our own).
use Rattle.std.specs.Prelude.{ℕ, zero, suc, ◌+◌, ◌==◌, ℤ, Bool, true, false, Option, Some, None, List, [], ◌∷◌, ◌++◌, length, codes, decimal, if◌then◌else◌, nat_lt, slice_get}
use Rattle.std.specs.Fmt.{signed_decimal}
use Rattle.std.specs.declared.vec.Vec.{Vec}
use Rattle.std.specs.declared.alloc.Global.{Global}
use Rattle.swift_types.specs.Priority.{rank}
use Rattle.swift_types.specs.declared.id.ActorId.{ActorId}
use Rattle.swift_types.specs.declared.outcome.Fault.{Fault}
use Rattle.swift_types.specs.declared.outcome.Fault.TheVariants.{Thrown, Cancelled, Invariant, Overflow, Steps, Turns, Depth, Tasks, Empty, Isolation}
use Rattle.swift_types.specs.declared.outcome.Resume.{Resume}
use Rattle.swift_types.specs.declared.outcome.Resume.TheVariants.{Start, Go, Value, Fault as Raise}
use Rattle.swift_types.specs.declared.outcome.Ending.{Ending}
use Rattle.swift_types.specs.declared.outcome.Ending.TheVariants.{Value as Returned, Fault as Failed}
use Rattle.swift_types.specs.declared.env.Env.{Env}
use Rattle.swift_types.specs.declared.executor_kind.ExecutorKind.{ExecutorKind}
use Rattle.swift_types.specs.declared.executor_kind.ExecutorKind.TheVariants as kind
use Rattle.swift_script.specs.Scripts.{ScriptView, actor_count, actor_executor, actor_name, executor_actors, executor_kind, executor_name, field_name, method_actor, method_count, method_name, root_name}
use Rattle.swift_journal.specs.Checkpoints.{CheckpointRoomView}
use Rattle.swift_journal.specs.Records.{RecordView, brief_of}
use Rattle.swift_journal.specs.declared.brief.BriefExit.{BriefExit}
use Rattle.swift_journal.specs.declared.brief.BriefExit.TheVariants.{Call, Wait, Next, Yield, Close, Return, Fault as Fails}
use Rattle.swift_report.specs.declared.line.Line.{Line}
use Rattle.swift_types.specs.declared.id.TaskId.{TaskId}
use Rattle.swift_events.specs.declared.life.Origin.{Origin}
use Rattle.swift_events.specs.declared.life.Origin.TheVariants.{Root, Child, Spawned, Detached}
use Rattle.swift_report.specs.declared.report.Report.{Report}

-- the word of a fault, after a throw its value
abbrev pub fault_text : Fault → List ℕ
fault_text (Thrown v) = codes "thrown " ++ signed_decimal v
fault_text Cancelled = codes "cancelled"
fault_text Invariant = codes "invariant"
fault_text Overflow = codes "overflow"
fault_text Steps = codes "steps"
fault_text Turns = codes "turns"
fault_text Depth = codes "depth"
fault_text Tasks = codes "tasks"
fault_text Empty = codes "empty"
fault_text Isolation = codes "isolation"

-- what a turn began with
abbrev pub resume_text : Resume → List ℕ
resume_text Start = codes "start"
resume_text Go = codes "go"
resume_text (Value v) = codes "value " ++ signed_decimal v
resume_text (Raise f) = codes "fault " ++ fault_text f

-- how a task ended
abbrev pub ending_text : Ending → List ℕ
ending_text (Returned v) = codes "value " ++ signed_decimal v
ending_text (Failed f) = codes "fault " ++ fault_text f

-- a method by its names, that of its actor first; nothing for a method that the script lacks
abbrev pub method_text : ScriptView → ℕ → List ℕ
method_text p m = if nat_lt m (method_count p) then actor_name p (method_actor p m) ++ codes "." ++ method_name p m else []

-- the fault that is pending where a group is closed; nothing where none is
abbrev pub pending_text : Option Fault → List ℕ
pending_text None = []
pending_text (Some f) = codes " fault " ++ fault_text f

-- how a turn ended
abbrev pub exit_text : ScriptView → BriefExit → List ℕ
exit_text p (Call a m) = codes "call " ++ method_text p m.0
exit_text p (Wait t) = codes "wait"
exit_text p (Next g) = codes "next"
exit_text p Yield = codes "yield"
exit_text p (Close g f) = codes "close" ++ pending_text f
exit_text p (Return v) = codes "return " ++ signed_decimal v
exit_text p (Fails f) = codes "fault " ++ fault_text f

-- a flag: 1 or 0
abbrev pub flag_text : Bool → List ℕ
flag_text false = codes "0"
flag_text true = codes "1"

-- what a turn was given: the number of the task's priority, and whether the task was cancelled
abbrev pub env_text : Env → List ℕ
env_text e = codes " p" ++ decimal (rank e.priority) ++ codes " c" ++ flag_text e.cancelled

-- what the line of a turn says
abbrev pub line_of : RecordView → Line
line_of r = record { task = record { 0 = r.task }; number = r.number; worker = r.worker; method = record { 0 = r.frame.method }; env = r.env; resume = r.resume; exit = brief_of r.exit }

-- which turn is at this place of a journal: the task, the turn's number in it, and the worker
abbrev pub run_text : ℕ → Line → List ℕ
run_text place r = decimal place ++ codes " t" ++ decimal r.task.0 ++ codes "." ++ decimal r.number ++ codes " w" ++ decimal r.worker

-- how a turn began and how it ended
abbrev pub resume_and_exit_text : ScriptView → Line → List ℕ
resume_and_exit_text p r = resume_text r.resume ++ codes " -> " ++ exit_text p r.exit

-- the line of the turn at this place of a journal
abbrev pub turn_text : ScriptView → ℕ → Line → List ℕ
turn_text p place r = run_text place r ++ codes " " ++ method_text p r.method.0 ++ env_text r.env ++ codes " " ++ resume_and_exit_text p r ++ codes "\n"

-- the lines of the turns from this place of a journal on
abbrev pub turns_text : ScriptView → ℕ → List RecordView → List ℕ
turns_text p place [] = []
turns_text p place (r ∷ rs) = turn_text p place (line_of r) ++ turns_text p (place + 1) rs

-- the kind of an executor
abbrev pub kind_text : ExecutorKind → List ℕ
kind_text kind.Priority = codes "priority"
kind_text kind.Fifo = codes "fifo"
kind_text (kind.Pinned worker) = codes "pinned " ++ signed_decimal worker

-- the line of executor `e`, with the number `turns` of its turns
abbrev pub heading_text : ScriptView → ℕ → ℕ → List ℕ
heading_text p e turns = codes "executor " ++ executor_name p e ++ codes " " ++ kind_text (executor_kind p e) ++ codes " turns " ++ decimal turns ++ codes "\n"

-- the line that says how many turns of an executor were folded, where some were
abbrev pub folded_text : ℕ → List ℕ
folded_text zero = []
folded_text (suc n) = codes "folded " ++ decimal (suc n) ++ codes "\n"

-- The lines of executor `e`, with `folded` turns that were folded and those of its journal `j`: the heading counts all turns, and the
-- places of the journal begin after those that were folded.
abbrev pub executor_text : ScriptView → ℕ → ℕ → List RecordView → List ℕ
executor_text p e folded j = heading_text p e (folded + length j) ++ folded_text folded ++ turns_text p folded j

-- how many turns a checkpoint has
abbrev pub folded_count : Option CheckpointRoomView → ℕ
folded_count None = 0
folded_count (Some c) = length c.view.folded

-- the lines of the executors from this number on, each with its turns
abbrev pub executors_text : ScriptView → List CheckpointRoomView → ℕ → List (List RecordView) → List ℕ
executors_text p cs k [] = []
executors_text p cs k (j ∷ js) = executor_text p k (folded_count (slice_get cs k)) j ++ executors_text p cs (k + 1) js

-- the journals, which a quiet report leaves out
abbrev pub journals_text : ScriptView → Bool → List CheckpointRoomView → List (List RecordView) → List ℕ
journals_text p true cs js = []
journals_text p false cs js = codes "journals\n" ++ executors_text p cs 0 js

-- a task, by its number
abbrev pub task_name : TaskId → List ℕ
task_name t = codes "t" ++ decimal t.0

-- where the task of this number comes from: root k of the script has task k
abbrev pub origin_text : ScriptView → ℕ → Origin → List ℕ
origin_text p k Root = codes "root " ++ root_name p k
origin_text p k (Child owner group) = codes "child " ++ task_name owner
origin_text p k (Spawned by) = codes "spawned " ++ task_name by
origin_text p k (Detached by) = codes "detached " ++ task_name by

-- the line of the task with this number
abbrev pub task_text : ScriptView → ℕ → Origin × Ending → List ℕ
task_text p k t = codes "t" ++ decimal k ++ codes " " ++ origin_text p k t.0 ++ codes " " ++ ending_text t.1 ++ codes "\n"

-- the lines of the tasks from this number on
abbrev pub tasks_text : ScriptView → ℕ → List (Origin × Ending) → List ℕ
tasks_text p k [] = []
tasks_text p k (t ∷ ts) = task_text p k t ++ tasks_text p (k + 1) ts

-- the line of a field: by its actor's number and its own, with its value
abbrev pub field_text : ScriptView → ℕ → ℕ → ℤ → List ℕ
field_text p k i v = actor_name p k ++ codes "." ++ field_name p k i ++ codes " " ++ signed_decimal v ++ codes "\n"

-- the lines of an actor's fields from this number on
abbrev pub values_text : ScriptView → ℕ → ℕ → List ℤ → List ℕ
values_text p k i [] = []
values_text p k i (v ∷ vs) = field_text p k i v ++ values_text p k (i + 1) vs

-- the number of an actor of the code
abbrev pub number_of : ActorId → ℕ
number_of a = a.0

-- the fields of an actor, among those of the actors of its executor
abbrev pub row_among : List ℕ → List (Vec ℤ Global) → ℕ → List ℤ
row_among [] rows k = []
row_among (a ∷ actors) [] k = []
row_among (a ∷ actors) (row ∷ rows) k = if a == k then row.items else row_among actors rows k

-- the fields of actor `k`, where those of the actors of its executor are given; else none
abbrev pub row_in : Option (Vec (Vec ℤ Global) Global) → List ℕ → ℕ → List ℤ
row_in None actors k = []
row_in (Some rows) actors k = row_among actors rows.items k

-- the fields of an actor, where those of the actors of each executor are given
abbrev pub row_of : ScriptView → List (Vec (Vec ℤ Global) Global) → ℕ → List ℤ
row_of p fields k = row_in (slice_get fields (actor_executor p k)) (executor_actors p (actor_executor p k)) k

-- the lines of the fields of n actors from this number on
abbrev pub fields_text : ScriptView → List (Vec (Vec ℤ Global) Global) → ℕ → ℕ → List ℕ
fields_text p fields k zero = []
fields_text p fields k (suc n) = values_text p k 0 (row_of p fields k) ++ fields_text p fields (k + 1) n

-- The text of a report on a script: the journals unless it is quiet, the tasks, and the fields.
abbrev pub report_text : ScriptView → Report → Bool → List ℕ
report_text p r quiet =
    journals_text p quiet r.checkpoints.items r.journals.items ++ codes "tasks\n" ++ tasks_text p 0 r.endings.items ++ codes "fields\n" ++ fields_text p r.fields.items 0 (actor_count p)
