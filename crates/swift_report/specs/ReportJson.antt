-- A report as JSON (the format is our own): its bytes.
use Rattle.std.specs.Prelude.{ℕ, zero, suc, ◌+◌, ◌==◌, ℤ, Bool, true, false, Option, Some, None, List, [], ◌∷◌, ◌++◌, length, codes, decimal, if◌then◌else◌, slice_get}
use Rattle.std.specs.Fmt.{signed_decimal}
use Rattle.std.specs.declared.vec.Vec.{Vec}
use Rattle.std.specs.declared.alloc.Global.{Global}
use Rattle.swift_types.specs.Priority.{rank}
use Rattle.swift_types.specs.declared.outcome.Fault.{Fault}
use Rattle.swift_types.specs.declared.outcome.Fault.TheVariants.{Thrown, Cancelled, Invariant, Overflow, Steps, Turns, Depth, Tasks, Empty, Isolation}
use Rattle.swift_types.specs.declared.outcome.Resume.{Resume}
use Rattle.swift_types.specs.declared.outcome.Resume.TheVariants.{Start, Go, Value, Fault as Raise}
use Rattle.swift_types.specs.declared.outcome.Ending.{Ending}
use Rattle.swift_types.specs.declared.outcome.Ending.TheVariants.{Value as Returned, Fault as Failed}
use Rattle.swift_types.specs.declared.env.Env.{Env}
use Rattle.swift_types.specs.declared.executor_kind.ExecutorKind.{ExecutorKind}
use Rattle.swift_types.specs.declared.executor_kind.ExecutorKind.TheVariants as kind
use Rattle.swift_script.specs.Scripts.{ScriptView, actor_count, actor_name, executor_kind, executor_name, field_name, root_name}
use Rattle.swift_journal.specs.Checkpoints.{CheckpointRoomView}
use Rattle.swift_journal.specs.Records.{RecordView}
use Rattle.swift_journal.specs.declared.brief.BriefExit.{BriefExit}
use Rattle.swift_journal.specs.declared.brief.BriefExit.TheVariants.{Call, Wait, Next, Yield, Close, Return, Fault as Fails}
use Rattle.swift_report.specs.declared.line.Line.{Line}
use Rattle.swift_events.specs.declared.life.Origin.{Origin}
use Rattle.swift_events.specs.declared.life.Origin.TheVariants.{Root, Child, Spawned, Detached}
use Rattle.swift_report.specs.declared.report.Report.{Report}
use Rattle.swift_report.specs.Text.{folded_count, line_of, method_text, row_of}

-- what comes before an element of a list, whose first element has this place
abbrev pub comma : ℕ → ℕ → List ℕ
comma first place = if place == first then [] else codes ","

-- the word of a fault, as a member
abbrev pub fault_word : Fault → List ℕ
fault_word (Thrown v) = codes "\"fault\":\"thrown\""
fault_word Cancelled = codes "\"fault\":\"cancelled\""
fault_word Invariant = codes "\"fault\":\"invariant\""
fault_word Overflow = codes "\"fault\":\"overflow\""
fault_word Steps = codes "\"fault\":\"steps\""
fault_word Turns = codes "\"fault\":\"turns\""
fault_word Depth = codes "\"fault\":\"depth\""
fault_word Tasks = codes "\"fault\":\"tasks\""
fault_word Empty = codes "\"fault\":\"empty\""
fault_word Isolation = codes "\"fault\":\"isolation\""

-- a number, as a member
abbrev pub value_json : ℤ → List ℕ
value_json v = codes ",\"value\":" ++ signed_decimal v

-- the value of a throw, as a member
abbrev pub thrown_json : Fault → List ℕ
thrown_json (Thrown v) = value_json v
thrown_json _ = []

-- the members of a fault: its word, and after a throw its value
abbrev pub fault_json : Fault → List ℕ
fault_json f = fault_word f ++ thrown_json f

-- what a turn began with
abbrev pub resume_json : Resume → List ℕ
resume_json Start = codes "{\"is\":\"start\"}"
resume_json Go = codes "{\"is\":\"go\"}"
resume_json (Value v) = codes "{\"is\":\"value\"" ++ value_json v ++ codes "}"
resume_json (Raise f) = codes "{\"is\":\"fault\"," ++ fault_json f ++ codes "}"

-- how a task ended
abbrev pub ending_json : Ending → List ℕ
ending_json (Returned v) = codes "{\"is\":\"value\"" ++ value_json v ++ codes "}"
ending_json (Failed f) = codes "{\"is\":\"fault\"," ++ fault_json f ++ codes "}"

-- the fault that is pending where a group is closed, as members after a comma; nothing where none is
abbrev pub pending_json : Option Fault → List ℕ
pending_json None = []
pending_json (Some f) = codes "," ++ fault_json f

-- how a turn ended
abbrev pub exit_json : ScriptView → BriefExit → List ℕ
exit_json p (Call a m) = codes "{\"is\":\"call\",\"method\":\"" ++ method_text p m.0 ++ codes "\"}"
exit_json p (Wait t) = codes "{\"is\":\"wait\"}"
exit_json p (Next g) = codes "{\"is\":\"next\"}"
exit_json p Yield = codes "{\"is\":\"yield\"}"
exit_json p (Close g f) = codes "{\"is\":\"close\"" ++ pending_json f ++ codes "}"
exit_json p (Return v) = codes "{\"is\":\"return\"" ++ value_json v ++ codes "}"
exit_json p (Fails f) = codes "{\"is\":\"fault\"," ++ fault_json f ++ codes "}"

-- a flag: `true` or `false`
abbrev pub flag_json : Bool → List ℕ
flag_json false = codes "false"
flag_json true = codes "true"

-- what a turn was given: the number of the task's priority, and whether the task was cancelled
abbrev pub env_json : Env → List ℕ
env_json e = codes ",\"priority\":" ++ decimal (rank e.priority) ++ codes ",\"cancelled\":" ++ flag_json e.cancelled

-- which turn is at this place of a journal: the task, the turn's number in it, and the worker
abbrev pub run_json : ℕ → Line → List ℕ
run_json place r = codes "\n{\"place\":" ++ decimal place ++ codes ",\"task\":" ++ decimal r.task.0 ++ codes ",\"turn\":" ++ decimal r.number ++ codes ",\"worker\":" ++ decimal r.worker

-- how a turn began and how it ended
abbrev pub resume_and_exit_json : ScriptView → Line → List ℕ
resume_and_exit_json p r = codes ",\"resume\":" ++ resume_json r.resume ++ codes ",\"exit\":" ++ exit_json p r.exit

-- the turn at this place of a journal
abbrev pub turn_json : ScriptView → ℕ → Line → List ℕ
turn_json p place r = run_json place r ++ codes ",\"method\":\"" ++ method_text p r.method.0 ++ codes "\"" ++ env_json r.env ++ resume_and_exit_json p r ++ codes "}"

-- the turn at `place` of a journal, in a list whose first turn is at `first`: a comma comes before each other
abbrev pub listed_json : ScriptView → ℕ → ℕ → Line → List ℕ
listed_json p first place r = comma first place ++ turn_json p place r

-- the turns from this place of a journal on, whose first turn has that place
abbrev pub turns_json : ScriptView → ℕ → ℕ → List RecordView → List ℕ
turns_json p first place [] = []
turns_json p first place (r ∷ rs) = listed_json p first place (line_of r) ++ turns_json p first (place + 1) rs

-- the word of an executor's kind, as a member
abbrev pub kind_word : ExecutorKind → List ℕ
kind_word kind.Priority = codes "\"kind\":\"priority\""
kind_word kind.Fifo = codes "\"kind\":\"fifo\""
kind_word (kind.Pinned worker) = codes "\"kind\":\"pinned\""

-- the number after `pinned`, as a member
abbrev pub pinned_json : ExecutorKind → List ℕ
pinned_json (kind.Pinned worker) = codes ",\"pinned\":" ++ signed_decimal worker
pinned_json _ = []

-- the kind of an executor
abbrev pub kind_json : ExecutorKind → List ℕ
kind_json k = kind_word k ++ pinned_json k

-- executor `e`, with the number `turns` of its turns, up to its journal
abbrev pub heading_json : ScriptView → ℕ → ℕ → List ℕ
heading_json p e turns = codes "\n{\"executor\":\"" ++ executor_name p e ++ codes "\"," ++ kind_json (executor_kind p e) ++ codes ",\"turns\":" ++ decimal turns

-- Executor `e`, with `folded` turns that were folded and those of its journal `j`: all are counted, and the places of the journal begin
-- after those that were folded.
abbrev pub executor_json : ScriptView → ℕ → ℕ → List RecordView → List ℕ
executor_json p e folded j = heading_json p e (folded + length j) ++ codes ",\"folded\":" ++ decimal folded ++ codes ",\"records\":[" ++ turns_json p folded folded j ++ codes "]}"

-- the executors from this number on, each with its turns
abbrev pub executors_json : ScriptView → List CheckpointRoomView → ℕ → List (List RecordView) → List ℕ
executors_json p cs k [] = []
executors_json p cs k (j ∷ js) = (comma 0 k ++ executor_json p k (folded_count (slice_get cs k)) j) ++ executors_json p cs (k + 1) js

-- the journals, which a quiet report leaves out
abbrev pub journals_json : ScriptView → Bool → List CheckpointRoomView → List (List RecordView) → List ℕ
journals_json p true cs js = []
journals_json p false cs js = codes "\"journals\":[" ++ executors_json p cs 0 js ++ codes "],\n"

-- where the task of this number comes from: root k of the script has task k
abbrev pub origin_json : ScriptView → ℕ → Origin → List ℕ
origin_json p k Root = codes "\"from\":\"root\",\"root\":\"" ++ root_name p k ++ codes "\""
origin_json p k (Child owner group) = codes "\"from\":\"child\",\"by\":" ++ decimal owner.0
origin_json p k (Spawned by) = codes "\"from\":\"spawned\",\"by\":" ++ decimal by.0
origin_json p k (Detached by) = codes "\"from\":\"detached\",\"by\":" ++ decimal by.0

-- the task with this number
abbrev pub task_json : ScriptView → ℕ → Origin × Ending → List ℕ
task_json p k t = comma 0 k ++ codes "\n{\"task\":" ++ decimal k ++ codes "," ++ origin_json p k t.0 ++ codes ",\"ending\":" ++ ending_json t.1 ++ codes "}"

-- the tasks from this number on
abbrev pub tasks_json : ScriptView → ℕ → List (Origin × Ending) → List ℕ
tasks_json p k [] = []
tasks_json p k (t ∷ ts) = task_json p k t ++ tasks_json p (k + 1) ts

-- a field, by its actor's number and its own, with its value
abbrev pub field_json : ScriptView → ℕ → ℕ → ℤ → List ℕ
field_json p k i v = comma 0 i ++ codes "\"" ++ field_name p k i ++ codes "\":" ++ signed_decimal v

-- an actor's fields from this number on
abbrev pub values_json : ScriptView → ℕ → ℕ → List ℤ → List ℕ
values_json p k i [] = []
values_json p k i (v ∷ vs) = field_json p k i v ++ values_json p k (i + 1) vs

-- an actor with its fields
abbrev pub actor_json : ScriptView → ℕ → List ℤ → List ℕ
actor_json p k row = comma 0 k ++ codes "\n\"" ++ actor_name p k ++ codes "\":{" ++ values_json p k 0 row ++ codes "}"

-- the fields of n actors from this number on
abbrev pub fields_json : ScriptView → List (Vec (Vec ℤ Global) Global) → ℕ → ℕ → List ℕ
fields_json p fields k zero = []
fields_json p fields k (suc n) = actor_json p k (row_of p fields k) ++ fields_json p fields (k + 1) n

-- A report on a script: the journals unless it is quiet, the tasks, and the fields.
abbrev pub report_json : ScriptView → Report → Bool → List ℕ
report_json p r quiet =
    codes "{" ++ journals_json p quiet r.checkpoints.items r.journals.items ++ codes "\"tasks\":[" ++ tasks_json p 0 r.endings.items ++ codes "],\n\"fields\":{" ++ fields_json p r.fields.items 0 (actor_count p) ++ codes "}}\n"
