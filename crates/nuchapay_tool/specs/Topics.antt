-- By which words refusals and faults are asked for (our own).
use Rattle.std.specs.Prelude.{ℕ, List, codes}
use Rattle.swift_script.specs.declared.fault.ScriptFaultKind.{ScriptFaultKind}
use Rattle.swift_script.specs.declared.fault.ScriptFaultKind.TheVariants as kind
use Rattle.nuchapay_tool.specs.declared.topic.RunRefusal.{RunRefusal}
use Rattle.nuchapay_tool.specs.declared.topic.RunRefusal.TheVariants as run
use Rattle.nuchapay_tool.specs.declared.topic.TurnFault.{TurnFault}
use Rattle.nuchapay_tool.specs.declared.topic.TurnFault.TheVariants as turn
use Rattle.nuchapay_tool.specs.declared.topic.Topic.{Topic}
use Rattle.nuchapay_tool.specs.declared.topic.Topic.TheVariants.{Script, Run, Turn}

-- the number of a refusal of a script
abbrev pub refusal_name : ScriptFaultKind → List ℕ
refusal_name kind.NotText = codes "S1"
refusal_name kind.Unexpected = codes "S2"
refusal_name kind.OutOfRange = codes "S3"
refusal_name kind.NameTwice = codes "S4"
refusal_name kind.UnknownName = codes "S5"
refusal_name kind.Arguments = codes "S6"
refusal_name kind.Confused = codes "S7"
refusal_name kind.InvariantFalse = codes "S8"
refusal_name kind.BoundInside = codes "S9"
refusal_name kind.RootWaits = codes "S10"
refusal_name kind.LimitPassed = codes "S11"
refusal_name kind.EndsEarly = codes "S12"
refusal_name kind.TooDeep = codes "S13"
refusal_name kind.Memory = codes "S14"

-- the number of a refusal of a run
abbrev pub run_refusal_name : RunRefusal → List ℕ
run_refusal_name run.Workers = codes "N1"
run_refusal_name run.Memory = codes "N2"
run_refusal_name run.Unfinished = codes "N3"
run_refusal_name run.Illegal = codes "N4"
run_refusal_name run.Executor = codes "N5"

-- the word of a fault of a turn
abbrev pub turn_fault_name : TurnFault → List ℕ
turn_fault_name turn.Thrown = codes "thrown"
turn_fault_name turn.Cancelled = codes "cancelled"
turn_fault_name turn.Invariant = codes "invariant"
turn_fault_name turn.Overflow = codes "overflow"
turn_fault_name turn.Steps = codes "steps"
turn_fault_name turn.Tasks = codes "tasks"
turn_fault_name turn.Isolation = codes "isolation"
turn_fault_name turn.Empty = codes "empty"
turn_fault_name turn.Depth = codes "depth"
turn_fault_name turn.Turns = codes "turns"

-- the word by which a topic is asked for: the number of a refusal of a script or of a run, or the word of a fault of a turn
abbrev pub name_of : Topic → List ℕ
name_of (Script k) = refusal_name k
name_of (Run r) = run_refusal_name r
name_of (Turn f) = turn_fault_name f
