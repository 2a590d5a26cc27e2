-- What the program writes of a run.
use Rattle.std.specs.Prelude.{◌≡◌, ◌⊎◌, ◌<◌, ◌≤◌, ℕ, ℤ, Bool, true, false, IsTrue, Option, List, [], ◌∷◌, length}
use Rattle.std.specs.declared.vec.Vec.{Vec}
use Rattle.std.specs.declared.alloc.Global.{Global}
use Rattle.swift_types.specs.declared.limits.TheConstants.{WORKERS}
use Rattle.swift_types.specs.declared.outcome.Ending.{Ending}
use Rattle.swift_types.specs.declared.outcome.Ending.TheVariants.{Value, Fault}
use Rattle.swift_events.specs.declared.life.Origin.{Origin}
use Rattle.std.specs.Io.KnownBytes.{Appends}
use Rattle.swift_script.specs.Accepted.{IsAccepted}
use Rattle.swift_script.specs.Refuses.{Refuses}
use Rattle.swift_script.specs.FaultPlaces.{IsAtItsPlace}
use Rattle.swift_history.specs.Orderly.{IsOrderlyLegal}
use Rattle.swift_course.specs.Whole.{HasWhole}
use Rattle.swift_certificate.specs.Reports.{report_view}
use Rattle.swift_report.specs.Part.{WritesPart}
use Rattle.swift_workers.specs.Leaves.{AreEndings, AreReplayed, EachFrom}
use Rattle.swift_workers.specs.declared.fault.RunFault.{RunFault}
use Rattle.swift_workers.specs.declared.fault.RunFault.TheVariants.{Workers, Memory, Unfinished, Illegal, Executor}
use Rattle.swift_tool.specs.declared.fault.ToolFault.{ToolFault}
use Rattle.swift_tool.specs.declared.fault.ToolFault.TheVariants as tool
use Rattle.script_code.specs.Seen.{rows_of}
use Rattle.swift_interpreter.specs.Turn.{all_hold}
use Rattle.swift_script.specs.Scripts.{ScriptView, executor_count, executor_invariants, root_count}
use Rattle.swift_report.specs.declared.report.Report.{Report}
use Rattle.swift_report.specs.Text.{report_text}

-- whether a task ended with a value, and `others` holds
abbrev pub ends_well : Ending → Bool → Bool
ends_well (Value v) others = others
ends_well (Fault f) others = false

-- whether each task ended with a value
abbrev pub end_well : List (Origin × Ending) → Bool
end_well [] = true
end_well (e ∷ es) = ends_well e.1 (end_well es)

-- Of each executor from a number on, each invariant of its actors holds of these fields.
abbrev pub HoldInvariants : ScriptView → ℕ → List (Vec (Vec ℤ Global) Global) → Type 0
HoldInvariants p e fields = EachFrom (λ k rows. IsTrue (all_hold (executor_invariants p k) (rows_of rows.items))) e fields

-- A text is that of a run of the script that these bytes spell. The run's report is legal, and its blocks are in order; and it is the fold
-- of such a report that has each turn of the run, those too that a checkpoint has folded. Of each executor the journal is lawful from its
-- checkpoint on, its turns are of the executor's actors, and the fields are what replaying them gives; each invariant holds of the fields.
-- The log says of each task where it comes from and how it has ended, and the first tasks are those of the roots, in order of declaration.
-- `well` says whether each has ended with a value.
pub record IsRunOf (bytes : List ℕ) (quiet : Bool) (text : List ℕ) (well : Bool) : Type 0 where
  pub script : ScriptView
  pub report : Report
  pub accepted : IsAccepted bytes script
  pub legal : IsOrderlyLegal script (report_view report)
  pub whole : HasWhole script (report_view report)
  pub replayed : AreReplayed script 0 report.checkpoints.items report.journals.items report.fields.items
  pub journals : length report.journals.items ≡ executor_count script
  pub checkpoints : length report.checkpoints.items ≡ executor_count script
  pub fields : length report.fields.items ≡ executor_count script
  pub invariants : HoldInvariants script 0 report.fields.items
  pub endings : AreEndings (root_count script) report.log.events report.endings.items
  pub ended : well ≡ end_well report.endings.items
  pub printed : text ≡ report_text script report quiet

-- The text of a run of this script is appended to what was written.
pub record WritesRun (bytes : List ℕ) (quiet well : Bool) (old new : Option (List ℕ)) : Type 0 where
  pub text : List ℕ
  pub is : IsRunOf bytes quiet text well
  pub appended : Appends old new text

-- A prefix of the text of a run of this script is appended to what was written, and not all of it.
pub record WritesPrefix (bytes : List ℕ) (quiet : Bool) (old new : Option (List ℕ)) : Type 0 where
  pub text : List ℕ
  pub well : Bool
  pub is : IsRunOf bytes quiet text well
  pub part : WritesPart old new text

-- from 1 to 8 workers
abbrev pub IsCrew : ℕ → Type 0
IsCrew workers = (0 < workers) × (workers ≤ WORKERS)

-- A run of these bytes has from 1 to 8 workers, `workers` in number, and is of a script that is accepted.
abbrev pub IsRunning : List ℕ → ℕ → Type 0
IsRunning bytes workers = IsCrew workers × ((script : ScriptView) × IsAccepted bytes script)

-- Why a run of these bytes was refused: a number of workers other than 1 to 8, which is looked at first, or else, of a
-- script that is accepted, memory ran out, a task was left, or an executor refused. No run is refused for a report that is not legal.
abbrev pub IsRunRefusal : List ℕ → ℕ → RunFault → Type 0
IsRunRefusal bytes workers Workers = (workers ≡ 0) ⊎ (WORKERS < workers)
IsRunRefusal bytes workers Memory = IsRunning bytes workers
IsRunRefusal bytes workers Unfinished = IsRunning bytes workers
IsRunRefusal bytes workers Illegal = ⊥
IsRunRefusal bytes workers Executor = IsRunning bytes workers

-- Why no run of these bytes gave a text: the script was refused, for the stated cause and on its line, or the run was.
abbrev pub IsRefusal : List ℕ → ℕ → ToolFault → Type 0
IsRefusal bytes workers (tool.Script f) = IsCrew workers × Refuses f.kind bytes × IsAtItsPlace f bytes
IsRefusal bytes workers (tool.Run f) = IsRunRefusal bytes workers f
IsRefusal bytes workers tool.Device = ⊥

-- Why not all was written, and what was: nothing where the script or the run was refused, and a prefix of the text of a
-- run where a device failed.
abbrev pub Leaves : List ℕ → ℕ → Bool → Option (List ℕ) → Option (List ℕ) → ToolFault → Type 0
Leaves bytes workers quiet old new (tool.Script f) = IsRefusal bytes workers (tool.Script f) × (new ≡ old)
Leaves bytes workers quiet old new (tool.Run f) = IsRefusal bytes workers (tool.Run f) × (new ≡ old)
Leaves bytes workers quiet old new tool.Device = WritesPrefix bytes quiet old new
