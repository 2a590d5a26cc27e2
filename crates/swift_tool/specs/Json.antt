-- What is written of a run as JSON.
use Rattle.std.specs.Prelude.{◌≡◌, ℕ, Bool, Option, List}
use Rattle.std.specs.Io.KnownBytes.{Appends}
use Rattle.swift_report.specs.Part.{WritesPart}
use Rattle.swift_report.specs.ReportJson.{report_json}
use Rattle.swift_tool.specs.Run.{IsRefusal, IsRunOf}
use Rattle.swift_tool.specs.declared.fault.ToolFault.{ToolFault}
use Rattle.swift_tool.specs.declared.fault.ToolFault.TheVariants as tool

-- A text is the JSON of a run's report, of the script that these bytes spell: of the report that has this plain text. `well` says
-- whether each task has ended with a value.
pub record IsJsonOf (bytes : List ℕ) (quiet : Bool) (text : List ℕ) (well : Bool) : Type 0 where
  pub plain : List ℕ
  pub of : IsRunOf bytes quiet plain well
  pub is : text ≡ report_json of.script of.report quiet

-- The JSON of a run of this script is appended to what was written.
pub record WritesJson (bytes : List ℕ) (quiet well : Bool) (old new : Option (List ℕ)) : Type 0 where
  pub text : List ℕ
  pub is : IsJsonOf bytes quiet text well
  pub appended : Appends old new text

-- A prefix of the JSON of a run of this script is appended to what was written, and not all of it.
pub record WritesJsonPrefix (bytes : List ℕ) (quiet : Bool) (old new : Option (List ℕ)) : Type 0 where
  pub text : List ℕ
  pub well : Bool
  pub is : IsJsonOf bytes quiet text well
  pub part : WritesPart old new text

-- Why not all was written, and what was: nothing where the script or the run was refused, and a prefix of the JSON of a run where a
-- device failed.
abbrev pub Leaves : List ℕ → ℕ → Bool → Option (List ℕ) → Option (List ℕ) → ToolFault → Type 0
Leaves bytes workers quiet old new (tool.Script f) = IsRefusal bytes workers (tool.Script f) × (new ≡ old)
Leaves bytes workers quiet old new (tool.Run f) = IsRefusal bytes workers (tool.Run f) × (new ≡ old)
Leaves bytes workers quiet old new tool.Device = WritesJsonPrefix bytes quiet old new
