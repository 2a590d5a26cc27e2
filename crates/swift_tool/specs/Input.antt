-- What a read of a script takes of its reader.
use Rattle.std.specs.Prelude.{◌≡◌, ℕ, Option, List, ◌++◌, length}
use Rattle.std.specs.Io.KnownBytes.{Consumes}
use Rattle.swift_workers.specs.declared.fault.RunFault.TheVariants as run
use Rattle.swift_tool.specs.declared.fault.ToolFault.{ToolFault}
use Rattle.swift_tool.specs.declared.fault.ToolFault.TheVariants.{Script, Run, Device}

-- `n` bytes left the reader, and come after the text.
abbrev pub TakesMore : Option (List ℕ) → Option (List ℕ) → List ℕ → List ℕ → ℕ → Type 0
TakesMore before after old new n = (bytes : List ℕ) × (length bytes ≡ n) × (new ≡ old ++ bytes) × Consumes before after bytes

-- what a reading answers that gives up: `Device`, or out of memory; no fault of a script, and no other of a run
abbrev pub IsInputFault : ToolFault → Type 0
IsInputFault (Script fault) = ⊥
IsInputFault (Run fault) = fault ≡ run.Memory
IsInputFault Device = Unit {0}
