-- What an answer of the reader says.
use Rattle.std.specs.Prelude.{◌≡◌, Result, Ok, Err}
use Rattle.script_printing.specs.Script.{ScriptView}
use Rattle.swift_script.specs.declared.fault.ScriptFault.{ScriptFault}
use Rattle.swift_script.specs.declared.fault.ScriptFaultKind.TheVariants.{Memory}

-- the script of this tree, unless memory runs out
abbrev pub IsReadAs : ScriptView → Result ScriptView ScriptFault → Type 0
IsReadAs tree (Ok s) = s ≡ tree
IsReadAs tree (Err e) = e.kind ≡ Memory
