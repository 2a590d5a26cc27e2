-- The status with which a program ends.
use Rattle.std.specs.Prelude.{ℕ, Bool, true, false, Result, Ok, Err}
use Rattle.swift_tool.specs.declared.fault.ToolFault.{ToolFault}
use Rattle.swift_tool.specs.declared.fault.ToolFault.TheVariants.{Script, Run, Device}

-- 3 for a script that was refused, else 4
abbrev pub status_of_fault : ToolFault → ℕ
status_of_fault (Script fault) = 3
status_of_fault (Run fault) = 4
status_of_fault Device = 4

-- 0 where each task ended with a value, 1 where one ended with a fault
abbrev pub status_of : Result Bool ToolFault → ℕ
status_of (Ok true) = 0
status_of (Ok false) = 1
status_of (Err fault) = status_of_fault fault
