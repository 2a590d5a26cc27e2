-- Which faults undo a turn.
use Rattle.std.specs.Prelude.{Bool, true}
use Rattle.swift_types.specs.declared.outcome.Fault.{Fault}
use Rattle.swift_types.specs.declared.outcome.Fault.TheVariants.{Invariant}
use Rattle.swift_interpreter.specs.Turn.{failing, undoes}

-- A fault undoes the turn in which it comes up: that of a false invariant, and each that undoes a turn which ends with it.
abbrev pub undoes_its_turn : Fault → Bool
undoes_its_turn Invariant = true
undoes_its_turn f = undoes (failing f)
