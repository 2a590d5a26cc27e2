use Rattle.std.proofs.Common.{IsNone}
use Rattle.swift_expressions.specs.Lowered.{Grows}
use Rattle.swift_expressions.specs.States.{state_of}
use Rattle.swift_lowering.proofs.print.print_values.Given as goal

-- what was put stays
abbrev pub invariant-loop : goal.invariant-loop
invariant-loop l = record { grows : IsNone l.lowering.refused → Grows (state_of l.fn.lowering) (state_of l.lowering); refused : IsNone l.lowering.refused → IsNone l.fn.lowering.refused }
