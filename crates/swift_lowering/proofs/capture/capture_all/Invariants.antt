use Rattle.std.proofs.Common.{IsNone}
use Rattle.swift_expressions.specs.States.{state_of}
use Rattle.swift_lowering.specs.Closures.{CapturesAll}
use Rattle.swift_lowering.proofs.capture.capture_all.Given as goal

-- what was captured so far
abbrev pub invariant-loop-token : goal.invariant-loop-token
invariant-loop-token l = record { refused : IsNone l.lowering.refused → IsNone l.fn.lowering.refused; captures : IsNone l.lowering.refused → CapturesAll (state_of l.fn.lowering) l.unit (state_of l.lowering) l.first l.last }
