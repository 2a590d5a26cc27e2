use Rattle.std.proofs.Common.{◌≡◌, IsNone}
use Rattle.swift_expressions.specs.States.{state_of}
use Rattle.swift_lowering.proofs.checks.check_whole.Given as goal

-- nothing is put
abbrev pub invariant-loop-place : goal.invariant-loop-place
invariant-loop-place l = record { state : IsNone l.lowering.refused → state_of l.lowering ≡ state_of l.fn.lowering; refused : IsNone l.lowering.refused → IsNone l.fn.lowering.refused }

abbrev pub invariant-loop-instance : goal.invariant-loop-instance
invariant-loop-instance l = record { state : IsNone l.lowering.refused → state_of l.lowering ≡ state_of l.fn.lowering; refused : IsNone l.lowering.refused → IsNone l.fn.lowering.refused }

abbrev pub invariant-loop-place-2 : goal.invariant-loop-place-2
invariant-loop-place-2 l = record { state : IsNone l.lowering.refused → state_of l.lowering ≡ state_of l.fn.lowering; refused : IsNone l.lowering.refused → IsNone l.fn.lowering.refused }
