use Rattle.std.proofs.Common.{◌≡◌, IsNone}
use Rattle.swift_expressions.specs.States.{state_of}
use Rattle.swift_lowering.proofs.checks.check_members.Given as goal

-- nothing is put
abbrev pub invariant-loop-other : goal.invariant-loop-other
invariant-loop-other l = record { state : IsNone l.lowering.refused → state_of l.lowering ≡ state_of l.fn.lowering; refused : IsNone l.lowering.refused → IsNone l.fn.lowering.refused }

abbrev pub invariant-loop-field : goal.invariant-loop-field
invariant-loop-field l = record { state : IsNone l.lowering.refused → state_of l.lowering ≡ state_of l.fn.lowering; refused : IsNone l.lowering.refused → IsNone l.fn.lowering.refused }

abbrev pub invariant-loop-method : goal.invariant-loop-method
invariant-loop-method l = record { state : IsNone l.lowering.refused → state_of l.lowering ≡ state_of l.fn.lowering; refused : IsNone l.lowering.refused → IsNone l.fn.lowering.refused }

abbrev pub invariant-loop-other-2 : goal.invariant-loop-other-2
invariant-loop-other-2 l = record { state : IsNone l.lowering.refused → state_of l.lowering ≡ state_of l.fn.lowering; refused : IsNone l.lowering.refused → IsNone l.fn.lowering.refused }

abbrev pub invariant-loop-field-2 : goal.invariant-loop-field-2
invariant-loop-field-2 l = record { state : IsNone l.lowering.refused → state_of l.lowering ≡ state_of l.fn.lowering; refused : IsNone l.lowering.refused → IsNone l.fn.lowering.refused }
