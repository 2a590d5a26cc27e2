use Rattle.std.proofs.Common.{◌≡◌, IsNone}
use Rattle.swift_expressions.specs.States.{state_of}
use Rattle.swift_lowering.proofs.checks.check_globals.Given as goal

-- nothing is put
abbrev pub invariant-loop-actor : goal.invariant-loop-actor
invariant-loop-actor l = record { state : IsNone l.lowering.refused → state_of l.lowering ≡ state_of l.fn.lowering; refused : IsNone l.lowering.refused → IsNone l.fn.lowering.refused }

abbrev pub invariant-loop-instance : goal.invariant-loop-instance
invariant-loop-instance l = record { state : IsNone l.lowering.refused → state_of l.lowering ≡ state_of l.fn.lowering; refused : IsNone l.lowering.refused → IsNone l.fn.lowering.refused }

abbrev pub invariant-loop-constant : goal.invariant-loop-constant
invariant-loop-constant l = record { state : IsNone l.lowering.refused → state_of l.lowering ≡ state_of l.fn.lowering; refused : IsNone l.lowering.refused → IsNone l.fn.lowering.refused }

abbrev pub invariant-loop-executor : goal.invariant-loop-executor
invariant-loop-executor l = record { state : IsNone l.lowering.refused → state_of l.lowering ≡ state_of l.fn.lowering; refused : IsNone l.lowering.refused → IsNone l.fn.lowering.refused }

abbrev pub invariant-loop-main : goal.invariant-loop-main
invariant-loop-main l = record { state : IsNone l.lowering.refused → state_of l.lowering ≡ state_of l.fn.lowering; refused : IsNone l.lowering.refused → IsNone l.fn.lowering.refused }

abbrev pub invariant-loop-other : goal.invariant-loop-other
invariant-loop-other l = record { state : IsNone l.lowering.refused → state_of l.lowering ≡ state_of l.fn.lowering; refused : IsNone l.lowering.refused → IsNone l.fn.lowering.refused }

abbrev pub invariant-loop-case : goal.invariant-loop-case
invariant-loop-case l = record { state : IsNone l.lowering.refused → state_of l.lowering ≡ state_of l.fn.lowering; refused : IsNone l.lowering.refused → IsNone l.fn.lowering.refused }

abbrev pub invariant-loop-method : goal.invariant-loop-method
invariant-loop-method l = record { state : IsNone l.lowering.refused → state_of l.lowering ≡ state_of l.fn.lowering; refused : IsNone l.lowering.refused → IsNone l.fn.lowering.refused }

abbrev pub invariant-loop-other-2 : goal.invariant-loop-other-2
invariant-loop-other-2 l = record { state : IsNone l.lowering.refused → state_of l.lowering ≡ state_of l.fn.lowering; refused : IsNone l.lowering.refused → IsNone l.fn.lowering.refused }

abbrev pub invariant-loop-local : goal.invariant-loop-local
invariant-loop-local l = record { state : IsNone l.lowering.refused → state_of l.lowering ≡ state_of l.fn.lowering; refused : IsNone l.lowering.refused → IsNone l.fn.lowering.refused }
