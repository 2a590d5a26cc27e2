use Rattle.std.proofs.Common.{◌≡◌, IsNone}
use Rattle.swift_expressions.specs.States.{state_of}
use Rattle.swift_lowering.proofs.checks.check_instance.Given as goal

-- nothing is put
abbrev pub invariant-loop-number : goal.invariant-loop-number
invariant-loop-number l = record { state : IsNone l.lowering.refused → state_of l.lowering ≡ state_of l.fn.lowering; refused : IsNone l.lowering.refused → IsNone l.fn.lowering.refused }
