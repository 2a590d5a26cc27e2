use Rattle.swift_expressions.specs.States.{state_of}
use Rattle.swift_expressions.proofs.Scoped.{FoundBelow}
use Rattle.swift_expressions.proofs.scope.find.Given as goal

abbrev pub invariant-loop-place : goal.invariant-loop-place
invariant-loop-place l = FoundBelow (state_of l.lowering) l.token l.place l.found
