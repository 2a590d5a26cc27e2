use Rattle.std.proofs.Common.{IsNone, drop}
use Rattle.swift_syntax.specs.declared.tree.MethodDecl.{MethodDecl}
use Rattle.swift_expressions.specs.States.{State, state_of}
use Rattle.swift_lowering.specs.Files.{InOrder, LowersMethod}
use Rattle.swift_lowering.proofs.file.lower_each.Given as goal

-- what is left puts what all put
abbrev pub invariant-loop-method : goal.invariant-loop-method
invariant-loop-method l = record {
  refused : IsNone l.lowering.refused → IsNone l.fn.lowering.refused;
  goes_on : (t : State) → IsNone l.lowering.refused → InOrder MethodDecl LowersMethod l.unit (drop l.method-index l.methods) (state_of l.lowering) t → InOrder MethodDecl LowersMethod l.fn.first l.methods (state_of l.fn.lowering) t;
}
