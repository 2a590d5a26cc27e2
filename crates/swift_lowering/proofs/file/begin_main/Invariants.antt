use Rattle.std.proofs.Common.{IsNone, ℕ, drop}
use Rattle.swift_syntax.specs.declared.tree.MethodDecl.{MethodDecl}
use Rattle.swift_expressions.specs.States.{State, state_of}
use Rattle.swift_lowering.specs.Files.{BeginsMain, InOrder}
use Rattle.swift_lowering.proofs.file.begin_main.Given as goal

-- what is left puts what all put
abbrev pub invariant-loop-main : goal.invariant-loop-main
invariant-loop-main l = record {
  refused : IsNone l.lowering.refused → IsNone l.fn.lowering.refused;
  goes_on : (t : State) → IsNone l.lowering.refused → ((place : ℕ) → InOrder MethodDecl BeginsMain place (drop l.main-index l.mains) (state_of l.lowering) t) → (place : ℕ) → InOrder MethodDecl BeginsMain place l.mains (state_of l.fn.lowering) t;
}
