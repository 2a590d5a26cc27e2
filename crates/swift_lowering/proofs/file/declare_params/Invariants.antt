use Rattle.std.proofs.Common.{IsNone, ℕ, drop}
use Rattle.swift_syntax.specs.declared.tree.ParamDecl.{ParamDecl}
use Rattle.swift_expressions.specs.States.{State, state_of}
use Rattle.swift_lowering.specs.Files.{InOrder, TakesParam}
use Rattle.swift_lowering.proofs.file.declare_params.Given as goal

-- what is left puts what all put
abbrev pub invariant-loop-param : goal.invariant-loop-param
invariant-loop-param l = record {
  refused : IsNone l.lowering.refused → IsNone l.fn.lowering.refused;
  goes_on : (t : State) → IsNone l.lowering.refused → ((place : ℕ) → InOrder ParamDecl TakesParam place (drop l.param-index l.params) (state_of l.lowering) t) → (place : ℕ) → InOrder ParamDecl TakesParam place l.params (state_of l.fn.lowering) t;
}
