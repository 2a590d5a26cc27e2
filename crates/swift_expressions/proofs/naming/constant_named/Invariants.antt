use Rattle.std.proofs.Common.{ℕ, ◌<◌}
use Rattle.swift_expressions.specs.Scopes.{IsConstantAt}
use Rattle.swift_expressions.specs.States.{state_of}
use Rattle.swift_expressions.proofs.naming.constant_named.Given as goal

abbrev pub invariant-loop-place : goal.invariant-loop-place
invariant-loop-place l = (place : ℕ) → place < l.place → IsConstantAt (state_of l.lowering) l.token place → ⊥
