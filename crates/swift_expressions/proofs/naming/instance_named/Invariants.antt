use Rattle.std.proofs.Common.{ℕ, ◌<◌}
use Rattle.swift_expressions.specs.Scopes.{IsInstanceAt}
use Rattle.swift_expressions.specs.States.{state_of}
use Rattle.swift_expressions.proofs.naming.instance_named.Given as goal

abbrev pub invariant-loop-place : goal.invariant-loop-place
invariant-loop-place l = (place : ℕ) → place < l.place → IsInstanceAt (state_of l.lowering) l.token place → ⊥
