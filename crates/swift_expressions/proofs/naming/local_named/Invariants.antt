use Rattle.std.proofs.Common.{ℕ, ◌<◌}
use Rattle.swift_expressions.specs.Scopes.{IsLocalAt}
use Rattle.swift_expressions.specs.States.{state_of}
use Rattle.swift_expressions.proofs.naming.local_named.Given as goal

abbrev pub invariant-loop-place : goal.invariant-loop-place
invariant-loop-place l = (place : ℕ) → place < l.place → IsLocalAt (state_of l.lowering) l.of l.token place → ⊥
