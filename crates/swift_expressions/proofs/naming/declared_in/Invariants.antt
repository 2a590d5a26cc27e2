use Rattle.std.proofs.Common.{ℕ, ◌<◌}
use Rattle.swift_expressions.specs.Scopes.{IsMethodAt}
use Rattle.swift_expressions.specs.States.{state_of}
use Rattle.swift_expressions.proofs.naming.declared_in.Given as goal

abbrev pub invariant-loop-place : goal.invariant-loop-place
invariant-loop-place l = (place : ℕ) → place < l.place → IsMethodAt (state_of l.lowering) l.actor l.token place → ⊥
