use Rattle.std.proofs.Common.{ℕ, ◌<◌}
use Rattle.swift_expressions.specs.Scopes.{IsActorAt}
use Rattle.swift_expressions.specs.States.{state_of}
use Rattle.swift_expressions.proofs.naming.actor_named.Given as goal

abbrev pub invariant-loop-place : goal.invariant-loop-place
invariant-loop-place l = (place : ℕ) → place < l.place → IsActorAt (state_of l.lowering) l.token place → ⊥
