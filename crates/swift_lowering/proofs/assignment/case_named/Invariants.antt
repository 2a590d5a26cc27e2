use Rattle.std.proofs.Common.{ℕ, ◌<◌}
use Rattle.swift_expressions.specs.States.{state_of}
use Rattle.swift_lowering.specs.Statements.{IsCaseAt}
use Rattle.swift_lowering.proofs.assignment.case_named.Given as goal

abbrev pub invariant-loop-place : goal.invariant-loop-place
invariant-loop-place l = (place : ℕ) → place < l.place → IsCaseAt (state_of l.lowering) l.of l.name place → ⊥
