use Rattle.std.proofs.Common.{IsNone, List, ℕ, drop, ◌++◌}
use Rattle.swift_syntax.specs.declared.tree.ExpectDecl.{ExpectDecl}
use Rattle.swift_expressions.specs.States.{State, state_of}
use Rattle.swift_lowering.specs.Files.{AsksAll, AsksExpectation}
use Rattle.swift_lowering.proofs.file.lower_expectations.Given as goal

-- what is left gives the values behind those so far
abbrev pub invariant-loop-expectation : goal.invariant-loop-expectation
invariant-loop-expectation l = record {
  refused : IsNone l.lowering.refused → IsNone l.fn.lowering.refused;
  goes_on : (t : State) (more : List ℕ) → IsNone l.lowering.refused → AsksAll ExpectDecl AsksExpectation (drop l.expectation-index l.expectations) (state_of l.lowering) t more → AsksAll ExpectDecl AsksExpectation l.expectations (state_of l.fn.lowering) t (l.values.items ++ more);
}
