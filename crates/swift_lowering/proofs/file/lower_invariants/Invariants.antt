use Rattle.std.proofs.Common.{IsNone, List, ℕ, drop, ◌++◌}
use Rattle.swift_syntax.specs.declared.tree.InvariantDecl.{InvariantDecl}
use Rattle.swift_expressions.specs.States.{State, state_of}
use Rattle.swift_lowering.specs.Files.{AsksAll, AsksInvariant}
use Rattle.swift_lowering.proofs.file.lower_invariants.Given as goal

-- what is left gives the values behind those so far
abbrev pub invariant-loop-invariant : goal.invariant-loop-invariant
invariant-loop-invariant l = record {
  refused : IsNone l.lowering.refused → IsNone l.fn.lowering.refused;
  goes_on : (t : State) (more : List ℕ) → IsNone l.lowering.refused → AsksAll InvariantDecl AsksInvariant (drop l.invariant-index l.invariants) (state_of l.lowering) t more → AsksAll InvariantDecl AsksInvariant l.invariants (state_of l.fn.lowering) t (l.values.items ++ more);
}
