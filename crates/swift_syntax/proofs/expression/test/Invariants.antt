use Rattle.swift_syntax.specs.Statements.{SpellsTests}
use Rattle.swift_syntax.proofs.Steps.{Took}
use Rattle.swift_syntax.proofs.expression.test.Given as goal

abbrev pub invariant-loop : goal.invariant-loop
invariant-loop l = Took l.fn.reader l.reader (λ a. SpellsTests a l.fn.reader.at l.reader.at l.left)
