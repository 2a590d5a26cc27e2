use Rattle.swift_syntax.specs.Declarations.{SpellsSomeCases}
use Rattle.swift_syntax.proofs.DeclaredRows.{Goes}
use Rattle.swift_syntax.proofs.declaration.cases.Given as goal

abbrev pub invariant-loop : goal.invariant-loop
invariant-loop l = Goes (λ s. SpellsSomeCases s.lexed l.fn.of l.fn.first) l.fn.reader l.reader
