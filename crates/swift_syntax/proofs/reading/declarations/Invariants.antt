use Rattle.swift_syntax.specs.Declarations.{SpellsDeclarations}
use Rattle.swift_syntax.proofs.DeclaredRows.{Goes}
use Rattle.swift_syntax.proofs.reading.declarations.Given as goal

abbrev pub invariant-loop : goal.invariant-loop
invariant-loop l = Goes (λ s i j r t. SpellsDeclarations s i r t) l.fn.reader l.reader
