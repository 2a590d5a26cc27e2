use Rattle.swift_syntax.specs.Declarations.{SpellsLocals}
use Rattle.swift_syntax.proofs.DeclaredRows.{Goes}
use Rattle.swift_syntax.proofs.declaration.locals.Given as goal

abbrev pub invariant-loop : goal.invariant-loop
invariant-loop l = Goes (λ s. SpellsLocals s l.fn.of) l.fn.reader l.reader
