use Rattle.std.proofs.Common.{length}
use Rattle.swift_syntax.specs.Declarations.{SpellsCases}
use Rattle.swift_syntax.proofs.DeclaredRows.{Goes}
use Rattle.swift_syntax.proofs.declaration.faults.Given as goal

abbrev pub invariant-loop : goal.invariant-loop
invariant-loop l = Goes (λ s. SpellsCases s.lexed l.fn.of (length l.fn.reader.tree.value.cases.items)) l.fn.reader l.reader
