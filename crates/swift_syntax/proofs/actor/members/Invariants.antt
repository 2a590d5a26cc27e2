use Rattle.swift_syntax.specs.Declarations.{SpellsMembers}
use Rattle.swift_syntax.proofs.DeclaredRows.{Goes}
use Rattle.swift_syntax.proofs.actor.members.Given as goal

abbrev pub invariant-loop : goal.invariant-loop
invariant-loop l = Goes (λ s. SpellsMembers s l.fn.actor) l.fn.reader l.reader
