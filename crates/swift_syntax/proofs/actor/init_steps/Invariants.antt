use Rattle.swift_syntax.specs.DeclaringInside.{GivesAll}
use Rattle.swift_syntax.proofs.DeclaredRows.{Goes}
use Rattle.swift_syntax.proofs.actor.init_steps.Given as goal

abbrev pub invariant-loop : goal.invariant-loop
invariant-loop l = Goes (λ s. GivesAll s l.fn.actor) l.fn.reader l.reader
