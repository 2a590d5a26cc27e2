use Rattle.swift_syntax.specs.DeclaringInside.{Puts}
use Rattle.swift_syntax.specs.Declarations.{rows_of}
use Rattle.swift_syntax.proofs.Declaring.{PutSoFar}
use Rattle.swift_syntax.proofs.actor.params.Given as goal

abbrev pub invariant-loop : goal.invariant-loop
invariant-loop l = Puts l.fn.reader l.reader (λ a. PutSoFar a l.fn.reader.at l.reader.at (rows_of l.fn.reader.tree.value) (rows_of l.reader.tree.value))
