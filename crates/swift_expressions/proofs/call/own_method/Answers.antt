use Rattle.swift_expressions.specs.Scopes as scopes
use Rattle.swift_expressions.proofs.Named.{called_named}
use Rattle.swift_expressions.proofs.call.own_method.Goals as goal

pub returns-in-Some-clause-named : goal.returns-in-Some-clause-named
returns-in-Some-clause-named c = λ n. called_named c.as_method.ensures.called (scopes.an_own c.in-Some.ensures.found)
