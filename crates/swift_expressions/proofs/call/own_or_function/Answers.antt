use Rattle.swift_expressions.specs.Scopes as scopes
use Rattle.swift_expressions.proofs.Named.{called_named}
use Rattle.swift_expressions.proofs.call.own_or_function.Goals as goal

pub returns-in-Some-clause-named : goal.returns-in-Some-clause-named
returns-in-Some-clause-named c = λ n free. called_named c.as_method.ensures.called (scopes.a_method free c.in-Some.ensures.found)

pub returns-clause-named : goal.returns-clause-named
returns-clause-named c = λ n free. called_named c.as_method-2.ensures.called (scopes.a_function free c.in_default.ensures.none c.in-Some-function_named.ensures.found)
