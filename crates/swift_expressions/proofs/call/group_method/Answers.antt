use Rattle.swift_expressions.specs.Scopes as scopes
use Rattle.swift_expressions.proofs.Named.{called_named}
use Rattle.swift_expressions.proofs.call.group_method.Goals as goal

pub returns-then-spells-clause-named : goal.returns-then-spells-clause-named
returns-then-spells-clause-named c = λ n of innermost at is. called_named c.as_method.ensures.called (scopes.a_next innermost at is (c.spells.ensures.0 c.if-spells.true))

pub returns-then-spells-2-clause-named : goal.returns-then-spells-2-clause-named
returns-then-spells-2-clause-named c = λ n of innermost at is. called_named c.as_method-then-spells-2.ensures.called (scopes.a_wait innermost at is (c.spells-2.ensures.0 c.if-spells-2.true))

pub returns-then-spells-3-clause-named : goal.returns-then-spells-3-clause-named
returns-then-spells-3-clause-named c = λ n of innermost at is. called_named c.as_method-then-spells-3.ensures.called (scopes.cancels_all innermost at is (c.spells-3.ensures.0 c.if-spells-3.true))
