use Rattle.std.proofs.Common.{sym}
use Rattle.swift_expressions.specs.Scopes as scopes
use Rattle.swift_expressions.proofs.Named.{called_named}
use Rattle.swift_expressions.proofs.call.scope_method.Goals as goal

pub returns-in-Group-clause-named : goal.returns-in-Group-clause-named
returns-in-Group-clause-named c = λ n of innermost. c.group_method.ensures.named n of innermost (sym c.in-Some.ensures) c.in-Group.is

pub returns-then-spells-clause-named : goal.returns-then-spells-clause-named
returns-then-spells-clause-named c = λ n of innermost. called_named c.as_method.ensures.called (scopes.cancels innermost (sym c.in-Some.ensures) c.in-Task.is (c.spells.ensures.0 c.if-spells.true))
