use Rattle.swift_expressions.proofs.Named.{another_named, called_named}
use Rattle.swift_expressions.proofs.Scoped.{not_true}
use Rattle.swift_expressions.proofs.call.method_of_name.Goals as goal

pub returns-in-Some-clause-named : goal.returns-in-Some-clause-named
returns-in-Some-clause-named c = λ n. c.scope_method.ensures.named n c.args.of c.in-Some.ensures.found

pub returns-then-spells-clause-named : goal.returns-then-spells-clause-named
returns-then-spells-clause-named c = λ n. c.task_method.ensures.named n c.args.of c.in_default.ensures.none (c.spells.ensures.0 c.if-spells.true)

pub returns-clause-named : goal.returns-clause-named
returns-clause-named c = λ n. called_named c.as_method.ensures.called
    (another_named (record { free = c.in_default.ensures.none; other = λ x. not_true c.if-spells.false (c.spells.ensures.1 x) }) c.in-Some-instance_named.ensures.found (c.refuse_hidden.ensures.state n) c.actor_of-actor.ensures.found c.in-Some-method_named.ensures.found)
