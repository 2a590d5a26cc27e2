use Rattle.swift_expressions.proofs.Named.{received}
use Rattle.swift_expressions.proofs.call.method_of.Goals as goal

pub returns-in-Nobody-clause-named : goal.returns-in-Nobody-clause-named
returns-in-Nobody-clause-named c = λ n. received c.in-Nobody.is (c.method_of_nobody.ensures.named n)

pub returns-in-Own-clause-named : goal.returns-in-Own-clause-named
returns-in-Own-clause-named c = λ n. received c.in-Own.is (c.own_method.ensures.named n)

pub returns-in-Named-clause-named : goal.returns-in-Named-clause-named
returns-in-Named-clause-named c = λ n. received c.in-Named.is (c.method_of_name.ensures.named n)
