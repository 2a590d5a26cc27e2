use Rattle.swift_expressions.proofs.call.method_of_nobody.Goals as goal

pub returns-clause-named : goal.returns-clause-named
returns-clause-named c = λ n. c.own_or_function.ensures.named n c.in_default.ensures.none
