use Rattle.std.proofs.Common.{refl}
use Rattle.swift_lowering.specs.Statements as statements
use Rattle.swift_lowering.proofs.Stated.{given_to}
use Rattle.swift_lowering.proofs.assignment.give.Goals as goal

pub returns-in-Nothing-clause-gives : goal.returns-in-Nothing-clause-gives
returns-in-Nothing-clause-gives c = λ n. given_to c.in-Nothing.is (statements.nothing refl)

pub returns-in-Let-clause-gives : goal.returns-in-Let-clause-gives
returns-in-Let-clause-gives c = λ n. given_to c.in-Let.is (statements.constant (c.define.ensures.defines n))

pub returns-in-Var-clause-gives : goal.returns-in-Var-clause-gives
returns-in-Var-clause-gives c = λ n. given_to c.in-Var.is (statements.variable (c.define-in-Var.ensures.defines n))

pub returns-in-Assign-clause-gives : goal.returns-in-Assign-clause-gives
returns-in-Assign-clause-gives c = λ n. let d = c.set.ensures.state n in given_to c.in-Assign.is (statements.assigned d.0 d.1 d.2)

pub returns-in-Return-clause-gives : goal.returns-in-Return-clause-gives
returns-in-Return-clause-gives c = λ n. given_to c.in-Return.is (statements.goes_back (c.give_back.ensures.state n))
