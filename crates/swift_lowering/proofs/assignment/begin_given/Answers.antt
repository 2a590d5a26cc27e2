use Rattle.swift_lowering.proofs.Caught.{caught_given, caught_set}
use Rattle.swift_lowering.proofs.assignment.begin_given.Goals as goal

pub returns-in-Assign-clause-gives : goal.returns-in-Assign-clause-gives
returns-in-Assign-clause-gives c = λ n2. caught_set c.in-Assign.is (c.begin_came.ensures.state (c.set.ensures.refused n2)) (c.set.ensures.state n2)

pub returns-in-Value-clause-gives : goal.returns-in-Value-clause-gives
returns-in-Value-clause-gives c = λ n2. caught_given c.in-Value.is (c.begin_came.ensures.state (c.give.ensures.refused n2)) (c.give.ensures.gives n2)
