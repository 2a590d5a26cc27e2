use Rattle.swift_lowering.specs.Catching as catching
use Rattle.swift_lowering.proofs.Caught.{rewired_as}
use Rattle.swift_lowering.proofs.catching.rewired.Goals as goal

pub returns-in-Method-clause-rewires : goal.returns-in-Method-clause-rewires
returns-in-Method-clause-rewires c = λ n. rewired_as c.in-Method.is (catching.of_method (c.hand_over-handed.ensures.hands n))

pub returns-in-Own-clause-rewires : goal.returns-in-Own-clause-rewires
returns-in-Own-clause-rewires c = λ n. rewired_as c.in-Own.is (catching.of_own (c.hand_over-handed-in-Own.ensures.hands n))
