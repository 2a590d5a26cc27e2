use Rattle.swift_lowering.proofs.Enclosed.{unit_begun}
use Rattle.swift_lowering.proofs.unit.begin_unit.Goals as goal

pub returns-clause-begins : goal.returns-clause-begins
returns-clause-begins c = λ n2. unit_begun c.own_actor-actor.ensures c.own_method-method.ensures (c.unit-unit.ensures.begun (c.put.ensures.refused n2)) (c.put.ensures.state n2)
