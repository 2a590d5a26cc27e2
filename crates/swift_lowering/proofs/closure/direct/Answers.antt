use Rattle.swift_lowering.proofs.Enclosed.{direct_from}
use Rattle.swift_lowering.proofs.closure.direct.Goals as goal

pub returns-clause-direct : goal.returns-clause-direct
returns-clause-direct c = λ n2. direct_from (c.refuse_unknown.ensures.state (c.hand_over.ensures.refused n2)) c.uncovered-place.ensures c.in-Some.ensures (c.hand_over.ensures.hands n2)
