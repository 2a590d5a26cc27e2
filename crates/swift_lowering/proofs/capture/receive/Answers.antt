use Rattle.swift_lowering.proofs.Enclosed.{received}
use Rattle.swift_lowering.proofs.capture.receive.Goals as goal

pub returns-clause-receives : goal.returns-clause-receives
returns-clause-receives c = λ n2. received (c.variable-variable.ensures.declared (c.declare.ensures.refused n2)) c.variable-variable.ensures.place (c.declare.ensures.binds n2)
