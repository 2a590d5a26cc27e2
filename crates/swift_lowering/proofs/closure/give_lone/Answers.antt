use Rattle.swift_lowering.proofs.Enclosed.{given_alone}
use Rattle.swift_lowering.proofs.closure.give_lone.Goals as goal

pub returns-clause-given : goal.returns-clause-given
returns-clause-given c = λ n2. given_alone (c.expression-found.ensures.lowers (c.put.ensures.refused n2)) c.given_back.ensures (c.put.ensures.state n2)
