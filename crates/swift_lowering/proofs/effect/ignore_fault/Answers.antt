use Rattle.swift_lowering.proofs.Stated.{caught_by_try}
use Rattle.swift_lowering.proofs.effect.ignore_fault.Goals as goal

pub returns-clause-lets_go : goal.returns-clause-lets_go
returns-clause-lets_go c = λ place e n3.
    let n2 = c.expression.ensures.refused (c.refuse_where.ensures.refused n3) in
    let n1 = c.number-zero.ensures.refused n2 in
    caught_by_try e (c.want_wait.ensures.state n1) (c.number-zero.ensures.state n2) c.number-zero.ensures.place (c.expression.ensures.lowers (c.refuse_where.ensures.refused n3)) (c.refuse_where.ensures.state n3)
