use Rattle.std.proofs.Common.{refl}
use Rattle.swift_expressions.proofs.Grown.{alike, keeps_grow, lowers_grow, on, same, stays, to}
use Rattle.swift_lowering.proofs.print.printed.Goals as goal

pub returns-clause-grows : goal.returns-clause-grows
returns-clause-grows c = λ n3.
    let n2 = c.operand.ensures.refused n3 in
    let n1 = c.keep-kept.ensures.refused n2 in
    on (lowers_grow (c.expression-found.ensures.lowers (c.refuse_where.ensures.refused n1))) (on (same (c.refuse_where.ensures.state n1)) (on (keeps_grow (c.keep-kept.ensures.keeps n2)) (to (c.operand.ensures.state n3) (alike (stays _) refl refl refl))))
