use Rattle.swift_lowering.proofs.Filed.{method_lowered}
use Rattle.swift_lowering.proofs.file.lower_method.Goals as goal

pub returns-clause-lowers : goal.returns-clause-lowers
returns-clause-lowers c = λ n.
    let n4 = c.bound.ensures.refused n in
    let n3 = c.leave.ensures.refused n4 in
    let n2 = c.method_body.ensures.refused n3 in
    let n1 = c.declare_params.ensures.refused n2 in
    method_lowered (c.enter.ensures.state n1) (c.declare_params.ensures.takes n2) (c.method_body.ensures.body n3) (c.leave.ensures.state n4) c.here-from.ensures c.here-to.ensures (c.bound.ensures.state n)
