use Rattle.swift_lowering.proofs.Caught.{tried}
use Rattle.swift_lowering.proofs.catching.lower_wait.Goals as goal

pub returns-clause-tries : goal.returns-clause-tries
returns-clause-tries c = λ n3.
    let n2 = c.expression-found.ensures.refused n3 in
    tried (c.want_wait.ensures.state (c.number-zero.ensures.refused n2)) (c.number-zero.ensures.state n2) c.number-zero.ensures.place (c.expression-found.ensures.lowers n3)
