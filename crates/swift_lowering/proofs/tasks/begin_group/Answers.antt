use Rattle.swift_lowering.proofs.Enclosed.{group_begun}
use Rattle.swift_lowering.proofs.tasks.begin_group.Goals as goal

pub returns-clause-begins : goal.returns-clause-begins
returns-clause-begins c = λ n4.
    let n3 = c.declare_as.ensures.refused n4 in
    let n2 = c.begin_at_zero-count.ensures.refused n3 in
    let n1 = c.put.ensures.refused n2 in
    group_begun (c.variable-variable.ensures.declared n1) c.variable-variable.ensures.place (c.put.ensures.state n2) (c.begin_at_zero-count.ensures.state n3) c.begin_at_zero-count.ensures.place (c.declare_as.ensures.binds n4)
