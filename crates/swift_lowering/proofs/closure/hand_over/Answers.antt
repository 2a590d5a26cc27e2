use Rattle.std.proofs.Common.{◌∙◌}
use Rattle.swift_lowering.proofs.Enclosed.{handed_over}
use Rattle.swift_lowering.proofs.closure.hand_over.Goals as goal

pub returns-then-declared-clause-hands : goal.returns-then-declared-clause-hands
returns-then-declared-clause-hands c = λ n3.
    let n2 = c.refuse_where.ensures.refused n3 in
    handed_over (c.call_operands-given.ensures.hands (c.want_arguments.ensures.refused n2)) (c.refuse_where.ensures.state n3 ∙ c.want_arguments.ensures.state n2)

pub returns-else-declared-clause-hands : goal.returns-else-declared-clause-hands
returns-else-declared-clause-hands c = λ n3.
    let n2 = c.refuse_where.ensures.refused n3 in
    handed_over (c.call_operands-given.ensures.hands (c.want_arguments.ensures.refused n2)) (c.refuse_where.ensures.state n3 ∙ c.want_arguments.ensures.state n2)
