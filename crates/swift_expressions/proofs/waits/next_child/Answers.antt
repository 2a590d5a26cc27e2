use Rattle.std.proofs.Common.{◌∙◌}
use Rattle.swift_expressions.proofs.Waited.{child_meant}
use Rattle.swift_expressions.proofs.waits.next_child.Goals as goal

pub returns-clause-means : goal.returns-clause-means
returns-clause-means c = λ innermost is_child n5.
    let n4 = c.count_child.ensures.refused n5 in
    let n3 = c.wait-value.ensures.refused n4 in
    let n2 = c.mark_used.ensures.refused n3 in
    let n1 = c.refuse_where.ensures.refused n2 in
    child_meant c.args.place innermost c.requires is_child (c.refuse_where.ensures.state n2 ∙ c.want_try_where.ensures.state n1 ∙ c.want_await.ensures.state (c.want_try_where.ensures.refused n1)) (c.mark_used.ensures.state n3) (c.wait-value.ensures.waits n4) (c.count_child.ensures.state n5)
