use Rattle.std.proofs.Common.{sym, ◌∙◌}
use Rattle.swift_expressions.proofs.Waited.{next_called}
use Rattle.swift_expressions.proofs.waits.group_next.Goals as goal

pub returns-clause-calls : goal.returns-clause-calls
returns-clause-calls c = λ given at n.
    let n11 = c.with_kind.ensures.refused n in
    let n10 = c.mark_used.ensures.refused n11 in
    let n9 = c.put-4.ensures.refused n10 in
    let n8 = c.put-3.ensures.refused n9 in
    let n7 = c.count_down.ensures.refused n8 in
    let n6 = c.wait-next.ensures.refused n7 in
    let n5 = c.put-2.ensures.refused n6 in
    let n4 = c.has_child-test.ensures.refused n5 in
    let n3 = c.put.ensures.refused n4 in
    let n2 = c.temporary-variable.ensures.refused n3 in
    let n1 = c.refuse_where.ensures.refused n2 in
    next_called (sym c.in-Some.ensures) (c.want_try_where.ensures.state n1 ∙ c.want_await.ensures.state (c.want_try_where.ensures.refused n1)) c.in-Nil.is
    (c.refuse_where.ensures.state n2) (c.temporary-variable.ensures.state n3) c.temporary-variable.ensures.place (c.put.ensures.state n4) (c.has_child-test.ensures.state n5) (c.has_child-test.ensures.place n5) (c.put-2.ensures.state n6)
    (c.wait-next.ensures.waits n7) (c.count_down.ensures.state n8) (c.put-3.ensures.state n9) (c.put-4.ensures.state n10) (c.mark_used.ensures.state n11) (c.with_kind.ensures.gives n)
