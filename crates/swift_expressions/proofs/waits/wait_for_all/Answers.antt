use Rattle.std.proofs.Common.{sym, ◌∙◌}
use Rattle.swift_expressions.proofs.Waited.{all_called}
use Rattle.swift_expressions.proofs.waits.wait_for_all.Goals as goal

pub returns-clause-calls : goal.returns-clause-calls
returns-clause-calls c = λ given at n.
    let n8 = c.with_kind.ensures.refused n in
    let n7 = c.mark_used.ensures.refused n8 in
    let n6 = c.put-3.ensures.refused n7 in
    let n5 = c.count_down.ensures.refused n6 in
    let n4 = c.put-2.ensures.refused n5 in
    let n3 = c.put.ensures.refused n4 in
    let n2 = c.has_child-test.ensures.refused n3 in
    let n1 = c.refuse_where.ensures.refused n2 in
    all_called (sym c.in-Some.ensures) (c.refuse_where.ensures.state n2 ∙ c.want_try_where.ensures.state n1 ∙ c.want_await.ensures.state (c.want_try_where.ensures.refused n1))
    (c.has_child-test.ensures.state n3) (c.has_child-test.ensures.place n3) (c.put.ensures.state n4) (c.put-2.ensures.state n5) (c.count_down.ensures.state n6) (c.put-3.ensures.state n7) (c.mark_used.ensures.state n8) (c.with_kind.ensures.gives n)
