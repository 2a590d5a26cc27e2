use Rattle.std.proofs.Common.{sym, ◌∙◌}
use Rattle.swift_expressions.proofs.Waited.{task_named}
use Rattle.swift_expressions.proofs.waits.task_value.Goals as goal

pub returns-then-spells-clause-names : goal.returns-then-spells-clause-names
returns-then-spells-clause-names c = λ of turn innermost n4.
    let n3 = c.wait.ensures.refused n4 in
    let n2 = c.yield_before.ensures.refused n3 in
    let n1 = c.mark_used.ensures.refused n2 in
    task_named c.args.place turn innermost (sym c.in-Some.ensures) c.in-Task.is (c.spells.ensures.0 c.if-spells.true)
    (c.want_try_where.ensures.state n1 ∙ c.want_await.ensures.state (c.want_try_where.ensures.refused n1)) (c.mark_used.ensures.state n2) (c.yield_before.ensures.state n3) (c.wait.ensures.waits n4)
