use Rattle.std.proofs.Common.{sym, ◌∙◌}
use Rattle.swift_expressions.specs.Lowered as lowered
use Rattle.swift_expressions.proofs.Called.{other_called, own_from}
use Rattle.swift_expressions.proofs.call.call_method.Goals as goal

pub returns-in-Some-instance-clause-other : goal.returns-in-Some-instance-clause-other
returns-in-Some-instance-clause-other c = λ i is n4.
    let n3 = c.wait.ensures.refused n4 in
    let n2 = c.want_await.ensures.refused n3 in
    let n1 = c.refuse_where.ensures.refused n2 in
    other_called (sym c.in-Some.ensures) (sym c.in-Some-instance.is ∙ is)
    (c.want_await.ensures.state n3 ∙ c.refuse_where.ensures.state n2 ∙ c.want_try_where.ensures.state n1 ∙ c.want_arguments.ensures.state (c.want_try_where.ensures.refused n1)) c.kind_of.ensures (c.wait.ensures.waits n4)

pub returns-in-None-clause-own : goal.returns-in-None-clause-own
returns-in-None-clause-own c = λ is n2.
    let n1 = c.call_own.ensures.refused n2 in
    lowered.own (sym c.in-Some.ensures) (own_from (c.want_try_where.ensures.state n1 ∙ c.want_arguments.ensures.state (c.want_try_where.ensures.refused n1)) (c.call_own.ensures.calls n2))
