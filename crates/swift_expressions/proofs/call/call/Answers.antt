use Rattle.std.proofs.Common.{sym, ap, ◌∙◌}
use Rattle.swift_expressions.specs.declared.code.Instruction.TheVariants as instruction
use Rattle.swift_expressions.specs.Lowered as lowered
use Rattle.swift_expressions.specs.Lowered.{checked, slept}
use Rattle.swift_expressions.specs.States.{put}
use Rattle.swift_expressions.proofs.Stepped.{given_from}
use Rattle.swift_expressions.proofs.Called.{called_as, cancel_called}
use Rattle.swift_expressions.proofs.call.call.Goals as goal

pub returns-in-Yield-clause-calls : goal.returns-in-Yield-clause-calls
returns-in-Yield-clause-calls c = λ known n3.
    let n2 = c.nothing-in-Yield.ensures.refused n3 in
    let n1 = c.put.ensures.refused n2 in
    called_as (sym c.in-Yield.is) (lowered.yield (given_from (c.put.ensures.state n2 ∙ ap (put instruction.Yield) (c.want_await.ensures.state n1 ∙ c.refuse_where.ensures.state (c.want_await.ensures.refused n1))) (c.nothing-in-Yield.ensures.gives n3)))

pub returns-in-Sleep-called-clause-calls : goal.returns-in-Sleep-called-clause-calls
returns-in-Sleep-called-clause-calls c = λ known n2.
    let n1 = c.nothing-in-Sleep-called.ensures.refused n2 in
    called_as (sym c.in-Sleep-called.is) (lowered.sleep (given_from (c.sleep.ensures.state n1 ∙ ap slept (c.refuse_where.ensures.state (c.sleep.ensures.refused n1))) (c.nothing-in-Sleep-called.ensures.gives n2)))

pub returns-in-Check-clause-calls : goal.returns-in-Check-clause-calls
returns-in-Check-clause-calls c = λ known n2.
    let n1 = c.nothing-in-Check.ensures.refused n2 in
    called_as (sym c.in-Check.is) (lowered.check (given_from (c.check.ensures.state n1 ∙ ap checked (c.refuse_where.ensures.state (c.check.ensures.refused n1))) (c.nothing-in-Check.ensures.gives n2)))

pub returns-in-Cancel-clause-calls : goal.returns-in-Cancel-clause-calls
returns-in-Cancel-clause-calls c = λ known n2.
    let n1 = c.nothing-in-Cancel.ensures.refused n2 in
    called_as (sym c.in-Cancel.is) (cancel_called (c.refuse_where.ensures.state (c.cancel.ensures.refused n1)) (c.cancel.ensures.state n1) (c.nothing-in-Cancel.ensures.gives n2))
