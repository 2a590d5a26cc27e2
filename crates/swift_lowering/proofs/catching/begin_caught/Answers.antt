use Rattle.std.proofs.Common.{arith}
use Rattle.swift_lowering.proofs.Caught.{caught}
use Rattle.swift_lowering.proofs.catching.begin_caught.Goals as goal

pub returns-clause-catches : goal.returns-clause-catches
returns-clause-catches c = λ n5.
    let n4 = c.open_where.ensures.refused n5 in
    let n3 = c.with_kind-found.ensures.refused n4 in
    let n2 = c.tell.ensures.refused n3 in
    let n1 = c.variable_for-variable.ensures.refused n2 in
    caught (c.lower_wait-came.ensures.tries n1) (omega (arith, c.if-here-before.false, c.here.ensures, c.here-before.ensures)) c.in-Some.ensures (c.variable_for-variable.ensures.state n2) c.variable_for-variable.ensures.place (c.tell.ensures.tells n3) (c.with_kind-found.ensures.gives n4) (c.open_where.ensures.state n5)
