use Rattle.swift_lowering.proofs.Caught.{wrapped}
use Rattle.swift_lowering.proofs.catching.wrap.Goals as goal

pub returns-clause-wraps : goal.returns-clause-wraps
returns-clause-wraps c = λ n8.
    let n7 = c.exchange.ensures.refused n8 in
    let n6 = c.number-zero.ensures.refused n7 in
    let n5 = c.end_unit.ensures.refused n6 in
    let n4 = c.free_zero.ensures.refused n5 in
    let n3 = c.put.ensures.refused n4 in
    let n2 = c.temporary-variable.ensures.refused n3 in
    let n1 = c.rewired-inner.ensures.refused n2 in
    wrapped c.line-line.result (c.begin_unit-begun.ensures.begins n1) (c.begin_unit-begun.ensures.unit n1) (c.begin_unit-begun.ensures.skip n1) (c.rewired-inner.ensures.rewires n2) c.temporary-variable.ensures.place (c.temporary-variable.ensures.state n3) (c.put.ensures.state n4) (c.free_zero.ensures.state n5) (c.end_unit.ensures.state n6) c.number-zero.ensures.place (c.number-zero.ensures.state n7) (c.exchange.ensures.state n8)
