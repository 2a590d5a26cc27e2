use Rattle.std.proofs.Common.{◌≡◌, length, arith}
use Rattle.swift_lowering.proofs.Enclosed.{opened}
use Rattle.swift_lowering.proofs.closure.begin_closure.Goals as goal

pub returns-clause-opens : goal.returns-clause-opens
returns-clause-opens c = λ n3.
    let n2 = c.enter.ensures.refused n3 in
    let n1 = c.capture_all-operand.ensures.refused n2 in
    let is : c.len-boundary.result ≡ length c.args.lowering.now.scope.items = omega (arith, c.len-boundary.ensures, c.args.lowering.now.scope.ok.0) in
    opened (c.begin_unit-begun.ensures.begins n1) (c.begin_unit-begun.ensures.unit n1) (c.capture_all-operand.ensures.captures n2) is (c.enter.ensures.state n3)
