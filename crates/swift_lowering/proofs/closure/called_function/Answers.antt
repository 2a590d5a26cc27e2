use Rattle.swift_lowering.specs.Closures as closures
use Rattle.swift_lowering.proofs.Enclosed.{callee_read}
use Rattle.swift_lowering.proofs.closure.called_function.Goals as goal

pub returns : goal.returns
returns c = callee_read c.args.place c.expr-expr.ensures c.in-Call.is c.in-Nobody.is (closures.of_nobody c.in_default-standing_at.ensures.none c.in-Some-function_named.ensures.found)
