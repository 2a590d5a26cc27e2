use Rattle.swift_lowering.specs.Closures as closures
use Rattle.swift_lowering.proofs.Enclosed.{callee_read}
use Rattle.swift_lowering.proofs.closure.called_method.Goals as goal

pub returns : goal.returns
returns c = callee_read c.args.place c.expr-expr.ensures c.in-Call.is c.in-Named.is (closures.of_instance c.in_default-standing_at.ensures.none c.in-Some-instance_named.ensures.found (c.actor_of-actor.ensures.found c.in-Some-method_named.ensures.found.inside) c.in-Some-method_named.ensures.found)
