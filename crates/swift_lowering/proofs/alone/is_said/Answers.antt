use Rattle.swift_expressions.specs.States.{state_of}
use Rattle.swift_lowering.proofs.OneValue.{other_stays, said_goes, tried_goes}
use Rattle.swift_lowering.proofs.alone.is_said.Goals as goal

pub returns-then-is_try_optional-clause-let_go : goal.returns-then-is_try_optional-clause-let_go
returns-then-is_try_optional-clause-let_go c = tried_goes (state_of c.args.lowering.now) c.args.value c.expr-expr.ensures c.is_try_optional.ensures c.if-is_try_optional.true

pub returns-then-calls_nobody-clause-let_go : goal.returns-then-calls_nobody-clause-let_go
returns-then-calls_nobody-clause-let_go c = said_goes (state_of c.args.lowering.now) c.args.value c.expr-expr.ensures c.is_try_optional.ensures c.if-is_try_optional.false c.calls_nobody.ensures c.if-calls_nobody.true c.is_saying_word.ensures

pub returns-clause-let_go : goal.returns-clause-let_go
returns-clause-let_go c = other_stays (state_of c.args.lowering.now) c.args.value c.expr-expr.ensures c.is_try_optional.ensures c.if-is_try_optional.false c.calls_nobody.ensures c.if-calls_nobody.false
