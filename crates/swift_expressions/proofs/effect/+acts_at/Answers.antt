use Rattle.swift_expressions.specs.States.{state_of}
use Rattle.swift_expressions.proofs.Acting.{acts_unseen}
use Rattle.swift_expressions.proofs.effect.+acts_at.Goals as goal

pub returns-then-depth-eq0 : goal.returns-then-depth-eq0
returns-then-depth-eq0 t c = acts_unseen (state_of c.args.lowering.now) c.args.depth c.args.place c.if-depth-eq0.true
