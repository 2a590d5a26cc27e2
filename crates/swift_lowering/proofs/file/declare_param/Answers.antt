use Rattle.swift_lowering.proofs.Filed.{param_taken}
use Rattle.swift_lowering.proofs.file.declare_param.Goals as goal

pub returns-clause-takes : goal.returns-clause-takes
returns-clause-takes c = λ place n. let n1 = c.declare.ensures.refused n in param_taken place (c.refuse_where.ensures.state (c.variable-variable.ensures.refused n1)) (c.variable-variable.ensures.declared n1) c.variable-variable.ensures.place c.kind_of-kind.ensures (c.declare.ensures.binds n)
