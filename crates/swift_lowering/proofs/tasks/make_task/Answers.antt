use Rattle.std.proofs.Common.{ap, ◌∙◌}
use Rattle.swift_expressions.specs.States.{put}
use Rattle.swift_expressions.specs.declared.code.Instruction.TheVariants as instruction
use Rattle.swift_lowering.proofs.Blocked.{task_made}
use Rattle.swift_lowering.proofs.tasks.make_task.Goals as goal

pub returns-clause-makes : goal.returns-clause-makes
returns-clause-makes c = λ n5.
    let n4 = c.declare_as.ensures.refused n5 in
    let n3 = c.put.ensures.refused n4 in
    let n2 = c.priority-urgency.ensures.refused n3 in
    let n1 = c.variable-variable.ensures.refused n2 in
    task_made c.args.made.callee c.priority-urgency.result c.args.made.kind (c.refuse_where.ensures.state n1) (c.variable-variable.ensures.declared n2) c.variable-variable.ensures.place (c.priority-urgency.ensures.urgent n3) (c.put.ensures.state n4 ∙ ap (put (instruction.Make c.variable-variable.result c.args.form.is_detached c.args.made.callee c.priority-urgency.result)) (c.priority-urgency.ensures.state n3)) (c.declare_as.ensures.binds n5)
