use Rattle.std.proofs.Common.{◌∙◌}
use Rattle.swift_lowering.proofs.Blocked.{task_added}
use Rattle.swift_lowering.proofs.tasks.add_task.Goals as goal

pub returns-clause-adds : goal.returns-clause-adds
returns-clause-adds c = λ n4.
    let n3 = c.count_in.ensures.refused n4 in
    let n2 = c.put.ensures.refused n3 in
    let n1 = c.priority.ensures.refused n2 in
    task_added c.args.made.callee c.in-Some.place c.in-Some.group c.in-Some.ensures.found (c.priority.ensures.state n2 ∙ c.want_child.ensures.state n1 ∙ c.group_named.ensures.state (c.want_child.ensures.refused n1)) (c.put.ensures.state n3) (c.count_in.ensures.state n4)
