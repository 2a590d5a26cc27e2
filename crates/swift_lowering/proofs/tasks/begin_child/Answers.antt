use Rattle.std.proofs.Common.{◌≡◌, rules}
use Rattle.swift_syntax.specs.Expressions.{after}
use Rattle.swift_lowering.proofs.Blocked.{child_begins}
use Rattle.swift_lowering.proofs.tasks.begin_child.Goals as goal

pub returns-clause-begins : goal.returns-clause-begins
returns-clause-begins c = λ n5.
    let n4 = c.declare_as.ensures.refused n5 in
    let n3 = c.put-2.ensures.refused n4 in
    let n2 = c.put.ensures.refused n3 in
    let n1 = c.count_child-count.ensures.refused n2 in
    let more : c.saturating_add-lowering.result ≡ after c.declare_as.new.lowering.setting.groups = search rules in
    child_begins c.args.made.callee c.args.made.kind c.leaves_early-is_left_early.ensures (c.variable-variable.ensures.declared n1) c.variable-variable.ensures.place (c.count_child-count.ensures.state n2) (c.count_child-count.ensures.place n2) (c.put.ensures.state n3) (c.put-2.ensures.state n4) (c.declare_as.ensures.binds n5) more
