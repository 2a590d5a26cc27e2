use Rattle.swift_lowering.proofs.Blocked.{child_ended}
use Rattle.swift_lowering.proofs.Changes.{ends_cancelled}
use Rattle.swift_lowering.proofs.tasks.end_child.Goals as goal

pub returns-clause-cancelled : goal.returns-clause-cancelled
returns-clause-cancelled c = λ none. ends_cancelled c.begin_unawaited.new.lowering c.put.new.self c.put-2.new.self c.args.variable c.put.ensures.put c.put-2.ensures.put c.put-2.ensures.refused none

pub returns-clause-ends : goal.returns-clause-ends
returns-clause-ends c = λ n3.
    let n2 = c.put-2.ensures.refused n3 in
    let n1 = c.put.ensures.refused n2 in
    child_ended _ (c.begin_unawaited.ensures.state n1) (c.put.ensures.state n2) (c.put-2.ensures.state n3) c.saturating_sub-lowering.ensures
