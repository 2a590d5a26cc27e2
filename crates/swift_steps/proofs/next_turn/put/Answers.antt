use Rattle.swift_steps.proofs.Prelude.{◌∙◌, ◌<◌, List, Option, Some, length, ap, arith, if◌then◌else◌, ◌==◌, NextTurn, given_at}
use Rattle.swift_steps.proofs.Given.{given_none, given_set}
use Rattle.swift_steps.proofs.next_turn.put.Goals as goal

pub loop-tasks-preserved : goal.loop-tasks-preserved
loop-tasks-preserved c = λ u.
    ap (λ (tasks : List (Option NextTurn)). given_at tasks u) c.in_ok-push.ensures.items ∙ given_none c.loop-tasks.tasks.items u ∙ c.loop-tasks.invariant u

pub returns : goal.returns
returns c = λ u.
    (let lt : c.args.task.0 < length c.loop-tasks.tasks.items = omega (arith, c.loop-tasks-test.false, c.len.ensures) in
    given_set c.loop-tasks.tasks.items c.args.task.0 (Some c.args.ready) u lt
    ∙ ap (λ (g : Option NextTurn). if u == c.args.task.0 then Some c.args.ready else g) (c.loop-tasks.invariant u))
