use Rattle.swift_explorer.proofs.Prelude.{[], ◌∷◌, map, ap, sym, ◌∙◌, arith, pos, length-map, get_or-map, Option, option_map, option_numbers, NextTurn, ReadyView, ready_numbers, ready_view}
use Rattle.swift_explorer.proofs.Steps.{some_step, two_writes}
use Rattle.swift_explorer.proofs.frames.put_ready.Goals as goal

pub loop-task-preserved : goal.loop-task-preserved
loop-task-preserved c =
    let see : Option NextTurn → Option ReadyView = option_map ready_view in
    let tasks = c.args.tasks.now in
    let i = c.loop-task.task-index in
    let task = c.task-item.result in
    let many = length-map tasks see in
    some_step (option_numbers ready_numbers) (map see tasks) i (see task) (see task) _ _ _ (omega (arith, many, c.loop-task-test.true)) (get_or-map see tasks i task (see task) c.loop-task-test.true ∙ ap see (sym c.task-item.is)) c.loop-task.invariant
    (two_writes c.loop-task.key.items c.push.new.self.items c.put_one_if.new.key.items (pos 1 ∷ []) _ c.in_ok-push.ensures.items c.in_ok-put_one_if.ensures)
