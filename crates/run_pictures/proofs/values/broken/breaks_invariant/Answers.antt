use Rattle.run_pictures.proofs.Prelude.{◌≤◌, length, min, arith, sym, ◌∙◌}
use Rattle.run_pictures.proofs.Breaks.{executors_end}
use Rattle.run_pictures.proofs.values.broken.breaks_invariant.Goals as goal

pub returns : goal.returns
returns c =
    let cs = c.args.report.now.checkpoints.items in
    let js = c.args.report.now.journals.items in
    let i = c.loop-executor.executor in
    let past : min (length cs) (length js) ≤ i = omega (arith, c.loop-executor-test.false, c.min-executor-end.ensures, c.len.ensures, c.len-2.ensures) in
    sym (executors_end c.args.script.now c.args.task.0 c.args.number i cs js past) ∙ c.loop-executor.invariant
