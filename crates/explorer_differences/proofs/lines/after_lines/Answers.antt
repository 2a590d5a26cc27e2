use Rattle.explorer_differences.specs.Lines.{after_lines}
use Rattle.explorer_differences.proofs.Passing.{after_more}
use Rattle.explorer_differences.proofs.lines.after_lines.Goals as goal

pub loop-preserved : goal.loop-preserved
loop-preserved c =
    after_more c.loop.counter c.args.many c.loop.rest.now c.after_line-rest.result.now (after_lines c.args.many c.args.text.now)
    c.loop-test.true c.loop.invariant c.after_line-rest.ensures
