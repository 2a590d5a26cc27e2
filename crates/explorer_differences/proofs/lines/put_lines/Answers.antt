use Rattle.std.proofs.Common.{ℕ, List, ◌++◌, ap, ◌∙◌}
use Rattle.explorer_differences.specs.Lines.{first_differences, first_line, line_difference}
use Rattle.explorer_differences.proofs.Passing.{differences_more}
use Rattle.explorer_differences.proofs.lines.put_lines.Goals as goal

pub loop-preserved : goal.loop-preserved
loop-preserved c =
    let a = c.args.numbers.0 in
    let b = c.args.numbers.1 in
    let n = c.max-many.result in
    let old = c.loop.out.items in
    let left = c.loop.left.now in
    differences_more a b c.loop.counter n old c.put_line.new.out.items left c.loop.right.now c.after_line-left.result.now c.after_line-right.result.now
    (c.args.out.now.items ++ first_differences a b n c.args.first.now c.args.second.now)
    c.loop-test.true c.loop.invariant
    (c.in_ok-put_line.ensures
    ∙ ap (λ (line : List ℕ). old ++ line_difference a b line c.first_line-in-loop.result.now) c.first_line.ensures
    ∙ ap (λ (line : List ℕ). old ++ line_difference a b (first_line left) line) c.first_line-in-loop.ensures)
    c.after_line-left.ensures c.after_line-right.ensures
