use Rattle.std.proofs.Common.{length-take-le, take_all, sym, arith}
use Rattle.explorer_page.specs.declared.runs.TheConstants.{SHOWN}
use Rattle.explorer_page.proofs.runs.shown.Goals as goal

pub returns-then-outcomes-le-SHOWN : goal.returns-then-outcomes-le-SHOWN
returns-then-outcomes-le-SHOWN c = sym (take_all SHOWN c.args.outcomes.now (omega (arith, c.if-outcomes-le-SHOWN.true)))

pub slice_bounds-result-end : goal.slice_bounds-result-end
slice_bounds-result-end c = sym (length-take-le 100 c.args.outcomes.now (omega (arith, c.if-outcomes-le-SHOWN.false)))
