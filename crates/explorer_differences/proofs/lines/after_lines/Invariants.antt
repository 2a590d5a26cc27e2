use Rattle.std.proofs.Common.{◌≡◌, ◌-◌}
use Rattle.explorer_differences.specs.Lines.{after_lines}
use Rattle.explorer_differences.proofs.lines.after_lines.Given as goal

abbrev pub invariant-loop : goal.invariant-loop
invariant-loop l = after_lines (l.many - l.counter) l.rest ≡ after_lines l.many l.text
