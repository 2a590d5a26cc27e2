use Rattle.std.proofs.Common.{◌≡◌, ◌-◌, ◌++◌}
use Rattle.explorer_differences.specs.Lines.{first_differences}
use Rattle.explorer_differences.proofs.lines.put_lines.Given as goal

abbrev pub invariant-loop : goal.invariant-loop
invariant-loop l =
    l.out.items ++ first_differences l.numbers.0 l.numbers.1 (l.many - l.counter) l.left l.right
    ≡ l.initial.out.items ++ first_differences l.numbers.0 l.numbers.1 l.many l.first l.second
