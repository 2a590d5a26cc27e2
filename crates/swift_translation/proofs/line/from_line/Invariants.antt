use Rattle.std.proofs.Common.{◌≡◌}
use Rattle.swift_translation.specs.Lines.{skip_lines}
use Rattle.swift_translation.proofs.line.from_line.Given as goal

-- the first `counter` lines are passed
abbrev pub invariant-loop : goal.invariant-loop
invariant-loop l = l.rest ≡ skip_lines l.counter l.text
