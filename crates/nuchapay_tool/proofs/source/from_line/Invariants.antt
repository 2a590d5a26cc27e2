use Rattle.std.proofs.Common.{◌≡◌, ◌≤◌, length}
use Rattle.nuchapay_tool.specs.Sources.{skip_lines}
use Rattle.nuchapay_tool.proofs.source.from_line.Given as goal

-- the first `counter` lines are passed
abbrev pub invariant-loop : goal.invariant-loop
invariant-loop l = record {
  passed : l.rest ≡ skip_lines l.counter l.text;
  shorter : length l.rest ≤ length l.text;
}
