use Rattle.std.proofs.Common.{◌≤◌, ◌-◌, length, take}
use Rattle.std.specs.Io.KnownBytes.{Appends}
use Rattle.swift_report.proofs.output.write_all.Given as goal

-- the first `written` bytes of the text are written
abbrev pub invariant-loop-written : goal.invariant-loop-written
invariant-loop-written g l = record {
  within : l.written ≤ length l.text;
  front : Appends (g.W.Write.contents l.initial.out) (g.W.Write.contents l.out) (take l.written l.text);
}

abbrev pub decreases-loop-written : goal.decreases-loop-written
decreases-loop-written g l = length l.text - l.written
