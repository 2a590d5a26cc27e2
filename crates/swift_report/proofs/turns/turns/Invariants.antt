use Rattle.std.proofs.Common.{◌≡◌, ◌+◌, ◌++◌, drop, length}
use Rattle.swift_report.specs.Text.{turns_text}
use Rattle.swift_report.proofs.turns.turns.Given as goal

abbrev pub invariant-loop-place : goal.invariant-loop-place
invariant-loop-place l = record {
  text : l.out.items ++ turns_text l.script (l.first + l.place) (drop l.place l.journal) ≡ l.initial.out.items ++ turns_text l.script l.first l.journal;
  end : l.place-end ≡ length l.journal;
}
