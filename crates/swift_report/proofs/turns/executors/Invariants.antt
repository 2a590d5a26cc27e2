use Rattle.std.proofs.Common.{◌≡◌, ◌++◌, drop}
use Rattle.swift_report.specs.Text.{executors_text}
use Rattle.swift_report.proofs.turns.executors.Given as goal

abbrev pub invariant-loop-place : goal.invariant-loop-place
invariant-loop-place l = l.out.items ++ executors_text l.script l.checkpoints l.place (drop l.place l.journals) ≡ l.initial.out.items ++ executors_text l.script l.checkpoints 0 l.journals
