use Rattle.std.proofs.Common.{◌≡◌, ◌++◌, drop}
use Rattle.swift_report.specs.Text.{values_text}
use Rattle.swift_report.proofs.text.values.Given as goal

abbrev pub invariant-loop-place : goal.invariant-loop-place
invariant-loop-place l = l.out.items ++ values_text l.script l.actor l.place (drop l.place l.values) ≡ l.initial.out.items ++ values_text l.script l.actor 0 l.values
