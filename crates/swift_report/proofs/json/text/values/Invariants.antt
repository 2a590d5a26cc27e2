use Rattle.swift_report.proofs.Prelude.{◌≡◌, ◌++◌, drop, values_json}
use Rattle.swift_report.proofs.json.text.values.Given as goal

abbrev pub invariant-loop-place : goal.invariant-loop-place
invariant-loop-place l = l.out.items ++ values_json l.script l.actor l.place (drop l.place l.values) ≡ l.initial.out.items ++ values_json l.script l.actor 0 l.values
