use Rattle.swift_report.proofs.Prelude.{◌≡◌, ◌++◌, drop, executors_json}
use Rattle.swift_report.proofs.json.turns.executors.Given as goal

abbrev pub invariant-loop-place : goal.invariant-loop-place
invariant-loop-place l = l.out.items ++ executors_json l.script l.checkpoints l.place (drop l.place l.journals) ≡ l.initial.out.items ++ executors_json l.script l.checkpoints 0 l.journals
