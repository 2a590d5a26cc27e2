use Rattle.swift_report.proofs.Prelude.{◌≡◌, ◌++◌, drop, tasks_json}
use Rattle.swift_report.proofs.json.text.tasks.Given as goal

abbrev pub invariant-loop-number_of : goal.invariant-loop-number_of
invariant-loop-number_of l = l.out.items ++ tasks_json l.script l.number_of (drop l.number_of l.endings) ≡ l.initial.out.items ++ tasks_json l.script 0 l.endings
