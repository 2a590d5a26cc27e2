use Rattle.std.proofs.Common.{◌≡◌, ◌++◌, drop}
use Rattle.swift_report.specs.Text.{tasks_text}
use Rattle.swift_report.proofs.text.tasks.Given as goal

abbrev pub invariant-loop-number_of : goal.invariant-loop-number_of
invariant-loop-number_of l = l.out.items ++ tasks_text l.script l.number_of (drop l.number_of l.endings) ≡ l.initial.out.items ++ tasks_text l.script 0 l.endings
