use Rattle.run_page.proofs.Prelude.{◌≡◌, ◌++◌, ◌-◌, executor_count, all_values_json}
use Rattle.run_page.proofs.values.all_values.Given as goal

abbrev pub invariant-loop-place : goal.invariant-loop-place
invariant-loop-place l = l.out.items ++ all_values_json l.script l.report l.place (executor_count l.script - l.place) ≡ l.initial.out.items ++ all_values_json l.script l.report 0 (executor_count l.script)
