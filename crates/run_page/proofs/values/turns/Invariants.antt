use Rattle.run_page.proofs.Prelude.{◌≡◌, ◌++◌, drop, values_views, turns_json}
use Rattle.run_page.proofs.values.turns.Given as goal

abbrev pub invariant-loop-place : goal.invariant-loop-place
invariant-loop-place l = l.out.items ++ turns_json l.script l.executor.0 l.place (values_views (drop l.place l.values)) ≡ l.initial.out.items ++ turns_json l.script l.executor.0 0 (values_views l.values)
