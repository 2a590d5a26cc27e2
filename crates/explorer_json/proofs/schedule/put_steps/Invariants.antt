use Rattle.explorer_json.proofs.Prelude.{◌≡◌, ◌++◌, drop, steps_json}
use Rattle.explorer_json.proofs.schedule.put_steps.Given as goal

abbrev pub invariant-loop-place : goal.invariant-loop-place
invariant-loop-place l = l.out.items ++ steps_json l.path l.place (drop l.place l.path) ≡ l.initial.out.items ++ steps_json l.path 0 l.path
