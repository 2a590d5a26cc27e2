use Rattle.explorer_json.proofs.Prelude.{◌≡◌, ◌++◌, drop, expectations_json}
use Rattle.explorer_json.proofs.asked.put_expectations.Given as goal

abbrev pub invariant-loop-place : goal.invariant-loop-place
invariant-loop-place l = l.out.items ++ expectations_json l.script l.outcomes l.place (drop l.place l.asked) ≡ l.initial.out.items ++ expectations_json l.script l.outcomes 0 l.asked
