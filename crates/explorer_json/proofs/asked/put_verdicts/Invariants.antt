use Rattle.explorer_json.proofs.Prelude.{◌≡◌, ◌++◌, drop, verdicts_json}
use Rattle.explorer_json.proofs.asked.put_verdicts.Given as goal

abbrev pub invariant-loop-place : goal.invariant-loop-place
invariant-loop-place l = l.out.items ++ verdicts_json l.script l.expectation l.place (drop l.place l.outcomes) ≡ l.initial.out.items ++ verdicts_json l.script l.expectation 0 l.outcomes
