use Rattle.explorer_json.proofs.Prelude.{◌≡◌, ◌++◌, drop, outcomes_json}
use Rattle.explorer_json.proofs.text.put_outcomes.Given as goal

abbrev pub invariant-loop-place : goal.invariant-loop-place
invariant-loop-place l = l.out.items ++ outcomes_json l.script l.place (drop l.place l.outcomes) ≡ l.initial.out.items ++ outcomes_json l.script 0 l.outcomes
