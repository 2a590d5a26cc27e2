use Rattle.explorer_answers.proofs.Prelude.{◌≡◌, ◌++◌, drop, outcomes_text}
use Rattle.explorer_answers.proofs.list_text.put_outcomes.Given as goal

abbrev pub invariant-loop-place : goal.invariant-loop-place
invariant-loop-place l = l.out.items ++ outcomes_text l.script l.place (drop l.place l.outcomes) ≡ l.initial.out.items ++ outcomes_text l.script 0 l.outcomes
