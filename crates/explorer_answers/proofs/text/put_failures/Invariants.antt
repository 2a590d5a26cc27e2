use Rattle.explorer_answers.proofs.Prelude.{◌≡◌, ◌++◌, drop, failures_text}
use Rattle.explorer_answers.proofs.text.put_failures.Given as goal

abbrev pub invariant-loop-place : goal.invariant-loop-place
invariant-loop-place l = l.out.items ++ failures_text l.script l.outcomes (drop l.place l.asked) ≡ l.initial.out.items ++ failures_text l.script l.outcomes l.asked
