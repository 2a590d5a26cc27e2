use Rattle.explorer_answers.proofs.Prelude.{◌≡◌, drop, first_text}
use Rattle.explorer_answers.proofs.text.put_first.Given as goal

abbrev pub invariant-loop-place : goal.invariant-loop-place
invariant-loop-place l = (first_text l.script l.expectation l.place (drop l.place l.outcomes) ≡ first_text l.script l.expectation 0 l.outcomes) × (l.out.items ≡ l.initial.out.items)
