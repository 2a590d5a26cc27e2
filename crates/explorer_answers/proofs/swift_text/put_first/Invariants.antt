use Rattle.explorer_answers.proofs.Prelude.{◌≡◌, drop, swift_first_text}
use Rattle.explorer_answers.proofs.swift_text.put_first.Given as goal

abbrev pub invariant-loop-place : goal.invariant-loop-place
invariant-loop-place l = (swift_first_text l.script l.expectation l.place (drop l.place l.outcomes) ≡ swift_first_text l.script l.expectation 0 l.outcomes) × (l.out.items ≡ l.initial.out.items)
