use Rattle.explorer_answers.proofs.Prelude.{◌≡◌, ◌++◌, drop, swift_failures_text}
use Rattle.explorer_answers.proofs.swift_text.put_failures.Given as goal

abbrev pub invariant-loop-place : goal.invariant-loop-place
invariant-loop-place l = l.out.items ++ swift_failures_text l.script l.outcomes (drop l.place l.asked) ≡ l.initial.out.items ++ swift_failures_text l.script l.outcomes l.asked
