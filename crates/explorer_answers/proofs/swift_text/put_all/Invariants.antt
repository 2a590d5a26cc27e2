use Rattle.explorer_answers.proofs.Prelude.{◌≡◌, ◌++◌, drop, told_texts}
use Rattle.explorer_answers.proofs.swift_text.put_all.Given as goal

abbrev pub invariant-loop-place : goal.invariant-loop-place
invariant-loop-place l = l.out.items ++ told_texts l.script l.meaning l.place (drop l.place l.outcomes) ≡ l.initial.out.items ++ told_texts l.script l.meaning 0 l.outcomes
