use Rattle.swift_explorer.proofs.Prelude.{◌≡◌, ◌++◌, drop, steps_text}
use Rattle.swift_explorer.proofs.text.put_steps.Given as goal

abbrev pub invariant-loop-place : goal.invariant-loop-place
invariant-loop-place l = l.out.items ++ steps_text l.path l.place (drop l.place l.path) ≡ l.initial.out.items ++ steps_text l.path 0 l.path
