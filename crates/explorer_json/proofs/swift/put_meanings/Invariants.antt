use Rattle.explorer_json.proofs.Prelude.{◌≡◌, ◌++◌, drop, meanings_json}
use Rattle.explorer_json.proofs.swift.put_meanings.Given as goal

abbrev pub invariant-loop-place : goal.invariant-loop-place
invariant-loop-place l = l.out.items ++ meanings_json l.place (drop l.place l.outcomes) ≡ l.initial.out.items ++ meanings_json 0 l.outcomes
