use Rattle.expectations.proofs.Prelude.{◌≡◌, ◌++◌, true, drop, map, expected_from}
use Rattle.expectations.proofs.comments.in_comments.Given as goal

abbrev pub invariant-loop-at : goal.invariant-loop-at
invariant-loop-at l = map (λ c. c.text.now) l.found.items ++ expected_from l.begins (drop l.at l.text) ≡ expected_from true l.text
