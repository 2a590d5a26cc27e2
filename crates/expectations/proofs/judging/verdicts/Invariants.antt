use Rattle.expectations.proofs.Prelude.{◌≡◌, map, take, rows_of, verdict_of}
use Rattle.expectations.proofs.judging.verdicts.Given as goal

abbrev pub invariant-loop-expectation : goal.invariant-loop-expectation
invariant-loop-expectation l = l.found.items ≡ map (verdict_of l.script l.endings (map (λ rows. rows_of rows.items) l.fields)) (take l.expectation-index l.expectations)
