use Rattle.explorer_answers.proofs.Prelude.{◌≡◌, map, take, verdicts_in}
use Rattle.explorer_answers.proofs.answering.judged.Given as goal

abbrev pub invariant-loop-outcome : goal.invariant-loop-outcome
invariant-loop-outcome l = map (λ row. row.items) l.all.items ≡ verdicts_in l.script l.asked (take l.outcome-index l.outcomes)
