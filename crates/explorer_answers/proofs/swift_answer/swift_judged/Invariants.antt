use Rattle.explorer_answers.proofs.Prelude.{◌≡◌, map, take, swift_verdicts_in}
use Rattle.explorer_answers.proofs.swift_answer.swift_judged.Given as goal

abbrev pub invariant-loop-outcome : goal.invariant-loop-outcome
invariant-loop-outcome l = map (λ row. row.items) l.all.items ≡ swift_verdicts_in l.script l.asked (take l.outcome-index l.outcomes)
