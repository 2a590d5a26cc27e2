use Rattle.explorer_answers.proofs.Prelude.{◌∙◌, List, [], ◌∷◌, ◌++◌, Vec, map, take, sym, ap, Global, map_more, map_push, Verdict, swift_verdicts_at, swift_verdicts_in}
use Rattle.explorer_answers.proofs.swift_answer.swift_judged.Goals as goal

pub loop-outcome-preserved : goal.loop-outcome-preserved
loop-outcome-preserved c =
    let p = c.args.script.now in
    let asked = c.args.asked.now in
    let outcomes = c.args.outcomes.now in
    let k = c.loop-outcome.outcome-index in
    let o = c.outcome-item.result in
    let made = c.in_ok-verdicts_at.field-0 in
    let items = λ (row : Vec Verdict Global). row.items in
    let same = c.in_ok-verdicts_at.ensures ∙ ap (swift_verdicts_at p asked) c.outcome-item.is in
    ap (map items) c.in_ok-push.ensures.items
    ∙ map_push items c.loop-outcome.all.items made
    ∙ ap (λ (front : List (List Verdict)). front ++ made.items ∷ []) c.loop-outcome.invariant
    ∙ ap (λ (row : List Verdict). swift_verdicts_in p asked (take k outcomes) ++ row ∷ []) same
    ∙ sym (map_more (swift_verdicts_at p asked) outcomes k o c.loop-outcome-test.true)
