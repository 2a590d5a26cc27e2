use Rattle.explorer_answers.proofs.Prelude.{◌∙◌, ℤ, List, [], ◌∷◌, ◌++◌, Vec, map, take, sym, ap, Global, map_more, map_push, rows_of, Verdict, verdicts_at, verdicts_in}
use Rattle.expectations.specs.Meaning.{verdict_of}
use Rattle.explorer_answers.proofs.answering.judged.Goals as goal

pub loop-outcome-preserved : goal.loop-outcome-preserved
loop-outcome-preserved c =
    let p = c.args.script.now in
    let asked = c.args.asked.now in
    let outcomes = c.args.outcomes.now in
    let k = c.loop-outcome.outcome-index in
    let o = c.outcome-item.result in
    let made = c.in_ok-verdicts.field-0 in
    let items = λ (row : Vec Verdict Global). row.items in
    let views = λ (all : List (Vec (Vec ℤ Global) Global)). map (λ (rows : Vec (Vec ℤ Global) Global). rows_of rows.items) all in
    let same =
    c.in_ok-verdicts.ensures
    ∙ ap (λ (es : List _). map (verdict_of p es (views (c.deref-in-loop-outcome).result.now)) asked) (c.deref).ensures.value
    ∙ ap (λ (fs : List (Vec (Vec ℤ Global) Global)). map (verdict_of p o.endings.items (views fs)) asked) (c.deref-in-loop-outcome).ensures.value
    ∙ ap (verdicts_at p asked) c.outcome-item.is in
    ap (map items) c.in_ok-push.ensures.items
    ∙ map_push items c.loop-outcome.all.items made
    ∙ ap (λ (front : List (List Verdict)). front ++ made.items ∷ []) c.loop-outcome.invariant
    ∙ ap (λ (row : List Verdict). verdicts_in p asked (take k outcomes) ++ row ∷ []) same
    ∙ sym (map_more (verdicts_at p asked) outcomes k o c.loop-outcome-test.true)
