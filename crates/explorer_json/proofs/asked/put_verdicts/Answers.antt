use Rattle.explorer_json.proofs.Prelude.{ℕ, ◌+◌, ◌++◌, List, drop, sym, ap, ◌∙◌, append_assoc, at_drop_more, comma, verdict_json, verdicts_json}
use Rattle.explorer_answers.specs.AnswerText.{verdict_at}
use Rattle.explorer_json.proofs.asked.put_verdicts.Goals as goal

pub loop-place-preserved : goal.loop-place-preserved
loop-place-preserved c =
    let p = c.args.script.now in
    let e = c.args.expectation.now in
    let outcomes = c.args.outcomes.now in
    let k = c.loop-place.place in
    let old = c.loop-place.out.items in
    let o = c.index-outcomes-place.result in
    let rest = verdicts_json p e (k + 1) (drop (k + 1) outcomes) in
    ap (λ (xs : List ℕ). xs ++ rest) c.in_ok-put_verdict.ensures
    ∙ append_assoc old _ rest
    ∙ ap (λ other. old ++ ((comma 0 k ++ verdict_json (verdict_at p e other)) ++ rest)) c.index-outcomes-place.is
    ∙ sym (at_drop_more (λ os. old ++ verdicts_json p e k os) outcomes k o c.loop-place-test.true)
    ∙ c.loop-place.invariant
