use Rattle.explorer_json.proofs.Prelude.{ℕ, ◌+◌, ◌++◌, List, drop, sym, ap, ◌∙◌, append_assoc, at_drop_more, outcome_json, outcomes_json}
use Rattle.explorer_json.proofs.text.put_outcomes.Goals as goal

pub loop-place-preserved : goal.loop-place-preserved
loop-place-preserved c =
    let p = c.args.script.now in
    let outcomes = c.args.outcomes.now in
    let k = c.loop-place.place in
    let old = c.loop-place.out.items in
    let o = c.index-outcomes-place.result in
    let rest = outcomes_json p (k + 1) (drop (k + 1) outcomes) in
    ap (λ (xs : List ℕ). xs ++ rest) c.in_ok-put_outcome.ensures
    ∙ append_assoc old (outcome_json p k o) rest
    ∙ ap (λ other. old ++ (outcome_json p k other ++ rest)) c.index-outcomes-place.is
    ∙ sym (at_drop_more (λ os. old ++ outcomes_json p k os) outcomes k o c.loop-place-test.true)
    ∙ c.loop-place.invariant
