use Rattle.explorer_json.proofs.Prelude.{ℕ, ◌+◌, ◌++◌, List, drop, sym, ap, ◌∙◌, append_assoc, at_drop_more, expectation_json, expectations_json}
use Rattle.explorer_json.proofs.asked.put_expectations.Goals as goal

pub loop-place-preserved : goal.loop-place-preserved
loop-place-preserved c =
    let p = c.args.script.now in
    let outcomes = c.args.outcomes.now in
    let asked = c.args.asked.now in
    let k = c.loop-place.place in
    let old = c.loop-place.out.items in
    let e = c.index-asked-place.result in
    let rest = expectations_json p outcomes (k + 1) (drop (k + 1) asked) in
    ap (λ (xs : List ℕ). xs ++ rest) c.in_ok-put_expectation.ensures
    ∙ append_assoc old (expectation_json p outcomes k e) rest
    ∙ ap (λ other. old ++ (expectation_json p outcomes k other ++ rest)) c.index-asked-place.is
    ∙ sym (at_drop_more (λ es. old ++ expectations_json p outcomes k es) asked k e c.loop-place-test.true)
    ∙ c.loop-place.invariant
