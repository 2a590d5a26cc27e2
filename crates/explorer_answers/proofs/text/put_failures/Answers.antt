use Rattle.explorer_answers.proofs.Prelude.{ℕ, ◌+◌, ◌++◌, List, drop, sym, ap, ◌∙◌, append_assoc, at_drop_more, failures_text, first_text}
use Rattle.explorer_answers.proofs.text.put_failures.Goals as goal

pub loop-place-preserved : goal.loop-place-preserved
loop-place-preserved c =
    let p = c.args.script.now in
    let outcomes = c.args.outcomes.now in
    let asked = c.args.asked.now in
    let k = c.loop-place.place in
    let old = c.loop-place.out.items in
    let e = c.index-asked-place.result in
    let rest = failures_text p outcomes (drop (k + 1) asked) in
    ap (λ (xs : List ℕ). xs ++ rest) c.in_ok-put_first.ensures
    ∙ append_assoc old (first_text p e 0 outcomes) rest
    ∙ ap (λ other. old ++ (first_text p other 0 outcomes ++ rest)) c.index-asked-place.is
    ∙ sym (at_drop_more (λ es. old ++ failures_text p outcomes es) asked k e c.loop-place-test.true)
    ∙ c.loop-place.invariant
