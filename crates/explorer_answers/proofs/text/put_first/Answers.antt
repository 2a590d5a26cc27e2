use Rattle.explorer_answers.proofs.Prelude.{rules, ◌≡◌, true, sym, ap, ◌∙◌, get_or, is_so, verdict_at}
use Rattle.explorer_answers.proofs.Failing.{first_later}
use Rattle.explorer_answers.proofs.text.put_first.Goals as goal

pub loop-place-preserved : goal.loop-place-preserved
loop-place-preserved c =
    let p = c.args.script.now in
    let e = c.args.expectation.now in
    let os = c.args.outcomes.now in
    let k = c.loop-place.place in
    let o = c.index-outcomes-place.result in
    let there : verdict_at p e (get_or os k o) ≡ c.in_ok-found.found = ap (λ x. verdict_at p e x) (sym c.index-outcomes-place.is) ∙ sym c.in_ok-found.ensures in
    let so : is_so c.in_ok-found.found ≡ true = search rules in
    (first_later p e os k o c.loop-place-test.true (ap is_so there ∙ so) ∙ c.loop-place.invariant.0, c.loop-place.invariant.1)
