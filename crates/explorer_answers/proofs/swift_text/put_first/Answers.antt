use Rattle.explorer_answers.proofs.Prelude.{rules, ◌≡◌, false, sym, ap, ◌∙◌, get_or, fails}
use Rattle.explorer_answers.proofs.Failing.{swift_later}
use Rattle.explorer_answers.proofs.swift_text.put_first.Goals as goal

pub loop-place-preserved : goal.loop-place-preserved
loop-place-preserved c =
    let p = c.args.script.now in
    let e = c.args.expectation.now in
    let os = c.args.outcomes.now in
    let k = c.loop-place.place in
    let o = c.index-outcomes-place.result in
    let there : fails p e (get_or os k o) ≡ c.in_ok-is_failed.is_failed = ap (λ x. fails p e x) (sym c.index-outcomes-place.is) ∙ sym c.in_ok-is_failed.ensures in
    let so : c.in_ok-is_failed.is_failed ≡ false = search rules in
    (swift_later p e os k o c.loop-place-test.true (there ∙ so) ∙ c.loop-place.invariant.0, c.loop-place.invariant.1)
