use Rattle.swift_certificate.proofs.Prelude.{◌≡◌, refl, sym, ◌∙◌, arith, take_more_same}
use Rattle.swift_certificate.proofs.ends.is_same_log.Goals as goal

pub loop-place-preserved : goal.loop-place-preserved
loop-place-preserved c =
    let d = c.event-event.result in
    let same : d ≡ c.event-same.result = c.if-not-is_same_event.ensures refl in
    take_more_same c.args.log.now.events c.args.other.now.events c.loop-place.place d (omega (arith, c.loop-place-test.true, c.len-place-end.ensures.len))
    (omega (arith, c.loop-place-test.true, c.len-place-end.ensures.len, c.if-len.false, c.len.ensures.len, c.len-2.ensures.len)) c.loop-place.invariant (sym (c.event-event.ensures d) ∙ same ∙ c.event-same.ensures d)
