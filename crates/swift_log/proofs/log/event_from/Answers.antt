use Rattle.std.proofs.Common.{◌<◌, ℕ, subst, ap, ◌∙◌, arith}
use Rattle.std.proofs.lemmas.List.{take_all}
use Rattle.swift_log.specs.MarksInside.{count_in}
use Rattle.swift_log.proofs.Marks.{event_found, length_events}
use Rattle.swift_log.proofs.log.event_from.Goals as goal

pub returns-then-rest-width : goal.returns-then-rest-width
returns-then-rest-width c = λ d.
    let within = subst (λ (n : ℕ). c.loop-at.rest < n) c.width-width.ensures c.if-rest-width.true in
    c.event_at.ensures d ∙ event_found c.args.numbers.now c.args.entries.now c.loop-at.at c.loop-at.rest c.args.place _ d c.loop-at-test.true within c.loop-at.invariant

pub unreachable-requires : goal.unreachable-requires
unreachable-requires c =
    let is = c.loop-at.invariant in
    let all = ap count_in (take_all c.loop-at.at c.args.entries.now c.loop-at-test.false) in
    let long = length_events c.args.numbers.now c.args.entries.now in
    let within = c.requires.within in
    omega (arith, is, all, long, within)
