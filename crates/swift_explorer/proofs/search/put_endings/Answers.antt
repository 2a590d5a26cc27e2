use Rattle.swift_explorer.proofs.Prelude.{◌<◌, [], ◌∷◌, length, get_or, refl, arith, pos, Ending, Origin, ending_numbers, origin_numbers, end_numbers}
use Rattle.swift_types.specs.declared.outcome.Ending.TheVariants as ending
use Rattle.swift_events.specs.declared.life.Origin.TheVariants as origin
use Rattle.swift_explorer.proofs.Steps.{some_all, some_step, two_writes}
use Rattle.swift_explorer.proofs.search.put_endings.Goals as goal

abbrev first : Origin × Ending
first = (origin.Root, ending.Value (pos 0))

pub loop-origin-preserved : goal.loop-origin-preserved
loop-origin-preserved c =
    let all = c.args.endings.now in
    let k = c.loop-origin.origin-index in
    let x : Origin × Ending = get_or all k first in
    let low : k < length all = omega (arith, c.loop-origin-test.true) in
    let one = two_writes c.loop-origin.key.items c.push.new.self.items c.put_origin.new.key.items (pos 1 ∷ []) (origin_numbers x.0) c.in_ok-push.ensures.items c.in_ok-put_origin.ensures in
    some_step end_numbers all k first x _ _ _ low refl c.loop-origin.invariant
    (two_writes c.loop-origin.key.items c.put_origin.new.key.items c.put_ending.new.key.items (pos 1 ∷ origin_numbers x.0) (ending_numbers x.1) one c.in_ok-put_ending.ensures)

pub returns : goal.returns
returns c = some_all end_numbers c.args.endings.now c.loop-origin.origin-index _ _ _ (omega (arith, c.loop-origin-test.false)) c.loop-origin.invariant c.in_ok-push-2.ensures.items
