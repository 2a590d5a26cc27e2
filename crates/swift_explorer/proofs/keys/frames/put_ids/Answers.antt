use Rattle.swift_explorer.proofs.Prelude.{refl, arith, number_numbers}
use Rattle.swift_explorer.proofs.Steps.{some_step, some_all, two_writes}
use Rattle.swift_explorer.proofs.keys.frames.put_ids.Goals as goal

pub loop-id-preserved : goal.loop-id-preserved
loop-id-preserved c =
    some_step number_numbers c.args.ids.now c.loop-id.id-index 0 _ _ _ _ (omega arith) refl c.loop-id.invariant
    (two_writes _ _ _ _ _ c.in_ok-push.ensures.items c.in_ok-put_number.ensures)

pub returns : goal.returns
returns c = some_all number_numbers c.args.ids.now c.loop-id.id-index _ _ _ (omega (arith, c.loop-id-test.false)) c.loop-id.invariant c.in_ok-push-2.ensures.items
