use Rattle.swift_explorer.proofs.Prelude.{refl, arith, false, flag_numbers}
use Rattle.swift_explorer.proofs.Steps.{some_step, some_all, two_writes}
use Rattle.swift_explorer.proofs.keys.frames.put_flags.Goals as goal

pub loop-flag-preserved : goal.loop-flag-preserved
loop-flag-preserved c =
    some_step flag_numbers c.args.flags.now c.loop-flag.flag-index false _ _ _ _ (omega arith) refl c.loop-flag.invariant
    (two_writes _ _ _ _ _ c.in_ok-push.ensures.items c.in_ok-put_flag.ensures)

pub returns : goal.returns
returns c = some_all flag_numbers c.args.flags.now c.loop-flag.flag-index _ _ _ (omega (arith, c.loop-flag-test.false)) c.loop-flag.invariant c.in_ok-push-2.ensures.items
