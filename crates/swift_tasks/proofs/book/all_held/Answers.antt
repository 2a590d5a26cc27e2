use Rattle.swift_tasks.proofs.Prelude.{◌+◌, List, take, take_all, sym, subst, arith, Option, AllZip, all_zip_more, WaitingTask, IsSameHeld}
use Rattle.swift_tasks.proofs.book.all_held.Goals as goal

pub loop-waiting-preserved : goal.loop-waiting-preserved
loop-waiting-preserved c =
    let held = c.args.held.now in
    let k = c.loop-waiting.waiting-index in
    subst (AllZip IsSameHeld (take (k + 1) held)) (sym c.in_ok-push.ensures.items)
    (all_zip_more IsSameHeld held c.loop-waiting.copy.items k c.waiting-item.result c.in_ok-held_again.field-0 c.loop-waiting-test.true c.waiting-item.is c.loop-waiting.invariant c.in_ok-held_again.ensures)

pub returns : goal.returns
returns c =
    subst (λ (hs : List (Option WaitingTask)). AllZip IsSameHeld hs c.loop-waiting.copy.items) (take_all c.loop-waiting.waiting-index c.args.held.now (omega (arith, c.loop-waiting-test.false))) c.loop-waiting.invariant
