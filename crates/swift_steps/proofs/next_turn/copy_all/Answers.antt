use Rattle.swift_steps.proofs.Prelude.{◌+◌, List, take, take_all, sym, subst, arith, Option, AllZip, NextTurn, IsSameIf}
use Rattle.std.proofs.lemmas.List.Elements.{all_zip_more}
use Rattle.swift_steps.proofs.next_turn.copy_all.Goals as goal

pub loop-ready-preserved : goal.loop-ready-preserved
loop-ready-preserved c =
    let tasks = c.args.tasks.now in
    let k = c.loop-ready.ready-index in
    subst (AllZip IsSameIf (take (k + 1) tasks)) (sym c.in_ok-push.ensures.items)
    (all_zip_more IsSameIf tasks c.loop-ready.copy.items k c.ready-item.result c.in_ok-again.field-0 c.loop-ready-test.true c.ready-item.is c.loop-ready.invariant c.in_ok-again.ensures)

pub returns : goal.returns
returns c =
    subst (λ (ts : List (Option NextTurn)). AllZip IsSameIf ts c.loop-ready.copy.items) (take_all c.loop-ready.ready-index c.args.tasks.now (omega (arith, c.loop-ready-test.false))) c.loop-ready.invariant
