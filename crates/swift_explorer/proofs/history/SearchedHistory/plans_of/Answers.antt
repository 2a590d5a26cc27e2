use Rattle.swift_explorer.proofs.Prelude.{List, ◌+◌, take, take_all, subst, arith, slice_index_or, take_more, Move, Add, ArePlansOf}
use Rattle.swift_explorer.proofs.LooksAway.{plans_push}
use Rattle.swift_explorer.proofs.history.SearchedHistory.plans_of.Goals as goal

pub loop-step-preserved : goal.loop-step-preserved
loop-step-preserved c = λ told.
    (let moves = c.args.moves.now in
    let k = c.loop-step.step-index in
    plans_push c.args.self.now (take k moves) (take (k + 1) moves) c.loop-step.steps.items c.push.new.self.items (slice_index_or moves k Add) c.plan_of.result (take_more moves k Add c.loop-step-test.true) c.in_ok-push.ensures.items
    (c.loop-step.invariant told) (c.plan_of.ensures told))

pub returns : goal.returns
returns c = λ told. subst (λ (ms : List Move). ArePlansOf c.args.self.now ms c.loop-step.steps.items) (take_all c.loop-step.step-index c.args.moves.now (omega (arith, c.loop-step-test.false))) (c.loop-step.invariant told)
