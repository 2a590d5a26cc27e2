use Rattle.swift_workers.proofs.Prelude.{◌<◌, ◌≤◌, length, rules, subst, take_all, All-more, All, MayVisit}
use Rattle.swift_workers.proofs.pool.are_for.Goals as goal

pub loop-k-preserved : goal.loop-k-preserved
loop-k-preserved c =
    let may : MayVisit c.args.script.now c.args.workers c.args.worker c.index.result.now = search rules in
    let within : c.loop-k.k < length c.args.tokens.now.items = search rules in
    All-more (MayVisit c.args.script.now c.args.workers c.args.worker) c.args.tokens.now.items c.loop-k.k c.index.result.now
    within c.loop-k.invariant
    (subst (MayVisit c.args.script.now c.args.workers c.args.worker) c.index.ensures may)

pub returns : goal.returns
returns c _ =
    let past : length c.args.tokens.now.items ≤ c.loop-k.k = search rules in
    subst (All (MayVisit c.args.script.now c.args.workers c.args.worker)) (take_all c.loop-k.k c.args.tokens.now.items past) c.loop-k.invariant
