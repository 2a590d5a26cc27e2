use Rattle.swift_workers.proofs.Prelude.{◌<◌, ◌≤◌, length, rules, subst, take_all, All-more, All, ExecId, MayVisit}
use Rattle.swift_workers.proofs.pool.place_for.Goals as goal

pub loop-place-preserved : goal.loop-place-preserved
loop-place-preserved c =
    let other : MayVisit c.args.script.now c.args.workers c.args.worker c.index.result.now → ⊥ = search rules in
    let within : c.loop-place.place < length c.args.tokens.now.items = search rules in
    All-more (λ (t : ExecId). MayVisit c.args.script.now c.args.workers c.args.worker t → ⊥) c.args.tokens.now.items c.loop-place.place c.index.result.now
    within c.loop-place.invariant
    (subst (λ (t : ExecId). MayVisit c.args.script.now c.args.workers c.args.worker t → ⊥) c.index.ensures other)

pub returns : goal.returns
returns c =
    let past : length c.args.tokens.now.items ≤ c.loop-place.place = search rules in
    record {
      none = subst (All (λ (t : ExecId). MayVisit c.args.script.now c.args.workers c.args.worker t → ⊥)) (take_all c.loop-place.place c.args.tokens.now.items past) c.loop-place.invariant;
      within = tt;
      here = tt;
      before = tt;
    }
