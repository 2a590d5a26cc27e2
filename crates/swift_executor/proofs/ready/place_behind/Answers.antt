use Rattle.swift_executor.proofs.Prelude.{◌≢◌, subst, rules, All-more, All, JobView}
use Rattle.std.proofs.lemmas.List.{take_all}
use Rattle.swift_executor.proofs.ready.place_behind.Goals as goal

pub loop-place-preserved : goal.loop-place-preserved
loop-place-preserved g c =
    let j = c.index-behind-place.result in
    let other : j.task ≢ c.args.task = search rules in
    All-more (λ (x : JobView g.row.B.Denot). x.task ≢ c.args.task) c.args.behind.now c.loop-place.place j c.loop-place-test.true c.loop-place.invariant
    (subst (λ (x : JobView g.row.B.Denot). x.task ≢ c.args.task) c.index-behind-place.is other)

pub returns : goal.returns
returns g c = record {
  none = subst (All (λ (x : JobView g.row.B.Denot). x.task ≢ c.args.task)) (take_all c.loop-place.place c.args.behind.now c.loop-place-test.false) c.loop-place.invariant;
  here = tt;
  before = tt;
}
