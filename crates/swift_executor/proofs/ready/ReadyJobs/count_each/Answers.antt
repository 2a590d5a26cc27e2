use Rattle.swift_executor.proofs.Prelude.{get_or, refl, ap, ◌∙◌, IsPermutation-trans, ReadyJobsView}
use Rattle.swift_executor.proofs.Counting.{one_counted}
use Rattle.swift_executor.proofs.ready.ReadyJobs.count_each.Goals as goal

pub loop-place-preserved : goal.loop-place-preserved
loop-place-preserved g c =
    let old = c.args.self.now in
    let mid = c.loop-place.self in
    let new = c.raise.new.self in
    let is = c.loop-place.invariant in (
      IsPermutation-trans old.front mid.front new.front is.0 c.raise.ensures.front,
      one_counted c.loop-place.place old.levels c.args.given.now mid.levels new.levels (get_or c.args.given.now c.loop-place.place 0) is.1 c.raise.ensures.level c.raise.ensures.others refl,
      c.raise.ensures.rest ∙ ap (λ (r : ReadyJobsView g.row.B.Denot). record r { front = new.front; levels = new.levels }) is.2,
      is.3,
    )
