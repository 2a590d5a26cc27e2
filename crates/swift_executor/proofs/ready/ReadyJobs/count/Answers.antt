use Rattle.swift_executor.proofs.Prelude.{◌≡◌, ℕ, List, length, take, true, eqb, ap, sym, subst, ◌∙◌, AreHigher, ReadyJobsView}
use Rattle.swift_executor.proofs.Counting.{none_higher}
use Rattle.swift_executor.proofs.ready.ReadyJobs.count.Goals as goal
use lib.Pointwise.{pointwise}

pub returns-then-eq-clause-levels : goal.returns-then-eq-clause-levels
returns-then-eq-clause-levels g c =
    let given = c.args.given.now in
    let is : pointwise eqb (take (length given) c.self.inside.levels.items) given ≡ true =
    ap (λ (xs : List ℕ). pointwise eqb (take (length given) xs) given) (sym c.as_slice.ensures.value) ∙ sym c.eq.ensures ∙ c.if-eq.true in
    subst (λ (r : ReadyJobsView g.row.B.Denot). AreHigher r.levels given r.levels) c.self.view_is (none_higher c.self.inside.levels.items given is)
