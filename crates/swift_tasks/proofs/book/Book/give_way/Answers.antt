use Rattle.swift_tasks.proofs.Prelude.{◌∙◌, ap, sym, subst, List, [], ◌∷◌, ◌++◌, Option, IsSomeAnd, map, arc_value, Go, yielding, JobView, BodyView, at_rest, LedgerView, CanApply, went_on, next_of, held_views, BookView, IsEndOf, job_facts}
use Rattle.swift_tasks.proofs.GoesOn.{Parts, goes_again, plain_ends, plain_book, more_views}
use Rattle.swift_tasks.proofs.book.Book.give_way.Goals as goal

pub invariant_of-self-2 : goal.invariant_of-self-2
invariant_of-self-2 c =
    let job : JobView BodyView = c.in-Some.job in
    let can = subst (λ (o : Option (JobView BodyView)). IsSomeAnd o (CanApply c.args.self.now [] yielding)) (sym c.in-Some.ensures.value) c.requires in
    let same = c.reserve-2.ensures.same in
    let log = c.go_on.ensures.log ∙ ap (λ (r : Parts). went_on c.reserve-2.new.self.log r.0 r.1 Go) c.spend-number.ensures ∙ ap (λ (l : LedgerView). went_on l.log job.task job.number Go) same in
    let roots = c.go_on.ensures.roots ∙ ap (λ (l : LedgerView). l.roots) same in (
      plain_book c.args.self.now (arc_value c.self.inside.script) c.self.inside.ledger.roots c.go_on.new.ledger.roots c.self.inside.ledger.log c.go_on.new.ledger.log c.self.inside.held.items job yielding job.body Go
          (ap (λ (b : BookView). b.script) c.self.view_is) (ap (λ (b : BookView). b.log) c.self.view_is) c.self.invariant.0 can (goes_again job can.running) roots log,
      c.self.invariant.1,
      c.self.invariant.2,
    )

pub returns-clause-ok : goal.returns-clause-ok
returns-clause-ok c =
    let job : JobView BodyView = c.in-Some.job in
    let can = subst (λ (o : Option (JobView BodyView)). IsSomeAnd o (CanApply c.args.self.now [] yielding)) (sym c.in-Some.ensures.value) c.requires in
    let log = c.go_on.ensures.log ∙ ap (λ (r : Parts). went_on c.reserve-2.new.self.log r.0 r.1 Go) c.spend-number.ensures ∙ ap (λ (l : LedgerView). went_on l.log job.task job.number Go) c.reserve-2.ensures.same
    ∙ ap (λ (b : BookView). went_on b.log job.task job.number Go) c.self.view_is in
    let jobs = c.go_on.ensures.jobs ∙ ap (λ (r : Parts). c.reserve.new.self.items ++ next_of r.0 r.1 Go (at_rest r.3) ∷ []) c.spend-number.ensures ∙ ap (λ (js : List (JobView BodyView)). js ++ next_of job.task job.number Go (at_rest job.body) ∷ []) c.reserve.ensures.items in
    let end = plain_ends c.args.self.now (map job_facts c.args.jobs.now.items) (map job_facts c.go_on.new.jobs.items) job yielding job.body Go c.go_on.new.ledger.log (held_views c.self.inside.held.items) can (goes_again job can.running)
    log (ap (λ (b : BookView). b.held) c.self.view_is) (more_views c.args.jobs.now.items c.go_on.new.jobs.items job Go (at_rest job.body) jobs) in
    subst (λ (o : Option (JobView BodyView)). IsSomeAnd o (λ j. IsEndOf c.args.self.now (map job_facts c.args.jobs.now.items) j [] yielding c.go_on.new.ledger.log (held_views c.self.inside.held.items) (map job_facts c.go_on.new.jobs.items))) c.in-Some.ensures.value end
