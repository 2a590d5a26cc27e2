use Rattle.swift_tasks.proofs.Prelude.{◌≡◌, ◌∙◌, ap, sym, subst, List, [], ◌∷◌, ◌++◌, Option, IsSomeAnd, map, arc_value, Resume, exit_view, JobView, Step, Run, BodyView, at_rest, GoesOn, AdvancesTo, CanAdvance, LedgerView, CanApply, went_on, next_of, held_views, BookView, IsEndOf, job_facts}
use Rattle.swift_tasks.proofs.GoesOn.{Next, Parts, can_follow, plain_ends, plain_book, more_views}
use Rattle.swift_tasks.proofs.book.Book.call.Goals as goal

pub advance-requires-clause-call : goal.advance-requires-clause-call
advance-requires-clause-call c =
    let can = subst (λ (o : Option (JobView BodyView)). IsSomeAnd o (CanApply c.args.self.now [] (exit_view c.args.exit.now))) (sym c.in-Some.ensures.value) c.requires.fits in
    subst (λ (r : Parts). CanAdvance r.3.script (exit_view c.args.exit.now)) (sym c.spend-number.ensures) (can_follow c.args.self.now c.in-Some.job (exit_view c.args.exit.now) can)

can_of : (c : goal.After-go_on) → CanApply c.args.self.now [] (exit_view c.args.exit.now) c.in-Some.job
can_of c = subst (λ (o : Option (JobView BodyView)). IsSomeAnd o (CanApply c.args.self.now [] (exit_view c.args.exit.now))) (sym c.in-Some.ensures.value) c.requires.fits

next_by : (c : goal.After-go_on) → Next c.in-Some.job (exit_view c.args.exit.now) c.advance.new.self c.in-Ok-Run.next
next_by c =
    let job : JobView BodyView = c.in-Some.job in
    let step : c.in-Ok-Run.field-0 ≡ Run c.in-Ok-Run.field-0-0 c.in-Ok-Run.next = c.in-Ok-Run.field-0-is in
    let A : Parts → Type 0 = λ r. AdvancesTo r.3.script r.3.task.frames r.3.task.outer (exit_view c.args.exit.now) (record { task = c.advance.new.self.task; step = c.in-Ok-Run.field-0 }) in
    let adv = subst A c.spend-number.ensures c.in-Ok-Run.ensures.ok in
    let B : Step → Type 0 = λ s. AdvancesTo job.body.script job.body.task.frames job.body.task.outer (exit_view c.args.exit.now) (record { task = c.advance.new.self.task; step = s }) in
    record {
      actor = c.in-Ok-Run.field-0-0;
      advances = subst B step adv;
      runs = c.in-Ok-Run.ensures.running (subst GoesOn (sym step) tt);
      same = ap (λ (b : BodyView). b.script) c.advance.ensures.rest ∙ ap (λ (r : Parts). r.3.script) c.spend-number.ensures;
    }

pub invariant_of-self-in-Ok-Run : goal.invariant_of-self-in-Ok-Run
invariant_of-self-in-Ok-Run c =
    let job : JobView BodyView = c.in-Some.job in
    let next : Resume = c.in-Ok-Run.next in
    let same = c.reserve-2.ensures.same in
    let log = c.go_on.ensures.log ∙ ap (λ (n : Resume). went_on c.reserve-2.new.self.log c.spend-number.result.0 c.spend-number.result.1 n) c.in-Ok-Run.next-is
    ∙ ap (λ (r : Parts). went_on c.reserve-2.new.self.log r.0 r.1 next) c.spend-number.ensures ∙ ap (λ (l : LedgerView). went_on l.log job.task job.number next) same in
    let roots = c.go_on.ensures.roots ∙ ap (λ (l : LedgerView). l.roots) same in (
      plain_book c.args.self.now (arc_value c.self.inside.script) c.self.inside.ledger.roots c.go_on.new.ledger.roots c.self.inside.ledger.log c.go_on.new.ledger.log c.self.inside.held.items job (exit_view c.args.exit.now) c.advance.new.self next
          (ap (λ (b : BookView). b.script) c.self.view_is) (ap (λ (b : BookView). b.log) c.self.view_is) c.self.invariant.0 (can_of c) (next_by c) roots log,
      c.self.invariant.1,
      c.self.invariant.2,
    )

pub returns-in-Ok-Run-clause-ok : goal.returns-in-Ok-Run-clause-ok
returns-in-Ok-Run-clause-ok c =
    let job : JobView BodyView = c.in-Some.job in
    let next : Resume = c.in-Ok-Run.next in
    let body : BodyView = c.advance.new.self in
    let log = c.go_on.ensures.log ∙ ap (λ (n : Resume). went_on c.reserve-2.new.self.log c.spend-number.result.0 c.spend-number.result.1 n) c.in-Ok-Run.next-is
    ∙ ap (λ (r : Parts). went_on c.reserve-2.new.self.log r.0 r.1 next) c.spend-number.ensures ∙ ap (λ (l : LedgerView). went_on l.log job.task job.number next) c.reserve-2.ensures.same
    ∙ ap (λ (b : BookView). went_on b.log job.task job.number next) c.self.view_is in
    let jobs = c.go_on.ensures.jobs ∙ ap (λ (n : Resume). c.reserve.new.self.items ++ next_of c.spend-number.result.0 c.spend-number.result.1 n (at_rest body) ∷ []) c.in-Ok-Run.next-is
    ∙ ap (λ (r : Parts). c.reserve.new.self.items ++ next_of r.0 r.1 next (at_rest body) ∷ []) c.spend-number.ensures ∙ ap (λ (js : List (JobView BodyView)). js ++ next_of job.task job.number next (at_rest body) ∷ []) c.reserve.ensures.items in
    let end = plain_ends c.args.self.now (map job_facts c.args.jobs.now.items) (map job_facts c.go_on.new.jobs.items) job (exit_view c.args.exit.now) body next c.go_on.new.ledger.log (held_views c.self.inside.held.items) (can_of c) (next_by c)
    log (ap (λ (b : BookView). b.held) c.self.view_is) (more_views c.args.jobs.now.items c.go_on.new.jobs.items job next (at_rest body) jobs) in
    subst (λ (o : Option (JobView BodyView)). IsSomeAnd o (λ j. IsEndOf c.args.self.now (map job_facts c.args.jobs.now.items) j [] (exit_view c.args.exit.now) c.go_on.new.ledger.log (held_views c.self.inside.held.items) (map job_facts c.go_on.new.jobs.items))) c.in-Some.ensures.value end
