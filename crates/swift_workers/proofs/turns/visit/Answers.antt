use Rattle.swift_workers.proofs.Prelude.{◌<◌, List, length, sym, subst, ap, ◌∙◌, arith, AllByRecursion, JobView, ScriptView, BodyView, IsJobOf, SiteView, ExecView, IsBookOf, IsDeskOf}
use Rattle.swift_workers.proofs.Desks.{book_at, desk_at, desk_ran, desk_set, desk_tried, site_at}
use Rattle.swift_workers.proofs.turns.visit.Goals as goal

pub run_some-requires-clause-book : goal.run_some-requires-clause-book
run_some-requires-clause-book g c =
    let lt : c.args.on.0 < length c.args.crew.execs.now = omega (arith, c.if-place-crew.false) in
    subst (λ (x : ExecView). IsBookOf x c.args.crew.book.now) c.index-crew-place.is
    (book_at c.args.crew.book.now c.args.crew.execs.now c.args.on.0 c.index-crew-place.result c.requires.sites lt c.index-crew-place.is)

pub returns-clause-desks : goal.returns-clause-desks
returns-clause-desks g c =
    let e = c.index-crew-place.result in
    let k = c.args.on.0 in
    let execs = c.args.crew.execs.now in
    let desks = c.args.hand.now.desks.items in
    let lt : k < length execs = omega (arith, c.if-place-crew.false) in
    let old : IsDeskOf e c.index_mut-desk.result.now = desk_at execs desks k e c.index_mut-desk.result.now c.requires.hand.desks lt c.index-crew-place.is c.index_mut-desk.ensures.value in
    desk_set execs desks k e c.run_some.new.desk c.requires.hand.desks lt c.index-crew-place.is (desk_ran e c.index_mut-desk.result.now c.run_some.new.desk _ _ c.in_ok-ran.ran old c.in_ok-ran.ensures.desk)

pub returns-in_err-ran-clause-desks : goal.returns-in_err-ran-clause-desks
returns-in_err-ran-clause-desks g c =
    let e = c.index-crew-place.result in
    let k = c.args.on.0 in
    let execs = c.args.crew.execs.now in
    let desks = c.args.hand.now.desks.items in
    let lt : k < length execs = omega (arith, c.if-place-crew.false) in
    let old : IsDeskOf e c.index_mut-desk.result.now = desk_at execs desks k e c.index_mut-desk.result.now c.requires.hand.desks lt c.index-crew-place.is c.index_mut-desk.ensures.value in
    desk_set execs desks k e c.run_some.new.desk c.requires.hand.desks lt c.index-crew-place.is (desk_tried e c.index_mut-desk.result.now c.run_some.new.desk _ _ old c.in_err-ran.ensures.kept)

pub returns-clause-jobs : goal.returns-clause-jobs
returns-clause-jobs g c =
    let b = c.args.crew.book.now in
    let execs = c.args.crew.execs.now in
    let e = c.index-crew-place.result in
    let lt : c.args.on.0 < length execs = omega (arith, c.if-place-crew.false) in
    let script =
    ap (λ (x : ExecView). x.inbox.site.script) (sym c.index-crew-place.is) ∙ ap (λ (s : SiteView). s.script) (site_at b execs c.args.on.0 e c.requires.sites lt c.index-crew-place.is) ∙ c.requires.script in
    let none : (p : ScriptView) → AllByRecursion (IsJobOf p) c.args.hand.now.jobs.jobs = λ p. subst (λ (xs : List (JobView BodyView)). AllByRecursion (IsJobOf p) xs) (sym c.requires.hand.none) tt in
    subst (λ (p : ScriptView). AllByRecursion (IsJobOf p) c.run_some.new.jobs.jobs) script (c.in_ok-ran.ensures.bodies (none _))
