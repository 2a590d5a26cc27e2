use Rattle.swift_workers.proofs.Prelude.{rules, ◌≡◌, ◌∙◌, Some, subst, ap, length, ◌<◌, arith, ScriptView, CanRunAt, ExecView, IsDeskOf}
use Rattle.swift_workers.proofs.Desks.{can_run, desk_at, desk_sent, desk_set, site_at}
use Rattle.swift_workers.proofs.sending.put.Goals as goal

pub enqueue-requires-clause-job : goal.enqueue-requires-clause-job
enqueue-requires-clause-job g c =
    let b = c.args.crew.book.now in
    let execs = c.args.crew.execs.now in
    let e = c.index-crew-place.result in
    let k = c.actor_executor-on.result.0 in
    let lt : k < length execs = omega (arith, c.if-place-crew.false) in
    let site : e.inbox.site ≡ record { script = c.args.crew.script.now; executor = k; book = Some b.id } =
    site_at b execs k e c.requires.sites lt c.index-crew-place.is ∙ ap (λ (p : ScriptView). record { script = p; executor = k; book = Some b.id }) c.requires.script in
    subst (λ (x : ExecView). CanRunAt x.inbox.site c.args.job) c.index-crew-place.is (can_run e (record { script = c.args.crew.script.now; executor = k; book = Some b.id }) c.args.job site (search rules))

pub returns-in-Ok : goal.returns-in-Ok
returns-in-Ok g c =
    let execs = c.args.crew.execs.now in
    let desks = c.args.desks.now.items in
    let e = c.index-crew-place.result in
    let d = c.index_mut-desk.result.now in
    let k = c.actor_executor-on.result.0 in
    let lt : k < length execs = omega (arith, c.if-place-crew.false) in
    let old : IsDeskOf e d = desk_at execs desks k e d c.requires.desks lt c.index-crew-place.is c.index_mut-desk.ensures.value in
    record { desks = desk_set execs desks k e c.enqueue.new.desk c.requires.desks lt c.index-crew-place.is (desk_sent e d c.enqueue.new.desk _ c.args.job.job old c.in-Ok.ensures.ok) }
