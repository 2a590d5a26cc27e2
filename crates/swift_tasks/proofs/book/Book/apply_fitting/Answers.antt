use Rattle.swift_tasks.proofs.Prelude.{◌≡◌, ◌∙◌, refl, ap, sym, subst, arith, List, length, None, map, arc_value, AllByRecursion, TaskId, ScriptView, EffectView, ExitView, effect_views, exit_view, Event, waiters_of, counters, LedgerView, FitsScript, held_views, BookView, IsJobOf, job_facts, refusal_of_apply}
use Rattle.swift_tasks.proofs.Fitting.{starts}
use Rattle.swift_tasks.proofs.TurnTaken.{taken_fits}
use Rattle.swift_tasks.proofs.TurnApplied.{job_fits, kept_after, end_of_book}
use Rattle.swift_tasks.proofs.book.Book.apply_fitting.Goals as goal

pub bodies_of-requires : goal.bodies_of-requires
bodies_of-requires c =
    let script : ScriptView = arc_value c.self.inside.script in
    let log : List Event = c.self.inside.ledger.log in
    let es : List EffectView = effect_views c.args.effects.now in
    let exit : ExitView = exit_view c.args.exit.now in
    let none : refusal_of_apply script log c.args.job es exit ≡ None = ap (λ (b : BookView). refusal_of_apply b.script b.log c.args.job es exit) c.self.view_is ∙ c.requires.fits in
    let fits = taken_fits script log c.args.job es exit none in
    (starts script c.args.job.task.0 log (counters c.args.job.task.0 log fits.env.room) es exit fits.fits)

pub take_turn-requires-clause-fits : goal.take_turn-requires-clause-fits
take_turn-requires-clause-fits c =
    let script : ScriptView = arc_value c.self.inside.script in
    let led = c.make_room.ensures.ledger in
    let fits = job_fits c.args.self.now script c.self.inside.ledger.roots c.make_room.new.ledger.roots c.self.inside.ledger.log c.make_room.new.ledger.log c.self.inside.held.items c.make_room.new.held.items c.args.job
    (effect_views c.args.effects.now) (effect_views c.args.effects.now) c.in-Ok.bodies.items (exit_view c.args.exit.now)
    (ap (λ (b : BookView). b.script) c.self.view_is) (ap (λ (b : BookView). b.log) c.self.view_is) c.self.invariant.0 c.requires.fits c.requires.known c.requires.running c.requires.same
    c.in-Ok.ensures (ap (λ (l : LedgerView). l.roots) led) (ap (λ (l : LedgerView). l.log) led) c.make_room.ensures.held refl in
    (script, fits)

pub take_turn-requires-clause-log_room : goal.take_turn-requires-clause-log_room
take_turn-requires-clause-log_room c =
    let w : length (waiters_of c.task.result.0 c.self.inside.ledger.log) ≡ length (waiters_of c.args.job.task.0 c.make_room.new.ledger.log) =
    ap (λ (t : TaskId). length (waiters_of t.0 c.self.inside.ledger.log)) c.task.ensures ∙ sym (ap (λ (l : LedgerView). length (waiters_of c.args.job.task.0 l.log)) c.make_room.ensures.ledger) in
    omega (arith, w, c.in-Ok-make_room.ensures.log_room)

pub take_turn-requires-clause-jobs_room : goal.take_turn-requires-clause-jobs_room
take_turn-requires-clause-jobs_room c =
    let w : length (waiters_of c.task.result.0 c.self.inside.ledger.log) ≡ length (waiters_of c.args.job.task.0 c.make_room.new.ledger.log) =
    ap (λ (t : TaskId). length (waiters_of t.0 c.self.inside.ledger.log)) c.task.ensures ∙ sym (ap (λ (l : LedgerView). length (waiters_of c.args.job.task.0 l.log)) c.make_room.ensures.ledger) in
    let js : length c.make_room.new.jobs.items ≡ length c.args.jobs.now.items = ap length c.make_room.ensures.jobs in
    omega (arith, w, js, c.make_room.new.jobs.ok.0, c.args.jobs.now.ok.0, c.in-Ok-make_room.ensures.jobs_room)

pub invariant_of-self-2 : goal.invariant_of-self-2
invariant_of-self-2 c =
    let script : ScriptView = arc_value c.self.inside.script in
    let led = c.make_room.ensures.ledger in
    let fits = job_fits c.args.self.now script c.self.inside.ledger.roots c.make_room.new.ledger.roots c.self.inside.ledger.log c.make_room.new.ledger.log c.self.inside.held.items c.make_room.new.held.items c.args.job
    (effect_views c.args.effects.now) (effect_views c.args.effects.now) c.in-Ok.bodies.items (exit_view c.args.exit.now)
    (ap (λ (b : BookView). b.script) c.self.view_is) (ap (λ (b : BookView). b.log) c.self.view_is) c.self.invariant.0 c.requires.fits c.requires.known c.requires.running c.requires.same
    c.in-Ok.ensures (ap (λ (l : LedgerView). l.roots) led) (ap (λ (l : LedgerView). l.log) led) c.make_room.ensures.held refl in
    let bodies = c.in_default-take_turn.ensures.bodies script fits (subst (AllByRecursion (FitsScript script)) (sym c.make_room.ensures.held) c.self.invariant.0.bodies) in
    let held : length c.make_room.new.held.items ≡ length c.self.inside.held.items = ap length c.make_room.ensures.held in (
      kept_after script c.self.inside.ledger.roots c.make_room.new.ledger.roots c.take_turn.new.ledger.roots c.take_turn.new.ledger.log c.take_turn.new.held.items c.self.invariant.0.roots_are (ap (λ (l : LedgerView). l.roots) led) c.take_turn.ensures.roots
          (c.in_default-take_turn.ensures.kept script fits) bodies.0,
      c.make_room.ensures.spare,
      omega (arith, held, c.make_room.new.held.ok.0, c.self.inside.held.ok.0, c.take_turn.ensures.few, c.in-Ok-make_room.ensures.spare_room),
    )

pub returns-clause-ok : goal.returns-clause-ok
returns-clause-ok c =
    let script : ScriptView = arc_value c.self.inside.script in
    let led = c.make_room.ensures.ledger in
    let fits = job_fits c.args.self.now script c.self.inside.ledger.roots c.make_room.new.ledger.roots c.self.inside.ledger.log c.make_room.new.ledger.log c.self.inside.held.items c.make_room.new.held.items c.args.job
    (effect_views c.args.effects.now) (effect_views c.args.effects.now) c.in-Ok.bodies.items (exit_view c.args.exit.now)
    (ap (λ (b : BookView). b.script) c.self.view_is) (ap (λ (b : BookView). b.log) c.self.view_is) c.self.invariant.0 c.requires.fits c.requires.known c.requires.running c.requires.same
    c.in-Ok.ensures (ap (λ (l : LedgerView). l.roots) led) (ap (λ (l : LedgerView). l.log) led) c.make_room.ensures.held refl in
    end_of_book c.args.self.now script c.self.inside.ledger.log c.make_room.new.ledger.log (held_views c.self.inside.held.items) (held_views c.make_room.new.held.items) (map job_facts c.args.jobs.now.items) (map job_facts c.make_room.new.jobs.items) c.args.job
    (effect_views c.args.effects.now) (effect_views c.args.effects.now) (exit_view c.args.exit.now) c.take_turn.new.ledger.log (held_views c.take_turn.new.held.items) (map job_facts c.take_turn.new.jobs.items)
    c.self.view_is (ap (λ (l : LedgerView). l.log) led) (ap held_views c.make_room.ensures.held) (ap (map job_facts) c.make_room.ensures.jobs) refl (c.in_default-take_turn.ensures.end script fits)

pub returns-clause-bodies : goal.returns-clause-bodies
returns-clause-bodies c = λ all.
    let script : ScriptView = arc_value c.self.inside.script in
    let led = c.make_room.ensures.ledger in
    let fits = job_fits c.args.self.now script c.self.inside.ledger.roots c.make_room.new.ledger.roots c.self.inside.ledger.log c.make_room.new.ledger.log c.self.inside.held.items c.make_room.new.held.items c.args.job
    (effect_views c.args.effects.now) (effect_views c.args.effects.now) c.in-Ok.bodies.items (exit_view c.args.exit.now)
    (ap (λ (b : BookView). b.script) c.self.view_is) (ap (λ (b : BookView). b.log) c.self.view_is) c.self.invariant.0 c.requires.fits c.requires.known c.requires.running c.requires.same
    c.in-Ok.ensures (ap (λ (l : LedgerView). l.roots) led) (ap (λ (l : LedgerView). l.log) led) c.make_room.ensures.held refl in
    let ss = ap (λ (b : BookView). b.script) c.self.view_is in
    let bodies = c.in_default-take_turn.ensures.bodies script fits (subst (AllByRecursion (FitsScript script)) (sym c.make_room.ensures.held) c.self.invariant.0.bodies) in
    let was = subst (λ (s : ScriptView). AllByRecursion (IsJobOf s) c.args.jobs.now.items) (sym ss) all in
    subst (λ (s : ScriptView). AllByRecursion (IsJobOf s) c.take_turn.new.jobs.items) ss (bodies.1 (subst (AllByRecursion (IsJobOf script)) (sym c.make_room.ensures.jobs) was))

pub take_turn-requires-clause-small : goal.take_turn-requires-clause-small
take_turn-requires-clause-small c = c.requires.small

pub take_turn-requires-clause-held_room : goal.take_turn-requires-clause-held_room
take_turn-requires-clause-held_room c =
    let held : length c.make_room.new.held.items ≡ length c.self.inside.held.items = ap length c.make_room.ensures.held in
    omega (arith, held, c.make_room.new.held.ok.0, c.self.inside.held.ok.0, c.in-Ok-make_room.ensures.held_room)

pub returns-clause-script : goal.returns-clause-script
returns-clause-script c = ap (λ (b : BookView). b.script) c.self.view_is
