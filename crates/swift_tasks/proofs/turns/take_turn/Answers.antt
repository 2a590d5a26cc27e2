use Rattle.swift_tasks.proofs.Prelude.{ℕ, ◌∙◌, ap, sym, subst, arith, List, length, Option, map, TaskId, Resume, ScriptView, EffectView, ExitView, effect_views, exit_view, BodyView, CanAdvance, AdvancesTo, Event, waiters_of, counters, JobFacts, WaitingTaskView, TurnLeaves, BookEnds, held_views, job_facts}
use Rattle.swift_tasks.proofs.Fitting.{advances}
use Rattle.swift_tasks.proofs.TurnTaken.{leaves_of, ends_of}
use Rattle.swift_tasks.proofs.turns.take_turn.Goals as goal

abbrev Parts : Type 0
Parts = TaskId × ℕ × Resume × BodyView

pub advance-requires-clause-call : goal.advance-requires-clause-call
advance-requires-clause-call c =
    let script : ScriptView = c.requires.fits.0 in
    let fits = c.requires.fits.1 in
    let P : Parts → Type 0 = λ r. CanAdvance r.3.script (exit_view c.args.exit.now) in
    subst P (sym c.spend-number.ensures) (subst (λ (s : ScriptView). CanAdvance s (exit_view c.args.exit.now)) (sym fits.same)
    (advances script c.args.job.task.0 c.args.ledger.now.log (counters c.args.job.task.0 c.args.ledger.now.log fits.turn.env.room) (effect_views c.args.effects.now) (exit_view c.args.exit.now) fits.turn.fits))

pub end_turn-requires-clause-log_room : goal.end_turn-requires-clause-log_room
end_turn-requires-clause-log_room c =
    let is = ap (λ (r : Parts). length (waiters_of r.0.0 c.args.ledger.now.log)) c.spend-number.ensures in
    omega (arith, is, c.requires.log_room)

pub end_turn-requires-clause-jobs_room : goal.end_turn-requires-clause-jobs_room
end_turn-requires-clause-jobs_room c =
    let is = ap (λ (r : Parts). length (waiters_of r.0.0 c.args.ledger.now.log)) c.spend-number.ensures in
    omega (arith, is, c.requires.jobs_room)

pub returns-in-Ok-clause-end : goal.returns-in-Ok-clause-end
returns-in-Ok-clause-end c = λ script fits.
    let es : List EffectView = effect_views c.args.effects.now in
    let exit : ExitView = exit_view c.args.exit.now in
    let log : List Event = c.args.ledger.now.log in
    let roots : ℕ = c.args.ledger.now.roots in
    let held : List (Option WaitingTaskView) = held_views c.args.held.now.items in
    let held' : List (Option WaitingTaskView) = held_views c.end_turn.new.held.items in
    let jobs : List JobFacts = map job_facts c.args.jobs.now.items in
    let jobs' : List JobFacts = map job_facts c.end_turn.new.jobs.items in
    let s = c.spend-number.ensures in
    let A : Parts → Type 0 = λ r. AdvancesTo r.3.script r.3.task.frames r.3.task.outer exit (record { task = c.advance.new.self.task; step = c.in-Ok.step }) in
    let adv = subst A s c.in-Ok.ensures.ok in
    let same = ap (λ (b : BodyView). b.script) c.advance.ensures.rest ∙ ap (λ (r : Parts). r.3.script) s in
    let leaves = leaves_of script roots log held c.args.job es c.args.bodies.items exit c.advance.new.self c.in-Ok.step fits adv c.in-Ok.ensures.running same in
    let L : Parts → Type 0 = λ r. TurnLeaves script roots log held r.0.0 es c.args.bodies.items exit c.advance.new.self c.in-Ok.step in
    let E : Parts → Type 0 = λ r. BookEnds script log held jobs r.0.0 r.1 es exit c.advance.new.self c.in-Ok.step c.end_turn.new.ledger.log held' jobs' in
    ends_of script roots log c.end_turn.new.ledger.log held held' jobs jobs' c.args.job es c.args.bodies.items exit c.advance.new.self c.in-Ok.step fits adv (subst E s (c.end_turn.ensures.end script (subst L (sym s) leaves)))

pub returns-in-Ok-clause-kept : goal.returns-in-Ok-clause-kept
returns-in-Ok-clause-kept c = λ script fits.
    let es : List EffectView = effect_views c.args.effects.now in
    let exit : ExitView = exit_view c.args.exit.now in
    let log : List Event = c.args.ledger.now.log in
    let roots : ℕ = c.args.ledger.now.roots in
    let held : List (Option WaitingTaskView) = held_views c.args.held.now.items in
    let s = c.spend-number.ensures in
    let A : Parts → Type 0 = λ r. AdvancesTo r.3.script r.3.task.frames r.3.task.outer exit (record { task = c.advance.new.self.task; step = c.in-Ok.step }) in
    let adv = subst A s c.in-Ok.ensures.ok in
    let same = ap (λ (b : BodyView). b.script) c.advance.ensures.rest ∙ ap (λ (r : Parts). r.3.script) s in
    let leaves = leaves_of script roots log held c.args.job es c.args.bodies.items exit c.advance.new.self c.in-Ok.step fits adv c.in-Ok.ensures.running same in
    let L : Parts → Type 0 = λ r. TurnLeaves script roots log held r.0.0 es c.args.bodies.items exit c.advance.new.self c.in-Ok.step in
    c.end_turn.ensures.kept script (subst L (sym s) leaves)

pub returns-in-Ok-clause-bodies : goal.returns-in-Ok-clause-bodies
returns-in-Ok-clause-bodies c = λ script fits.
    let es : List EffectView = effect_views c.args.effects.now in
    let exit : ExitView = exit_view c.args.exit.now in
    let log : List Event = c.args.ledger.now.log in
    let roots : ℕ = c.args.ledger.now.roots in
    let held : List (Option WaitingTaskView) = held_views c.args.held.now.items in
    let s = c.spend-number.ensures in
    let A : Parts → Type 0 = λ r. AdvancesTo r.3.script r.3.task.frames r.3.task.outer exit (record { task = c.advance.new.self.task; step = c.in-Ok.step }) in
    let adv = subst A s c.in-Ok.ensures.ok in
    let same = ap (λ (b : BodyView). b.script) c.advance.ensures.rest ∙ ap (λ (r : Parts). r.3.script) s in
    let leaves = leaves_of script roots log held c.args.job es c.args.bodies.items exit c.advance.new.self c.in-Ok.step fits adv c.in-Ok.ensures.running same in
    let L : Parts → Type 0 = λ r. TurnLeaves script roots log held r.0.0 es c.args.bodies.items exit c.advance.new.self c.in-Ok.step in
    c.end_turn.ensures.bodies script (subst L (sym s) leaves)
