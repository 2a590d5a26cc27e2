use Rattle.swift_tasks.proofs.Prelude.{◌≡◌, ℕ, ◌∙◌, refl, ap, sym, subst, arith, List, ◌++◌, length, take, Option, map, length-map, ScriptView, root_count, EffectView, ExitView, effect_views, exit_view, Event, waiters_of, JobFacts, WaitingTaskView, AfterTurn, gives, AreMade, CanLeave, TurnLeaves, done_log, written_log, held_views, HoldsWaiting, job_facts, UnopenedAreNotClosed}
use Rattle.swift_tasks.proofs.GoesOn.{goes_kept, no_effects}
use Rattle.swift_tasks.proofs.TurnIs.{made_by, follows_turn, few_since, stood_before, turn_is, written_waiters}
use Rattle.swift_tasks.proofs.TurnEndKept.{end_kept}
use Rattle.swift_tasks.proofs.turns.end_turn.Goals as goal

pub finish-requires-clause-first : goal.finish-requires-clause-first
finish-requires-clause-first c =
    let script : ScriptView = c.requires.turn.0 in
    let turn = c.requires.turn.1 in
    let es = effect_views c.args.effects.now in
    let old : List JobFacts = map job_facts c.args.jobs.now.items in
    let few = few_since (length old) c.note_turn-resume.new.jobs.items old (made_by script c.args.task.0 c.args.number c.args.ledger.now.log es) (c.note_turn-resume.ensures.jobs script turn.turn.started (sym turn.turn.roots_are)) refl in
    omega (arith, few, c.len-first.ensures, length-map c.args.jobs.now.items job_facts, c.args.jobs.now.ok.0, c.note_turn-resume.new.jobs.ok.0)

pub finish-requires-clause-jobs_room : goal.finish-requires-clause-jobs_room
finish-requires-clause-jobs_room c =
    let turn = c.requires.turn.1 in
    let waits = written_waiters c.args.ledger.now.roots c.args.task.0 c.args.number c.args.ledger.now.log (effect_views c.args.effects.now) (exit_view c.args.exit.now) c.args.step c.note_turn-resume.ensures.leave turn.fitting in
    let same = ap (λ (l : List Event). length (waiters_of c.args.task.0 l)) c.note_turn-resume.ensures.log in
    omega (arith, waits, same, c.requires.jobs_room, c.note_turn-resume.ensures.few, c.note_turn-resume.ensures.capacity)

pub finish-requires-clause-spare : goal.finish-requires-clause-spare
finish-requires-clause-spare c =
    let turn = c.requires.turn.1 in
    let waits = written_waiters c.args.ledger.now.roots c.args.task.0 c.args.number c.args.ledger.now.log (effect_views c.args.effects.now) (exit_view c.args.exit.now) c.args.step c.note_turn-resume.ensures.leave turn.fitting in
    let same = ap (λ (l : List Event). length (waiters_of c.args.task.0 l)) c.note_turn-resume.ensures.log in
    omega (arith, waits, same, c.requires.log_room, c.len-first.ensures, c.note_turn-resume.ensures.few, c.note_turn-resume.ensures.spare)

pub finish-requires-clause-made : goal.finish-requires-clause-made
finish-requires-clause-made c =
    let script : ScriptView = c.requires.turn.0 in
    let turn = c.requires.turn.1 in
    let es : List EffectView = effect_views c.args.effects.now in
    let exit : ExitView = exit_view c.args.exit.now in
    let t : ℕ = c.args.task.0 in
    let log : List Event = c.args.ledger.now.log in
    let old : List JobFacts = map job_facts c.args.jobs.now.items in
    let is = turn_is script c.args.ledger.now.roots t c.args.number log c.note_turn-resume.new.ledger.log c.args.held.now.items es exit c.args.body.task c.args.step c.len-first.result c.note_turn-resume.new.jobs.items old c.note_turn-resume.result
    turn.turn.roots_are c.note_turn-resume.ensures.log c.note_turn-resume.ensures.resume (c.note_turn-resume.ensures.jobs script turn.turn.started (sym turn.turn.roots_are)) (omega (arith, length-map c.args.jobs.now.items job_facts, c.len-first.ensures, c.args.jobs.now.ok.0)) in
    let f : AfterTurn = follows_turn script t c.args.number log (held_views c.args.held.now.items) es exit c.args.body.task c.args.step in
    let leaves = subst (λ (r : ℕ). TurnLeaves script r log (held_views c.args.held.now.items) t es c.args.bodies.items exit c.args.body c.args.step) turn.turn.roots_are turn in
    let can = subst (λ (r : ℕ). CanLeave t (done_log r t c.args.number log es) exit) turn.turn.roots_are c.note_turn-resume.ensures.leave in
    let kept = end_kept script log (held_views c.args.held.now.items) t c.args.number es c.args.bodies.items exit c.args.body c.args.step leaves can in
    let whole : c.note_turn-resume.new.ledger.log ≡ written_log (root_count script) t c.args.number log es exit c.args.step = c.note_turn-resume.ensures.log ∙ ap (λ (r : ℕ). written_log r t c.args.number log es exit c.args.step) turn.turn.roots_are in
    subst (AreMade c.note_turn-resume.new.ledger.log) (sym (ap (λ (g : AfterTurn). g.jobs) is)) (subst (λ (l : List Event). AreMade l f.jobs) (sym whole) kept.made)

pub returns-clause-end : goal.returns-clause-end
returns-clause-end c = λ script turn.
    let es : List EffectView = effect_views c.args.effects.now in
    let exit : ExitView = exit_view c.args.exit.now in
    let t : ℕ = c.args.task.0 in
    let log : List Event = c.args.ledger.now.log in
    let old : List JobFacts = map job_facts c.args.jobs.now.items in
    let more = c.note_turn-resume.ensures.jobs script turn.turn.started (sym turn.turn.roots_are) in
    let long : length old ≡ c.len-first.result = omega (arith, length-map c.args.jobs.now.items job_facts, c.len-first.ensures, c.args.jobs.now.ok.0) in
    let is = turn_is script c.args.ledger.now.roots t c.args.number log c.note_turn-resume.new.ledger.log c.args.held.now.items es exit c.args.body.task c.args.step c.len-first.result c.note_turn-resume.new.jobs.items old c.note_turn-resume.result
    turn.turn.roots_are c.note_turn-resume.ensures.log c.note_turn-resume.ensures.resume more long in
    let f : AfterTurn = follows_turn script t c.args.number log (held_views c.args.held.now.items) es exit c.args.body.task c.args.step in
    record {
      log_is = c.finish.ensures.log ∙ ap (λ (g : AfterTurn). c.note_turn-resume.new.ledger.log ++ gives g.jobs) is
          ∙ ap (λ (l : List Event). l ++ gives f.jobs) (c.note_turn-resume.ensures.log ∙ ap (λ (r : ℕ). written_log r t c.args.number log es exit c.args.step) turn.turn.roots_are);
      held_is = c.finish.ensures.held ∙ ap (λ (g : AfterTurn). g.held) is;
      jobs_are = c.finish.ensures.jobs ∙ ap (λ (g : AfterTurn). map job_facts (take c.len-first.result c.note_turn-resume.new.jobs.items) ++ g.jobs) is
          ∙ ap (λ (js : List JobFacts). js ++ f.jobs) (stood_before c.len-first.result c.note_turn-resume.new.jobs.items old (made_by script t c.args.number log es) more long);
    }

pub returns-clause-bodies : goal.returns-clause-bodies
returns-clause-bodies c = λ script turn held. (let b = c.finish.ensures.bodies script turn.same held in (b.0, λ jobs. b.1 (c.note_turn-resume.ensures.bodies script turn.turn.started jobs)))

pub returns-clause-few : goal.returns-clause-few
returns-clause-few c = omega (arith, c.finish.ensures.long, c.len-first.ensures, c.note_turn-resume.ensures.few)

pub returns-clause-kept : goal.returns-clause-kept
returns-clause-kept c = λ script turn.
    let es : List EffectView = effect_views c.args.effects.now in
    let exit : ExitView = exit_view c.args.exit.now in
    let t : ℕ = c.args.task.0 in
    let log : List Event = c.args.ledger.now.log in
    let ends = returns-clause-end c script turn in
    let leaves = subst (λ (r : ℕ). TurnLeaves script r log (held_views c.args.held.now.items) t es c.args.bodies.items exit c.args.body c.args.step) turn.turn.roots_are turn in
    let can = subst (λ (r : ℕ). CanLeave t (done_log r t c.args.number log es) exit) turn.turn.roots_are c.note_turn-resume.ensures.leave in
    let kept = end_kept script log (held_views c.args.held.now.items) t c.args.number es c.args.bodies.items exit c.args.body c.args.step leaves can in
    let f : AfterTurn = follows_turn script t c.args.number log (held_views c.args.held.now.items) es exit c.args.body.task c.args.step in
    let l : List Event = written_log (root_count script) t c.args.number log es exit c.args.step ++ gives f.jobs in (
      subst (λ (r : ℕ). HoldsWaiting r c.finish.new.ledger.log (held_views c.finish.new.held.items)) (sym turn.turn.roots_are)
          (subst (λ (g : List Event). HoldsWaiting (root_count script) g (held_views c.finish.new.held.items)) (sym ends.log_is) (subst (λ (hs : List (Option WaitingTaskView)). HoldsWaiting (root_count script) l hs) (sym ends.held_is) kept.holds)),
      subst UnopenedAreNotClosed (sym ends.log_is) kept.closed,
    )

pub returns-in-Run-clause-kept : goal.returns-in-Run-clause-kept
returns-in-Run-clause-kept c = λ script turn.
    goes_kept script c.args.ledger.now.roots c.args.ledger.now.log c.go_on.new.ledger.log (held_views c.args.held.now.items) c.args.task.0 c.args.number (effect_views c.args.effects.now) c.args.bodies.items (exit_view c.args.exit.now) c.args.body c.args.step c.in-Run.field-0 c.in-Run.next
    (no_effects c.args.effects.now c.is_empty.result c.is_empty.ensures c.if-is_empty.true) c.in-Run.is turn c.go_on.ensures.log
