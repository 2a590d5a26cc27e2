use Rattle.swift_tasks.proofs.Prelude.{◌∙◌, ap, subst, List, ◌++◌, effect_views, exit_view, Event, life_of, exit_events, exit_resume, CanLeave}
use Rattle.swift_tasks.proofs.TurnEndKept.{done_is, done_unended}
use Rattle.swift_tasks.proofs.turns.note_turn.Goals as goal

pub note_effects-requires-clause-take : goal.note_effects-requires-clause-take
note_effects-requires-clause-take c = (exit_view c.args.exit.now, c.note_apply.ensures.take c.requires.turn.0 (effect_views c.args.effects.now) c.args.bodies.items (exit_view c.args.exit.now) c.requires.turn.1)

pub note_exit-requires-clause-leave : goal.note_exit-requires-clause-leave
note_exit-requires-clause-leave c =
    c.note_effects.ensures.leave (exit_view c.args.exit.now) (c.note_apply.ensures.take c.requires.turn.0 (effect_views c.args.effects.now) c.args.bodies.items (exit_view c.args.exit.now) c.requires.turn.1)

pub note_exit-requires-clause-unended : goal.note_exit-requires-clause-unended
note_exit-requires-clause-unended c =
    let done = done_is c.args.ledger.now.roots c.note_apply.new.ledger.roots c.args.task.0 c.args.number c.begun_priority-own.result c.life.result c.args.ledger.now.log c.note_apply.new.ledger.log c.note_effects.new.ledger.log (effect_views c.args.effects.now) c.note_effects.ensures.log c.note_apply.ensures.roots c.begun_priority-own.ensures c.life.ensures.life c.note_apply.ensures.log in
    ap (λ (l : List Event). (life_of c.args.task.0 l).ending) done ∙ done_unended c.args.ledger.now.roots c.args.task.0 c.args.number c.args.ledger.now.log (effect_views c.args.effects.now) c.requires.turn.1.alive

pub returns-clause-log : goal.returns-clause-log
returns-clause-log c =
    let done = done_is c.args.ledger.now.roots c.note_apply.new.ledger.roots c.args.task.0 c.args.number c.begun_priority-own.result c.life.result c.args.ledger.now.log c.note_apply.new.ledger.log c.note_effects.new.ledger.log (effect_views c.args.effects.now) c.note_effects.ensures.log c.note_apply.ensures.roots c.begun_priority-own.ensures c.life.ensures.life c.note_apply.ensures.log in
    c.note_exit.ensures.log ∙ ap (λ (l : List Event). l ++ exit_events c.args.task.0 l (exit_view c.args.exit.now) c.args.step) done

pub returns-clause-resume : goal.returns-clause-resume
returns-clause-resume c =
    let done = done_is c.args.ledger.now.roots c.note_apply.new.ledger.roots c.args.task.0 c.args.number c.begun_priority-own.result c.life.result c.args.ledger.now.log c.note_apply.new.ledger.log c.note_effects.new.ledger.log (effect_views c.args.effects.now) c.note_effects.ensures.log c.note_apply.ensures.roots c.begun_priority-own.ensures c.life.ensures.life c.note_apply.ensures.log in
    c.note_exit.ensures.resume ∙ ap (λ (l : List Event). exit_resume c.args.task.0 l (exit_view c.args.exit.now) c.args.step) done

pub returns-clause-leave : goal.returns-clause-leave
returns-clause-leave c =
    let done = done_is c.args.ledger.now.roots c.note_apply.new.ledger.roots c.args.task.0 c.args.number c.begun_priority-own.result c.life.result c.args.ledger.now.log c.note_apply.new.ledger.log c.note_effects.new.ledger.log (effect_views c.args.effects.now) c.note_effects.ensures.log c.note_apply.ensures.roots c.begun_priority-own.ensures c.life.ensures.life c.note_apply.ensures.log in
    subst (λ (l : List Event). CanLeave c.args.task.0 l (exit_view c.args.exit.now)) done
    (c.note_effects.ensures.leave (exit_view c.args.exit.now) (c.note_apply.ensures.take c.requires.turn.0 (effect_views c.args.effects.now) c.args.bodies.items (exit_view c.args.exit.now) c.requires.turn.1))
