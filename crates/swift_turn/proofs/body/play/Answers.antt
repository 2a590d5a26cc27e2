use Rattle.std.proofs.Common.{List, [], ap, ◌∙◌, subst, sym}
use Rattle.swift_types.specs.declared.limits.TheConstants.{STEPS}
use Rattle.swift_types.specs.declared.id.MethodId.{MethodId}
use Rattle.script_code.specs.Layout.{code_at}
use Rattle.script_code.specs.Seen.{rows_of}
use Rattle.script_code.specs.Tree.{Code, Term}
use Rattle.swift_script.specs.Scripts.{actor_executor, executor_invariants, method_code}
use Rattle.swift_interpreter.specs.Frames.{effect_views, frame_view, state_in}
use Rattle.swift_interpreter.specs.Turn.{kept}
use Rattle.swift_interpreter.specs.TurnStates.{exit_view}
use Rattle.swift_undo.specs.Rows.{AreSpared}
use Rattle.swift_turn.specs.Body.{kept_turn}
use Rattle.swift_turn.proofs.KeptRoom.{room_kept}
use Rattle.swift_turn.proofs.body.play.Goals as goal

pub play_kept-requires : goal.play_kept-requires
play_kept-requires c =
    let script = c.args.script.now in
    let invariants = c.executor_invariants.ensures ∙ ap (executor_invariants script) (c.actor_executor-executor.ensures ∙ ap (actor_executor script) c.method_actor.ensures) in
    subst (λ (ts : List Term). AreSpared c.args.rows.now ts (rows_of c.args.turn.now.fields.items)) (sym invariants) c.requires.spared

pub returns-clause-kept : goal.returns-clause-kept
returns-clause-kept c =
    let script = c.args.script.now in
    let old = c.args.turn.now in
    let turn = c.play_kept.new.turn in
    let code : Code = method_code script old.frame.method.0 in
    let invariants = c.executor_invariants.ensures ∙ ap (executor_invariants script) (c.actor_executor-executor.ensures ∙ ap (actor_executor script) c.method_actor.ensures) in
    room_kept c.play_kept.result _ (code_at (method_code script turn.frame.method.0)) (frame_view turn.frame) (rows_of turn.fields.items) (effect_views turn.effects.items) turn.room exit_view
    (kept_turn script (frame_view old.frame) c.args.outer.now (rows_of old.fields.items) c.args.resume c.args.env.now)
    (λ exit played.
    ap (λ (m : MethodId). record { state = state_in (code_at (method_code script m.0)) (frame_view turn.frame) (rows_of turn.fields.items) (effect_views turn.effects.items) turn.room; exit = exit_view exit }) c.play_kept.ensures.method
    ∙ played code (code_at code) c.instructions.ensures
    ∙ ap (λ (ts : List Term). kept (record { outer = c.args.outer.now; env = c.args.env.now }) STEPS ts (state_in (code_at code) (frame_view old.frame) (rows_of old.fields.items) [] c.args.env.now.room) c.args.resume) invariants)
    c.play_kept.ensures.kept
