use Rattle.swift_explorer.proofs.Prelude.{rules, ◌≡◌, ◌<◌, ℕ, ℤ, List, ◌∷◌, Vec, get_or, length, sym, subst, ap, ap₂, ◌∙◌, arith, Some, slice_get, unwrap_or, Option, Global, slice_get-get_or, rows_of, FrameView, effect_views, frame_view, BodyView, HasFrames, TaskView, callers_of, NextTurn, ScriptView, arc_value, given_at, GoesOnAtOnce, TurnGoesOn, any_env, rows_at}
use Rattle.swift_interpreter.specs.TurnStates.{exit_view}
use Rattle.swift_steps.proofs.Rows.{rows_here}
use Rattle.swift_explorer.proofs.Trial.{as_before, frames_back, turn_goes_on}
use Rattle.swift_explorer.proofs.history.SearchedHistory.goes_alone.Goals as goal

pub returns-clause-same : goal.returns-clause-same
returns-clause-same c =
    let x = c.args.self.now in
    let t = c.args.task in
    let g = c.in-Some.ready in
    let was : given_at x.steps.tasks.items t.0 ≡ Some g = sym c.take.ensures.found ∙ c.in-Some.is in
    let body = c.replay_turn.new.body in
    let end = c.put_back.new.self in
    let outcome = c.in-Ok.field-0 in
    let frame = frame_view c.in_ok-frame.frame in
    let runs = (c.requires.1.followed.scripts t.0 g was).runs in
    let frames : g.body.task.frames ≡ frame ∷ callers_of body.task.frames =
    frames_back g.body.script g.body.task.outer g.body.task.frames body.task.frames _ (rows_of outcome.fields.items) g.resume any_env (effect_views outcome.effects.items) (exit_view outcome.exit) frame runs c.in_ok-frame.ensures.frame c.in-Ok.ensures.turn in
    let outer : g.body.task.outer ≡ body.task.outer = ap (λ (b : BodyView). b.task.outer) (sym c.in-Ok.ensures.rest) in
    let task : g.body.task ≡ end.task = ap₂ (λ (fs : List FrameView) (o : List (ℕ × ℤ)). record { frames = fs; outer = o }) frames outer ∙ ap (λ (b : BodyView). b.task) (sym c.put_back.ensures) in
    let script : end.script ≡ g.body.script = ap (λ (b : BodyView). b.script) c.put_back.ensures ∙ ap (λ (b : BodyView). b.script) c.in-Ok.ensures.rest in
    let k : NextTurn = record g { body = end } in
    as_before x c.take.new.tasks.items c.put.new.tasks t.0 g k was c.take.ensures.rest c.in_ok-put.ensures (ap (λ (v : TaskView). record { task = t.0; number = g.number; resume = g.resume; frames = v }) task)
    (λ sc is. record { script_is = script ∙ is.script_is; runs = subst (λ (v : TaskView). HasFrames v.frames) task is.runs })

pub returns-clause-alone : goal.returns-clause-alone
returns-clause-alone c = λ is.
    (let x = c.args.self.now in
    let t = c.args.task in
    let g = c.in-Some.ready in
    let was : given_at x.steps.tasks.items t.0 ≡ Some g = sym c.take.ensures.found ∙ c.in-Some.is in
    let outcome = c.in-Ok.field-0 in
    let seen = λ (rows : Vec (Vec ℤ Global) Global). rows_of rows.items in
    let copy = c.in_ok-fields.fields in
    let v = c.index.result.now in
    let lt : c.args.place < length x.steps.fields.items = omega (arith, c.if-place-len.false, c.len.ensures) in
    let at : v ≡ get_or x.steps.fields.items c.args.place v = search rules in
    let same_rows : rows_of copy.items ≡ rows_of v.items = search rules in
    let own : c.deref-2.result.now ≡ arc_value x.steps.script = search rules in
    let there : slice_get (rows_at x) c.args.place ≡ Some (rows_of copy.items) =
    rows_here seen x.steps.fields.items c.args.place v (slice_get-get_or x.steps.fields.items c.args.place v lt ∙ ap Some (sym at)) ∙ ap Some (sym same_rows) in (
      rows_of copy.items,
      there,
      λ k given.
          (let same : g ≡ k = ap (λ (o : Option NextTurn). unwrap_or o g) (sym was ∙ given) in
          subst (λ (h : NextTurn). TurnGoesOn (arc_value x.steps.script) t.0 h.body.script h.body.task.frames h.body.task.outer (rows_of copy.items) h.resume) same
          (turn_goes_on (arc_value x.steps.script) t.0 g.body.script g.body.task.outer g.body.task.frames c.replay_turn.new.body.task.frames (rows_of copy.items) (rows_of outcome.fields.items) g.resume (effect_views outcome.effects.items) (exit_view outcome.exit) c.in-Ok.ensures.turn
          (subst (λ (s : ScriptView). GoesOnAtOnce s t.0 (callers_of c.replay_turn.new.body.task.frames) (exit_view outcome.exit)) own (c.goes_on-goes.ensures is)))),
    ))
