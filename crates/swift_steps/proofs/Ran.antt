-- A turn that was played leads a history on.
use Rattle.swift_steps.proofs.Prelude.{Bool, ◌≡◌, ℕ, ℤ, List, [], ◌∷◌, ◌++◌, length, refl, sym, subst, ap, ◌∙◌, Option, Some, None, Result, Ok, Err, IfOk, IsTrue, if◌then◌else◌, ◌==◌, slice_get, arc_value, Env, TaskId, ScriptView, actor_executor, method_actor, FrameView, effect_views, EffectView, ExitView, Played, TurnStateView, calling, waiting, asking_next, closing, yielding, returning, failing, exit_view, Begun, life_of, CheckpointView, RecordView, IsAfter, IsLawfulRecord, StandsFor, fields_after, JobView, Advanced, advanced, BodyView, HasFrames, IfRunning, IsTurnOf, Polls, entered, kept_turn, left, state_at, Block, RecordStands, begun_priority, fields_of, left_as, ran, turn_end, BookView, IsEndOf, end_of_frames, end_of_turn, refusal_of_apply, standing, NextTurn, OpenHistory, given_view, job_of, Applies, Follows, GoesOn, IsAtRest, IsFollowed, Plays, RunsAt, Takes, kept_first, record_of, rows_at}
use Rattle.std.specs.declared.alloc.AllocError.{AllocError}
use Rattle.swift_course.specs.Frames.{kept_frame}
use Rattle.swift_course.proofs.Frames.{frames_go_on}
use Rattle.swift_steps.specs.declared.played.PlayedTurn.{PlayedTurn}
use Rattle.swift_steps.proofs.Led.{Turned, fields_go_on, led_turn, turn_stands}
use Rattle.swift_steps.proofs.Steps.{followed_is, own_led, rest_after, same_many, same_rows}

-- what was played, by the frames that the task has had
plays_by : (x y : OpenHistory) (turn : PlayedTurn) (g : NextTurn) (rows rows' : List (List ℤ)) (fs gs : List FrameView)
    → IsAtRest x → Takes x y turn.task g → (life_of turn.task.0 x.book.log).stage ≡ Some (Begun turn.env) → RunsAt (arc_value x.script) x.tasks.items turn.task turn.place
    → slice_get (rows_at x) turn.place ≡ Some rows → ((e : ℕ) → slice_get (rows_at y) e ≡ (if e == turn.place then Some rows' else slice_get (rows_at x) e)) → length y.fields.items ≡ length x.fields.items
    → g.body.task.frames ≡ fs → turn.ready.body.task.frames ≡ gs → HasFrames fs → Polls g.body.script g.body.task.outer fs (entered rows g.resume turn.env) gs (left rows' (effect_views turn.effects.items) (exit_view turn.exit))
    → GoesOn g turn.ready → Plays x y turn
plays_by x y turn g rows rows' [] gs rest takes begun at rows_are fields_are many before after has polls goes = absurd has
plays_by x y turn g rows rows' (p ∷ callers) [] rest takes begun at rows_are fields_are many before after has polls goes = absurd polls
plays_by x y turn g rows rows' (p ∷ callers) (q ∷ others) rest takes begun at rows_are fields_are many before after has polls goes = record {
  rest = rest;
  before = g;
  takes = takes;
  has_begun = begun;
  at = at;
  rows = rows;
  rows' = rows';
  rows_are = rows_are;
  fields_are = fields_are;
  many = many;
  frame = p;
  after = q;
  callers = callers;
  first = before;
  last = after ∙ ap (λ (cs : List FrameView). q ∷ cs) polls.0;
  turns = polls.1;
  goes_on = goes;
}

pub plays : (x y : OpenHistory) (turn : PlayedTurn) (g : NextTurn) (rows rows' : List (List ℤ))
    → IsAtRest x → Takes x y turn.task g → (life_of turn.task.0 x.book.log).stage ≡ Some (Begun turn.env) → RunsAt (arc_value x.script) x.tasks.items turn.task turn.place
    → slice_get (rows_at x) turn.place ≡ Some rows → ((e : ℕ) → slice_get (rows_at y) e ≡ (if e == turn.place then Some rows' else slice_get (rows_at x) e)) → length y.fields.items ≡ length x.fields.items
    → Polls g.body.script g.body.task.outer g.body.task.frames (entered rows g.resume turn.env) turn.ready.body.task.frames (left rows' (effect_views turn.effects.items) (exit_view turn.exit))
    → GoesOn g turn.ready → Plays x y turn
plays x y turn g rows rows' rest takes begun at rows_are fields_are many polls goes =
    plays_by x y turn g rows rows' g.body.task.frames turn.ready.body.task.frames rest takes begun at rows_are fields_are many refl refl (at.runs g takes.was) polls goes

-- the frame that a turn leaves stands for what is still to do
stands : (script : ScriptView) (g : FrameView) (rows : List (List ℤ)) (effects : List EffectView) (s : TurnStateView) → state_at script g rows effects s.room ≡ s → state_at script g s.fields s.effects s.room ≡ s
stands script g rows effects s is =
    ap (λ (fs : List (List ℤ)). state_at script g fs s.effects s.room) (sym (ap (λ (x : TurnStateView). x.fields) is))
    ∙ ap (λ (es : List EffectView). state_at script g rows es s.room) (sym (ap (λ (x : TurnStateView). x.effects) is))
    ∙ is

after_left : (script : ScriptView) (m : ℕ) (s : TurnStateView) (exit : ExitView) (g : FrameView) → StandsFor script m s (Some g) → IsAfter script m s exit (kept_frame exit g)
after_left script m s (calling c) g is = is
after_left script m s (waiting t) g is = is
after_left script m s (asking_next n) g is = is
after_left script m s (closing n fault) g is = is
after_left script m s yielding g is = is
after_left script m s (returning v) g is = refl
after_left script m s (failing fault) g is = refl

-- the record of a turn of a job
abbrev turn_of : TaskId → NextTurn → ℕ → FrameView → Env → List EffectView → ExitView → Option FrameView → RecordView
turn_of t g worker p env effects exit after = record {
  task = t.0;
  number = g.number;
  worker = worker;
  frame = p;
  outer = g.body.task.outer;
  resume = g.resume;
  env = env;
  exit = exit;
  effects = effects;
  after = after;
}

lawful : (script : ScriptView) (rows rows' : List (List ℤ)) (t : TaskId) (g : NextTurn) (worker : ℕ) (p q : FrameView) (env : Env) (effects : List EffectView) (exit : ExitView)
    → IsTurnOf script p g.body.task.outer rows g.resume env q (left rows' effects exit)
    → IsLawfulRecord script rows (turn_of t g worker p env effects exit (kept_frame exit q)) × (rows' ≡ fields_after script rows (turn_of t g worker p env effects exit (kept_frame exit q)))
lawful script rows rows' t g worker p q env effects exit turns =
    let k = kept_turn script p g.body.task.outer rows g.resume env in
    let is : record { state = state_at script q rows' effects k.state.room; exit = exit } ≡ k = turns.1 in
    let state : state_at script q rows' effects k.state.room ≡ k.state = ap (λ (x : Played). x.state) is in (
      record {
        exit = ap (λ (x : Played). x.exit) is;
        effects = ap (λ (x : TurnStateView). x.effects) state;
        after = after_left script p.method k.state exit q (turns.0, stands script q rows' effects k.state state);
      },
      ap (λ (x : TurnStateView). x.fields) state,
    )

-- where it was applied
module _ (x m y : OpenHistory) (turn : PlayedTurn) (worker : ℕ) (pl : Plays x m turn) (a : Applies m y turn.task turn.ready (effect_views turn.effects.items) (exit_view turn.exit)) where
  abbrev b : BookView
  b = x.book

  abbrev t : TaskId
  t = turn.task

  abbrev g : NextTurn
  g = pl.before

  abbrev body : BodyView
  body = turn.ready.body

  abbrev effects : List EffectView
  effects = effect_views turn.effects.items

  abbrev exit : ExitView
  exit = exit_view turn.exit

  -- the record, by the job that it began with
  abbrev r : RecordView
  r = turn_of t g worker pl.frame turn.env effects exit (kept_frame exit pl.after)

  record_is : record_of turn worker pl.frame ≡ r
  record_is =
      ap (λ (h : NextTurn). turn_of t h worker pl.frame turn.env effects exit (kept_first exit body.task.frames)) pl.goes_on
      ∙ ap (λ (fs : List FrameView). turn_of t g worker pl.frame turn.env effects exit (kept_first exit fs)) pl.last

  abbrev j : JobView BodyView
  j = record (job_of t g) { body = body }

  job_is : job_of t turn.ready ≡ j
  job_is = ap (λ (h : NextTurn). record (job_of t h) { body = body }) pl.goes_on

  of_book : g.body.script ≡ b.script
  of_book = (pl.rest.scripts t.0 g pl.takes.was).script_is ∙ sym pl.rest.book_is

  turns : IsTurnOf b.script pl.frame g.body.task.outer pl.rows g.resume turn.env pl.after (left pl.rows' effects exit)
  turns = subst (λ (sc : ScriptView). IsTurnOf sc pl.frame g.body.task.outer pl.rows g.resume turn.env pl.after (left pl.rows' effects exit)) of_book pl.turns

  on : actor_executor b.script (method_actor b.script pl.frame.method) ≡ turn.place
  on =
      let here = subst (λ (fs : List FrameView). IfRunning fs (λ p. actor_executor (arc_value x.script) (method_actor g.body.script p.method) ≡ turn.place)) pl.first (pl.at.on g pl.takes.was) in
      subst (λ (sc : ScriptView). actor_executor sc (method_actor b.script pl.frame.method) ≡ turn.place) (sym pl.rest.book_is)
      (subst (λ (sc : ScriptView). actor_executor (arc_value x.script) (method_actor sc pl.frame.method) ≡ turn.place) of_book here)

  leads : end_of_turn b j effects exit
      ≡ turn_end b.script b.log b.held t.0 g.number (begun_priority (life_of t.0 b.log).stage) effects exit (advanced b.script (left_as pl.frame effects (kept_frame exit pl.after)) pl.callers g.body.task.outer exit)
  leads =
      ap (λ (v : BodyView). end_of_frames b (record (job_of t g) { body = v }) effects exit body.task.frames) (ap (λ (h : NextTurn). h.body) pl.goes_on)
      ∙ ap (λ (fs : List FrameView). end_of_frames b (record (job_of t g) { body = record g.body { task = record g.body.task { frames = body.task.frames }; phase = body.phase } }) effects exit fs) pl.last
      ∙ ap (λ (n : Advanced). turn_end b.script b.log b.held t.0 g.number (begun_priority (life_of t.0 b.log).stage) effects exit n)
      (frames_go_on b.script pl.frame pl.after pl.callers g.body.task.outer pl.rows pl.rows' g.resume turn.env effects exit turns)

  turned : Turned b y.book x.tasks.items m.tasks.items y.tasks.items t g turn.place turn.env body pl.frame pl.callers effects exit (kept_frame exit pl.after) a.jobs
  turned = record {
    was = pl.takes.was;
    took = pl.takes.rest;
    has_begun = pl.has_begun;
    first = pl.first;
    on = on;
    fits = subst (λ (k : JobView BodyView). refusal_of_apply b.script b.log k effects exit ≡ None) job_is
        (subst (λ (c : BookView). refusal_of_apply c.script c.log (job_of t turn.ready) effects exit ≡ None) pl.takes.book_is a.fits);
    leads = leads;
    ends = subst (λ (k : JobView BodyView). IsEndOf b [] k effects exit y.book.log y.book.held a.jobs) job_is
        (subst (λ (c : BookView). IsEndOf c [] (job_of t turn.ready) effects exit y.book.log y.book.held a.jobs) pl.takes.book_is a.ends);
    given = a.given;
  }

  followed : (sc : ScriptView) (cps : List CheckpointView) (bs : List Block) → IsFollowed sc cps bs x → IsFollowed sc cps (bs ++ ran turn.place r ∷ []) y
  followed sc cps bs f =
      let led = own_led sc cps bs x f in
      let is = lawful b.script pl.rows pl.rows' t g worker pl.frame pl.after turn.env effects exit turns in
      let stand : RecordStands b.script (standing b.script bs) (fields_of b.script cps turn.place bs) turn.place r = record {
        job = given_view t.0 g;
        stands = turn_stands b y.book cps bs x.tasks.items m.tasks.items y.tasks.items (rows_at x) x.roots t g turn.place turn.env body pl.frame pl.callers effects exit (kept_frame exit pl.after) a.jobs led turned;
        resume = refl;
        outer = refl;
        lawful = subst (λ (fs : List (List ℤ)). IsLawfulRecord b.script fs r) (led.fields_are turn.place pl.rows pl.rows_are) is.0;
      } in
      followed_is sc cps (bs ++ ran turn.place r ∷ []) y (record y.book { script = b.script }) (rows_at m) x.roots (ap arc_value (a.script_is ∙ pl.takes.script_is) ∙ f.script_is) (rest_after x m y t g turn.ready effects exit pl.rest pl.takes a)
      (ap (λ (own : ScriptView). record y.book { script = own }) (a.book_is ∙ ap (λ (c : BookView). c.script) pl.takes.book_is)) (same_rows m y a.fields_are) (a.roots_are ∙ pl.takes.roots_are)
      (led_turn b y.book cps bs x.tasks.items m.tasks.items y.tasks.items (rows_at x) x.roots t g turn.place turn.env body pl.frame pl.callers effects exit (kept_frame exit pl.after) a.jobs led turned
      (ran turn.place r) (rows_at m) refl refl stand (fields_go_on b.script cps bs (rows_at x) (rows_at m) turn.place pl.rows pl.rows' r led.fields_are pl.rows_are pl.fields_are is.1))

  pub ran_step : Follows x y (ran turn.place (record_of turn worker pl.frame))
  ran_step = record {
    script_is = a.script_is ∙ pl.takes.script_is;
    many = same_many m y a.fields_are ∙ pl.many;
    roots_are = a.roots_are ∙ pl.takes.roots_are;
    leads = λ sc cps bs f. subst (λ (q : RecordView). IsFollowed sc cps (bs ++ ran turn.place q ∷ []) y) (sym record_is) (followed sc cps bs f);
  }

-- what holds where a step may follow
pub if_yes : (r : Result Bool AllocError) (P Q : Type 0) → (P → Q) → IfOk r (λ yes. IsTrue yes → P) → IfOk r (λ yes. IsTrue yes → Q)
if_yes (Ok b) P Q f was = λ is. f (was is)
if_yes (Err e) P Q f was = tt
