-- Where each step leads.
use Rattle.swift_steps.proofs.Prelude.{inl, inr, ◌≡◌, ◌≢◌, ℕ, ◌+◌, List, [], ◌∷◌, ◌++◌, refl, sym, subst, ap, ◌∙◌, Bool, true, false, ℤ, Option, Some, None, if◌then◌else◌, is_none, ◌&&◌, ◌==◌, slice_get, unwrap_or, option_map, cases_eq, false≢true, none-some, Env, TaskId, ScriptView, actor_executor, method_actor, root_count, FrameView, EffectView, ExitView, Begin, Begun, life_of, IsEnv, CheckpointView, RecordView, fields_after, replay, BodyView, advanced, Block, added, begun, ran, Standing, Stands, TurnStands, after_block, at_first, begun_priority, fields_of, frames_applied, job_applied, left_as, record_in, records_of, root_in, taken, turn_applied, with_jobs, WaitingTaskView, JobFacts, TurnEnd, root_events, root_job, turn_end, BookView, IsEndOf, end_of_turn, fits_begun, refusal_of_apply, refusal_of_begin, refusal_of_root, refused_unless, standing, NextTurn, AreGiven, given_at, given_view, job_of, with_given, IsLed}
use Rattle.swift_events.specs.declared.event.Event.{Event}
use Rattle.swift_events.specs.declared.life.JobStage.{JobStage}
use Rattle.swift_history.specs.Checks.{counters, fits_turn, is_current}
use Rattle.swift_tasks.specs.declared.fault.BookFault.{BookFault}
use Rattle.swift_course.proofs.Blocks.{after_push, filter_none, filter_some, range_next, replay_append, stand_push}
use Rattle.swift_steps.proofs.Given.{equal, given_back, given_put, given_taken, unequal}

-- what holds where nothing is refused

if_none : (b : Bool) (x : BookFault) → (if b then None else Some x) ≡ None → b ≡ true
if_none true x is = refl
if_none false x is = absurd (none-some x (sym is))

pub first_of_both : (a b : Bool) → (a && b) ≡ true → a ≡ true
first_of_both true b is = refl
first_of_both false b is = absurd (false≢true is)

second_of_both : (a b : Bool) → (a && b) ≡ true → b ≡ true
second_of_both true b is = is
second_of_both false b is = absurd (false≢true is)

no_one : {A : Type 0} (o : Option A) → is_none o ≡ true → o ≡ None
no_one None is = refl
no_one (Some x) is = absurd (false≢true is)

none_before : (o : Option BookFault) (b : Bool) → refused_unless o b ≡ None → o ≡ None
none_before None b is = refl
none_before (Some x) b is = absurd (none-some x (sym is))

holds_then : (o : Option BookFault) (b : Bool) → refused_unless o b ≡ None → b ≡ true
holds_then None true is = refl
holds_then None false is = absurd (none-some _ (sym is))
holds_then (Some x) b is = absurd (none-some x (sym is))

-- fields after a block that runs no turn of the executor
pub fields_stay : (script : ScriptView) (cps : List CheckpointView) (bs : List Block) (b : Block) (e : ℕ) → record_in e b ≡ None → fields_of script cps e (bs ++ b ∷ []) ≡ fields_of script cps e bs
fields_stay script cps bs b e none = ap (replay script _) (filter_none (record_in e) bs b none)

-- a root more
pub led_root : (script : ScriptView) (cps : List CheckpointView) (bs : List Block) (log : List Event) (held : List (Option WaitingTaskView)) (tasks tasks' : List (Option NextTurn)) (fields : List (List (List ℤ))) (r : ℕ) (t : TaskId) (g : NextTurn)
    → IsLed script cps bs log held tasks fields r → refusal_of_root script log r ≡ None → given_view t.0 g ≡ root_job script r
    → ((u : ℕ) → given_at tasks' u ≡ with_given t.0 (Some g) (given_at tasks) u)
    → IsLed script cps (bs ++ added r ∷ []) (log ++ root_events script r) held tasks' fields (r + 1)
led_root script cps bs log held tasks tasks' fields r t g f may is put =
    let s = standing script bs in
    let after = after_push script (at_first script) bs (added r) in
    let both = if_none _ _ may in
    let unmade = no_one (life_of r log).origin (second_of_both _ _ both) in
    record {
      stand = stand_push script cps bs (added r) f.stand (first_of_both _ _ both, subst (λ (l : List Event). (life_of r l).origin ≡ None) f.log_is unmade);
      log_is = ap (λ (l : List Event). l ++ root_events script r) f.log_is ∙ ap (λ (x : Standing). x.log) (sym after);
      held_is = f.held_is ∙ ap (λ (x : Standing). x.held) (sym after);
      given = subst (λ (x : Standing). AreGiven x.jobs tasks') (sym after)
          (subst (λ (j : JobFacts). AreGiven (with_jobs (j ∷ []) s.jobs) tasks') is (given_put s.jobs tasks tasks' t.0 g f.given put));
      fields_are = λ e rows at. f.fields_are e rows at ∙ sym (fields_stay script cps bs (added r) e refl);
      roots_are = filter_some root_in bs (added r) r refl ∙ ap (λ (xs : List ℕ). xs ++ r ∷ []) f.roots_are ∙ range_next r;
    }

-- a turn begins
pub led_begin : (script : ScriptView) (cps : List CheckpointView) (bs : List Block) (log : List Event) (held : List (Option WaitingTaskView)) (tasks between tasks' : List (Option NextTurn)) (fields : List (List (List ℤ))) (r : ℕ) (t : TaskId) (g : NextTurn) (env : Env)
    → IsLed script cps bs log held tasks fields r → given_at tasks t.0 ≡ Some g → refusal_of_begin script log (job_of t g) ≡ None → IsEnv (root_count script) t log env
    → ((u : ℕ) → given_at between u ≡ with_given t.0 None (given_at tasks) u) → ((u : ℕ) → given_at tasks' u ≡ with_given t.0 (Some g) (given_at between) u)
    → IsLed script cps (bs ++ begun t.0 g.number env ∷ []) (log ++ Begin t g.number env ∷ []) held tasks' fields r
led_begin script cps bs log held tasks between tasks' fields r t g env f was may is took put =
    let s = standing script bs in
    let b = begun t.0 g.number env in
    let after = after_push script (at_first script) bs b in
    let current : is_current (life_of t.0 log) g.number g.resume ≡ true = holds_then _ _ (none_before _ _ may) in
    record {
      stand = stand_push script cps bs b f.stand
          (given_view t.0 g, f.given t.0 ∙ ap (option_map (given_view t.0)) was, subst (λ (l : List Event). is_current (life_of t.0 l) g.number g.resume ≡ true) f.log_is current, subst (λ (l : List Event). IsEnv (root_count script) t l env) f.log_is is);
      log_is = ap (λ (l : List Event). l ++ Begin t g.number env ∷ []) f.log_is ∙ ap (λ (x : Standing). x.log) (sym after);
      held_is = f.held_is ∙ ap (λ (x : Standing). x.held) (sym after);
      given = subst (λ (x : Standing). AreGiven x.jobs tasks') (sym after) (given_back s.jobs tasks between tasks' t.0 g f.given was took put);
      fields_are = λ e rows at. f.fields_are e rows at ∙ sym (fields_stay script cps bs b e refl);
      roots_are = filter_none root_in bs b refl ∙ f.roots_are;
    }

-- a turn runs

own_record : (e : ℕ) (r : RecordView) → record_in e (ran e r) ≡ Some r
own_record e r = ap (λ b. if b then Some r else None) (equal e e refl)

other_record : (e k : ℕ) (r : RecordView) → e ≢ k → record_in e (ran k r) ≡ None
other_record e k r apart = ap (λ b. if b then Some r else None) (unequal k e (λ is. apart (sym is)))

-- the fields of the executor, and those of the others
pub fields_go_on : (script : ScriptView) (cps : List CheckpointView) (bs : List Block) (fields fields' : List (List (List ℤ))) (k : ℕ) (rows rows' : List (List ℤ)) (r : RecordView)
    → ((e : ℕ) (x : List (List ℤ)) → slice_get fields e ≡ Some x → x ≡ fields_of script cps e bs) → slice_get fields k ≡ Some rows
    → ((e : ℕ) → slice_get fields' e ≡ (if e == k then Some rows' else slice_get fields e)) → rows' ≡ fields_after script rows r
    → (e : ℕ) (x : List (List ℤ)) → slice_get fields' e ≡ Some x → x ≡ fields_of script cps e (bs ++ ran k r ∷ [])
fields_go_on script cps bs fields fields' k rows rows' r were at are ran_is e x here = elim (cases_eq e k) [
  | inl same ↦
      let own : Some rows' ≡ Some x = sym (ap (λ b. if b then Some rows' else slice_get fields e) (equal e k same)) ∙ sym (are e) ∙ here in
      let is : rows' ≡ x = ap (λ o. unwrap_or o rows') own in
      let more : records_of e (bs ++ ran k r ∷ []) ≡ records_of e bs ++ r ∷ [] = filter_some (record_in e) bs (ran k r) r (subst (λ (j : ℕ). record_in e (ran j r) ≡ Some r) same (own_record e r)) in
      let before : rows ≡ fields_of script cps e bs = were k rows at ∙ ap (λ (j : ℕ). fields_of script cps j bs) (sym same) in
      sym is ∙ ran_is ∙ ap (λ (f : List (List ℤ)). fields_after script f r) before
      ∙ sym (ap (replay script _) more ∙ replay_append script _ (records_of e bs) (r ∷ []))
  | inr ne ↦
      let other : slice_get fields e ≡ Some x = sym (ap (λ b. if b then Some rows' else slice_get fields e) (unequal e k ne)) ∙ sym (are e) ∙ here in
      were e x other ∙ sym (fields_stay script cps bs (ran k r) e (other_record e k r ne))
]

-- What is known of a turn that was applied: the book before and after it, the task's job before it, and its body after it.
pub record Turned (b b' : BookView) (tasks between tasks' : List (Option NextTurn)) (t : TaskId) (g : NextTurn) (k : ℕ) (env : Env) (body : BodyView) (p : FrameView) (callers : List FrameView) (effects : List EffectView) (exit : ExitView) (after : Option FrameView) (jobs : List JobFacts) : Type 0 where
  pub was : given_at tasks t.0 ≡ Some g
  pub took : (u : ℕ) → given_at between u ≡ with_given t.0 None (given_at tasks) u
  pub has_begun : (life_of t.0 b.log).stage ≡ Some (Begun env)
  pub first : g.body.task.frames ≡ p ∷ callers
  pub on : actor_executor b.script (method_actor b.script p.method) ≡ k
  pub fits : refusal_of_apply b.script b.log (record (job_of t g) { body = body }) effects exit ≡ None
  pub leads : end_of_turn b (record (job_of t g) { body = body }) effects exit
      ≡ turn_end b.script b.log b.held t.0 g.number (begun_priority (life_of t.0 b.log).stage) effects exit (advanced b.script (left_as p effects after) callers g.body.task.outer exit)
  pub ends : IsEndOf b [] (record (job_of t g) { body = body }) effects exit b'.log b'.held jobs
  pub given : (seen : ℕ → Option JobFacts) → AreGiven seen between → AreGiven (with_jobs jobs seen) tasks'

module _ (b b' : BookView) (cps : List CheckpointView) (bs : List Block) (tasks between tasks' : List (Option NextTurn)) (fields : List (List (List ℤ))) (roots : ℕ) (t : TaskId) (g : NextTurn) (k : ℕ) (env : Env) (body : BodyView) (p : FrameView) (callers : List FrameView) (effects : List EffectView) (exit : ExitView) (after : Option FrameView) (jobs : List JobFacts)
    (f : IsLed b.script cps bs b.log b.held tasks fields roots) (x : Turned b b' tasks between tasks' t g k env body p callers effects exit after jobs) where
  abbrev s : Standing
  s = standing b.script bs

  abbrev outer : List (ℕ × ℤ)
  outer = g.body.task.outer

  abbrev e : TurnEnd
  e = turn_end b.script b.log b.held t.0 g.number (begun_priority (life_of t.0 b.log).stage) effects exit (advanced b.script (left_as p effects after) callers outer exit)

  -- where the block of this turn leads
  abbrev applied : Standing
  applied = turn_applied b.script s t.0 g.number effects exit after

  current : is_current (life_of t.0 b.log) g.number g.resume ≡ true
  current = holds_then _ _ (none_before _ _ x.fits)

  fits_is : fits_turn b.script t.0 b.log (counters t.0 b.log env.room) effects exit ≡ true
  fits_is =
      let all : fits_begun b.script b.log t.0 body.script effects exit (life_of t.0 b.log).stage ≡ true = holds_then _ _ x.fits in
      first_of_both _ _ (subst (λ (o : Option JobStage). fits_begun b.script b.log t.0 body.script effects exit o ≡ true) x.has_begun all)

  has_job : s.jobs t.0 ≡ Some (given_view t.0 g)
  has_job = f.given t.0 ∙ ap (option_map (given_view t.0)) x.was

  leads : applied ≡ record { log = e.log; held = e.held; jobs = with_jobs e.jobs (taken t.0 s.jobs) }
  leads =
      ap (λ (o : Option JobFacts). job_applied b.script s t.0 g.number o effects exit after) has_job
      ∙ ap (λ (fs : List FrameView). frames_applied b.script s t.0 g.number fs outer effects exit after) x.first
      ∙ ap (λ (l : List Event).
      let d = turn_end b.script l s.held t.0 g.number (begun_priority (life_of t.0 l).stage) effects exit (advanced b.script (left_as p effects after) callers outer exit) in
      record { log = d.log; held = d.held; jobs = with_jobs d.jobs (taken t.0 s.jobs) }) (sym f.log_is)
      ∙ ap (λ (h : List (Option WaitingTaskView)).
      let d = turn_end b.script b.log h t.0 g.number (begun_priority (life_of t.0 b.log).stage) effects exit (advanced b.script (left_as p effects after) callers outer exit) in
      record { log = d.log; held = d.held; jobs = with_jobs d.jobs (taken t.0 s.jobs) }) (sym f.held_is)

  pub turn_stands : TurnStands b.script s k t.0 g.number effects exit (given_view t.0 g) env p
  turn_stands = record {
    given = has_job;
    number = refl;
    current = subst (λ (l : List Event). is_current (life_of t.0 l) g.number g.resume ≡ true) f.log_is current;
    has_begun = ap (λ (l : List Event). (life_of t.0 l).stage) (sym f.log_is) ∙ x.has_begun;
    fits = subst (λ (l : List Event). fits_turn b.script t.0 l (counters t.0 l env.room) effects exit ≡ true) f.log_is fits_is;
    runs = (callers, x.first);
    on = x.on;
  }

  -- a block that leads there leads on
  pub led_turn : (blk : Block) (fields' : List (List (List ℤ))) → after_block b.script s blk ≡ applied → root_in blk ≡ None → Stands b.script cps bs blk
      → ((i : ℕ) (rows : List (List ℤ)) → slice_get fields' i ≡ Some rows → rows ≡ fields_of b.script cps i (bs ++ blk ∷ []))
      → IsLed b.script cps (bs ++ blk ∷ []) b'.log b'.held tasks' fields' roots
  led_turn blk fields' here no_root stands fields_are =
      let is = after_push b.script (at_first b.script) bs blk ∙ here ∙ leads in
      let made : jobs ≡ e.jobs = x.ends.jobs_are ∙ ap (λ (d : TurnEnd). d.jobs) x.leads in
      record {
        stand = stand_push b.script cps bs blk f.stand stands;
        log_is = x.ends.log_is ∙ ap (λ (d : TurnEnd). d.log) x.leads ∙ ap (λ (z : Standing). z.log) (sym is);
        held_is = x.ends.held_is ∙ ap (λ (d : TurnEnd). d.held) x.leads ∙ ap (λ (z : Standing). z.held) (sym is);
        given = subst (λ (z : Standing). AreGiven z.jobs tasks') (sym is)
            (subst (λ (js : List JobFacts). AreGiven (with_jobs js (taken t.0 s.jobs)) tasks') made (x.given (taken t.0 s.jobs) (given_taken s.jobs tasks between t.0 f.given x.took)));
        fields_are = fields_are;
        roots_are = filter_none root_in bs blk no_root ∙ f.roots_are;
      }
