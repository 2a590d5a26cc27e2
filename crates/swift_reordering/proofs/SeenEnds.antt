-- The end of a turn on two logs that are one as far as one looks at lives.
use Rattle.swift_reordering.proofs.Prelude.{◌≡◌, ℕ, ◌+◌, List, [], ◌∷◌, ◌++◌, length, replicate, refl, sym, ◌∙◌, ap, ap₂, subst, subst₂, Bool, true, false, inl, inr, append-nil, append_assoc, ◌⊎◌, Option, Some, None, ◌&&◌, ◌==◌, is_some, if◌then◌else◌, unwrap_or, slice_get, TaskId, Ending, Resume, Priority, Background, ScriptView, root_count, TaskName, Own, EffectView, spawning, detaching, opening, adding, cancelling_task, cancelling_group, ExitView, waiting, asking_next, closing, Step, Ended, TaskView, Advanced, Event, Apply, Free, Open, Child, Skip, CancelTask, Life, JobStage, Given, Begun, Applied, Waits, Asks, Closes, later, task_of, life_of, stage_in, life_of-push_same, life_of-push_other, AllByRecursion, cases_eq, eq-eqb, ne_eqb, waiters_of, parent_of, JobFacts, WaitingTaskView, AfterTurn, TurnEnd, task, first_job, named_task, is_left_out, cancel_events, effect_events, effect_jobs, log_after, jobs_made, next_events, wait_events, exit_events, wait_resume, next_resume, close_resume, exit_resume, gives, wake_each, wake_closing, wake_owner, wake_parent, wake_all, turn_end, resume_of, AreInPlace, new_prefix, stage_at}
use Rattle.swift_groups.specs.declared.answer.Close.{Close as Closing}
use Rattle.swift_interpreter.specs.declared.effect.TaskName.TheVariants.{Root as RootName}
use Rattle.swift_history.specs.TurnEnds.{followed}
use Rattle.swift_reordering.proofs.Sights.{waited, ChildrenShown, IsShown, IsSight, AreSeen, seen_on, seen_tasks, seen_ending, seen_waits, seen_parent, seen_own, seen_opened, seen_waiters, seen_next, seen_close, seen_cancelled_group}

-- what an owner goes on with depends only on what it waits for
owner_stage : (o g : ℕ) (e : Ending) (s : Option JobStage) (log : List Event) (f : AfterTurn) → wake_owner o g e s log f ≡ wake_owner o g e (waited s) log f
owner_stage o g e None log f = refl
owner_stage o g e (Some (Begun env)) log f = refl
owner_stage o g e (Some Given) log f = refl
owner_stage o g e (Some Applied) log f = refl
owner_stage o g e (Some (Waits u)) log f = refl
owner_stage o g e (Some (Asks asked)) log f = refl
owner_stage o g e (Some (Closes closed)) log f = refl

-- how far each task's job is after the same events: as in the other log, or as before in both

abbrev pub HaveGoneOn : List Event → List Event → List Event → List Event → Type 0
HaveGoneOn first other a b = (u : ℕ) → (stage_at a u ≡ stage_at b u) ⊎ ((stage_at a u ≡ stage_at first u) × (stage_at b u ≡ stage_at other u))

pub stage_push : (u : ℕ) (log : List Event) (e : Event) → stage_at (log ++ e ∷ []) u ≡ later (if task_of e == u then stage_in e else None) (stage_at log u)
stage_push u log e = elim (cases_eq (task_of e) u) [
  | inl same ↦ ap (λ (l : Life). l.stage) (life_of-push_same u log e same) ∙ ap (λ (b : Bool). later (if b then stage_in e else None) (stage_at log u)) (sym (eq-eqb (task_of e) u same))
  | inr other ↦ ap (λ (l : Life). l.stage) (life_of-push_other u log e other) ∙ ap (λ (b : Bool). later (if b then stage_in e else None) (stage_at log u)) (sym (ne_eqb (task_of e) u other))
]

gone_later : (x s z s0 z0 : Option JobStage) → (s ≡ z) ⊎ ((s ≡ s0) × (z ≡ z0)) → (later x s ≡ later x z) ⊎ ((later x s ≡ s0) × (later x z ≡ z0))
gone_later (Some x) s z s0 z0 was = inl refl
gone_later None s z s0 z0 was = was

gone_push : (first other a b : List Event) (e : Event) → HaveGoneOn first other a b → HaveGoneOn first other (a ++ e ∷ []) (b ++ e ∷ [])
gone_push first other a b e was u =
    subst₂ (λ (s z : Option JobStage). (s ≡ z) ⊎ ((s ≡ stage_at first u) × (z ≡ stage_at other u))) (sym (stage_push u a e)) (sym (stage_push u b e))
    (gone_later (if task_of e == u then stage_in e else None) (stage_at a u) (stage_at b u) (stage_at first u) (stage_at other u) (was u))

gone_all : (es first other a b : List Event) → HaveGoneOn first other a b → HaveGoneOn first other (a ++ es) (b ++ es)
gone_all [] first other a b was = subst₂ (HaveGoneOn first other) (sym (append-nil a)) (sym (append-nil b)) was
gone_all (e ∷ es) first other a b was =
    subst₂ (HaveGoneOn first other) (append_assoc a (e ∷ []) es) (append_assoc b (e ∷ []) es) (gone_all es first other (a ++ e ∷ []) (b ++ e ∷ []) (gone_push first other a b e was))

-- which effects take the priority of the turn

abbrev pub takes_own : EffectView → Bool
takes_own (spawning i None bindings) = true
takes_own _ = false

abbrev pub TakesNone : EffectView → Type 0
TakesNone e = takes_own e ≡ false

own_effect : (roots t : ℕ) (own other : Priority) (log : List Event) (e : EffectView) → TakesNone e → effect_events roots t own log e ≡ effect_events roots t other log e
own_effect roots t own other log (spawning i None bindings) none = absurd (cc none)
own_effect roots t own other log _ none = refl

own_after : (roots t : ℕ) (own other : Priority) (es : List EffectView) (log : List Event) → AllByRecursion TakesNone es → log_after roots t own log es ≡ log_after roots t other log es
own_after roots t own other [] log all = refl
own_after roots t own other (e ∷ es) log all =
    own_after roots t own other es (log ++ effect_events roots t own log e) all.1 ∙ ap (λ (xs : List Event). log_after roots t other (log ++ xs) es) (own_effect roots t own other log e all.0)

own_made : (script : ScriptView) (t : ℕ) (own other : Priority) (es : List EffectView) (log : List Event) → AllByRecursion TakesNone es → jobs_made script t own log es ≡ jobs_made script t other log es
own_made script t own other [] log all = refl
own_made script t own other (e ∷ es) log all =
    ap (λ (xs : List JobFacts). effect_jobs script t log e ++ xs) (own_made script t own other es (log ++ effect_events (root_count script) t own log e) all.1)
    ∙ ap (λ (xs : List Event). effect_jobs script t log e ++ jobs_made script t other (log ++ xs) es) (own_effect (root_count script) t own other log e all.0)

own_end : (script : ScriptView) (log : List Event) (held : List (Option WaitingTaskView)) (t n : ℕ) (own other : Priority) (effects : List EffectView) (exit : ExitView) (adv : Advanced)
    → (own ≡ other) ⊎ AllByRecursion TakesNone effects → turn_end script log held t n own effects exit adv ≡ turn_end script log held t n other effects exit adv
own_end script log held t n own other effects exit adv (inl same) = ap (λ (p : Priority). turn_end script log held t n p effects exit adv) same
own_end script log held t n own other effects exit adv (inr all) =
    let begun : List Event = log ++ Apply (task t) n ∷ [] in
    ap₂ (λ (done : List Event) (made : List JobFacts).
    (let written : List Event = done ++ exit_events t done exit adv.step in
    let f : AfterTurn = followed t (n + 1) adv.task (exit_resume t done exit adv.step) adv.step written (record { held = held ++ replicate (length made) None; jobs = made }) in
    let end : TurnEnd = record { log = written ++ gives f.jobs; held = f.held; jobs = f.jobs } in
    end))
    (own_after (root_count script) t own other effects begun all) (own_made script t own other effects begun all)

-- Each task that a turn names at its end shows how it has ended: those that its effects cancel, by the log before each, and the one that it
-- waits for.

abbrev pub NameShown : (ℕ → Bool) → ℕ → List Event → TaskName → Type 0
NameShown hides t log name = hides (named_task t name log).0 ≡ false

abbrev pub EffectShown : (ℕ → Bool) → ℕ → List Event → EffectView → Type 0
EffectShown hides t log (cancelling_task name) = NameShown hides t log name
EffectShown hides t log _ = Unit {0}

abbrev pub EffectsShown : (ℕ → Bool) → ℕ → ℕ → Priority → List EffectView → List Event → Type 0
EffectsShown hides roots t own [] log = Unit {0}
EffectsShown hides roots t own (e ∷ es) log = EffectShown hides t log e × EffectsShown hides roots t own es (log ++ effect_events roots t own log e)

abbrev pub ExitShown : (ℕ → Bool) → ℕ → List Event → ExitView → Type 0
ExitShown hides t log (waiting name) = NameShown hides t log name
ExitShown hides t log _ = Unit {0}

pub record TurnShown (hides : ℕ → Bool) (roots t n : ℕ) (own : Priority) (log : List Event) (effects : List EffectView) (exit : ExitView) : Type 0 where
  pub effects_are : EffectsShown hides roots t own effects (log ++ Apply (task t) n ∷ [])
  pub exit_is : ExitShown hides t (log_after roots t own (log ++ Apply (task t) n ∷ []) effects) exit
  -- and so does each child of a group, before the exit and after it
  pub children : ChildrenShown hides (log_after roots t own (log ++ Apply (task t) n ∷ []) effects)
  pub after_exit : (step : Step) → ChildrenShown hides (log_after roots t own (log ++ Apply (task t) n ∷ []) effects ++ exit_events t (log_after roots t own (log ++ Apply (task t) n ∷ []) effects) exit step)

-- where nothing is hidden
module _ (hides : ℕ → Bool) (none : (u : ℕ) → hides u ≡ false) where
  effect_none : (t : ℕ) (log : List Event) (e : EffectView) → EffectShown hides t log e
  effect_none t log (cancelling_task name) = none (named_task t name log).0
  effect_none t log _ = tt

  effects_none : (roots t : ℕ) (own : Priority) (es : List EffectView) (log : List Event) → EffectsShown hides roots t own es log
  effects_none roots t own [] log = tt
  effects_none roots t own (e ∷ es) log = (effect_none t log e, effects_none roots t own es (log ++ effect_events roots t own log e))

  exit_none : (t : ℕ) (log : List Event) (exit : ExitView) → ExitShown hides t log exit
  exit_none t log (waiting name) = none (named_task t name log).0
  exit_none t log _ = tt

  children_none : (us : List TaskId) → AllByRecursion (IsShown hides) us
  children_none [] = tt
  children_none (u ∷ us) = (none u.0, children_none us)

  pub all_shown : (roots t n : ℕ) (own : Priority) (log : List Event) (effects : List EffectView) (exit : ExitView) → TurnShown hides roots t n own log effects exit
  all_shown roots t n own log effects exit = record {
    effects_are = effects_none roots t own effects _;
    exit_is = exit_none t _ exit;
    children = λ o g. children_none _;
    after_exit = λ step o g. children_none _;
  }

module _ (sees : ℕ → Life → Life) (sight : IsSight sees) where
  module _ (a b : List Event) (same : AreSeen sees a b) where
    same_named : (t : ℕ) (name : TaskName) → named_task t name a ≡ named_task t name b
    same_named t (RootName r) = refl
    same_named t (Own k) = ap (λ (us : List TaskId). unwrap_or (slice_get us k) (task 0)) (seen_own sees sight a b same t)

    same_left_out : (t g : ℕ) (unless : Bool) → is_left_out t g unless a ≡ is_left_out t g unless b
    same_left_out t g unless = ap (λ (x : Bool). unless && x) (seen_cancelled_group sees sight a b same t g)

    same_cancel : (t : ℕ) (name : TaskName) → NameShown sight.hides t a name → cancel_events (named_task t name a) a ≡ cancel_events (named_task t name b) b
    same_cancel t name shown =
        ap (λ (o : Option Ending). if is_some o then [] else CancelTask (named_task t name a) ∷ []) (seen_ending sees sight a b same (named_task t name a).0 shown)
        ∙ ap (λ (u : TaskId). cancel_events u b) (same_named t name)

    same_effect : (roots t : ℕ) (own : Priority) (e : EffectView) → EffectShown sight.hides t a e → effect_events roots t own a e ≡ effect_events roots t own b e
    same_effect roots t own (spawning i p bindings) shown = ap (λ (n : ℕ). Free (task n) (task t) (unwrap_or p own) false ∷ []) (seen_tasks sees sight a b same roots)
    same_effect roots t own (detaching i p) shown = ap (λ (n : ℕ). Free (task n) (task t) p true ∷ []) (seen_tasks sees sight a b same roots)
    same_effect roots t own opening shown = ap (λ (n : ℕ). Open (task t) n ∷ []) (seen_opened sees sight a b same t)
    same_effect roots t own (adding g unless i p bindings) shown =
        ap₂ (λ (x : Bool) (n : ℕ). if x then Skip (task t) g ∷ [] else Child (task n) (task t) g (unwrap_or p Background) ∷ []) (same_left_out t g unless) (seen_tasks sees sight a b same roots)
    same_effect roots t own (cancelling_task name) shown = same_cancel t name shown
    same_effect roots t own (cancelling_group g) shown = refl

    same_job : (script : ScriptView) (t : ℕ) (e : EffectView) → effect_jobs script t a e ≡ effect_jobs script t b e
    same_job script t (spawning i p bindings) = ap (λ (n : ℕ). first_job script n i.method i.args bindings ∷ []) (seen_tasks sees sight a b same (root_count script))
    same_job script t (detaching i p) = ap (λ (n : ℕ). first_job script n i.method i.args [] ∷ []) (seen_tasks sees sight a b same (root_count script))
    same_job script t (adding g unless i p bindings) =
        ap₂ (λ (x : Bool) (n : ℕ). if x then [] else first_job script n i.method i.args bindings ∷ []) (same_left_out t g unless) (seen_tasks sees sight a b same (root_count script))
    same_job script t _ = refl

    -- exits

    same_exit : (t : ℕ) (exit : ExitView) (step : Step) → ExitShown sight.hides t a exit → AreInPlace (a ++ exit_events t a exit step) → AreInPlace (b ++ exit_events t b exit step) → exit_events t a exit step ≡ exit_events t b exit step
    same_exit t (waiting name) step shown new_a new_b =
        ap (λ (o : Option Ending). wait_events t (named_task t name a) o) (seen_ending sees sight a b same (named_task t name a).0 shown)
        ∙ ap (λ (u : TaskId). wait_events t u (life_of u.0 b).ending) (same_named t name)
    same_exit t (asking_next g) step shown new_a new_b = ap (next_events t g) (seen_next sees sight a b same t g new_a new_b)
    same_exit t _ step shown new_a new_b = refl

    same_resume : (t : ℕ) (exit : ExitView) (step : Step) → ExitShown sight.hides t a exit → ChildrenShown sight.hides a → AreInPlace (a ++ exit_events t a exit step) → AreInPlace (b ++ exit_events t b exit step) → exit_resume t a exit step ≡ exit_resume t b exit step
    same_resume t (waiting name) step shown children new_a new_b =
        ap (λ (o : Option Ending). wait_resume o) (seen_ending sees sight a b same (named_task t name a).0 shown)
        ∙ ap (λ (u : TaskId). wait_resume (life_of u.0 b).ending) (same_named t name)
    same_resume t (asking_next g) step shown children new_a new_b = ap next_resume (seen_next sees sight a b same t g new_a new_b)
    same_resume t (closing g f) step shown children new_a new_b = ap close_resume (seen_close sees sight a b same t g children)
    same_resume t _ step shown children new_a new_b = refl

    -- what follows

    same_owner : (o g : ℕ) (e : Ending) (s : Option JobStage) (f : AfterTurn) → ChildrenShown sight.hides a → wake_owner o g e s a f ≡ wake_owner o g e s b f
    same_owner o g e (Some (Closes closed)) f children = ap (λ (x : Closing). if closed == g then wake_closing o x f else f) (seen_close sees sight a b same o g children)
    same_owner o g e _ f children = refl

    same_wake : (p : Option (ℕ × ℕ)) (e : Ending) (f : AfterTurn) → ChildrenShown sight.hides a → wake_parent p e a f ≡ wake_parent p e b f
    same_wake None e f children = refl
    same_wake (Some x) e f children =
        owner_stage x.0 x.1 e (life_of x.0 a).stage a f ∙ ap (λ (s : Option JobStage). wake_owner x.0 x.1 e s a f) (seen_waits sees sight a b same x.0)
        ∙ sym (owner_stage x.0 x.1 e (life_of x.0 b).stage a f) ∙ same_owner x.0 x.1 e (life_of x.0 b).stage f children

    same_all : (t : ℕ) (e : Ending) (f : AfterTurn) → ChildrenShown sight.hides a → wake_all t e a f ≡ wake_all t e b f
    same_all t e f children =
        ap₂ (λ (p : Option (ℕ × ℕ)) (us : List TaskId). wake_parent p e a (wake_each us (resume_of e) f)) (seen_parent sees sight a b same t) (seen_waiters sees sight a b same t)
        ∙ same_wake (parent_of t b) e (wake_each (waiters_of t b) (resume_of e) f) children

    same_followed : (t n : ℕ) (frames : TaskView) (r : Option Resume) (step : Step) (f : AfterTurn) → ChildrenShown sight.hides a → followed t n frames r step a f ≡ followed t n frames r step b f
    same_followed t n frames None (Ended e) f children = same_all t e f children
    same_followed t n frames _ _ f children = refl

  -- effects, in order

  same_made : (script : ScriptView) (t : ℕ) (own : Priority) (es : List EffectView) (a b : List Event) → AreSeen sees a b → EffectsShown sight.hides (root_count script) t own es a → jobs_made script t own a es ≡ jobs_made script t own b es
  same_made script t own [] a b same shown = refl
  same_made script t own (e ∷ es) a b same shown =
      ap₂ (λ (xs ys : List JobFacts). xs ++ ys) (same_job a b same script t e)
      (same_made script t own es (a ++ effect_events (root_count script) t own a e) (b ++ effect_events (root_count script) t own b e) (seen_on sees sight a b _ _ same (same_effect a b same (root_count script) t own e shown.0)) shown.1)

  -- both
  pub record AreJoint (first other a b : List Event) : Type 0 where
    pub near : AreSeen sees a b
    pub gone : HaveGoneOn first other a b

  pub joint_first : (a b : List Event) → AreSeen sees a b → AreJoint a b a b
  joint_first a b near = record { near = near; gone = λ u. inr (refl, refl) }

  pub joint_on : (first other a b es fs : List Event) → AreJoint first other a b → es ≡ fs → AreJoint first other (a ++ es) (b ++ fs)
  joint_on first other a b es fs both is = record {
    near = seen_on sees sight a b es fs both.near is;
    gone = subst (λ (xs : List Event). HaveGoneOn first other (a ++ es) (b ++ xs)) is (gone_all es first other a b both.gone);
  }

  joint_after : (roots t : ℕ) (own : Priority) (es : List EffectView) (first other a b : List Event) → AreJoint first other a b → EffectsShown sight.hides roots t own es a → AreJoint first other (log_after roots t own a es) (log_after roots t own b es)
  joint_after roots t own [] first other a b both shown = both
  joint_after roots t own (e ∷ es) first other a b both shown =
      joint_after roots t own es first other (a ++ effect_events roots t own a e) (b ++ effect_events roots t own b e) (joint_on first other a b _ _ both (same_effect a b both.near roots t own e shown.0)) shown.1

  -- the whole end of a turn: the same jobs, the same tasks wait, and the logs have gone on by the same events
  pub record EndSeen (a b : List Event) (x y : TurnEnd) : Type 0 where
    pub joint : AreJoint a b x.log y.log
    pub held : x.held ≡ y.held
    pub jobs : x.jobs ≡ y.jobs

  one_end : (a b : List Event) → AreSeen sees a b → (script : ScriptView) (held : List (Option WaitingTaskView)) (t n : ℕ) (own : Priority) (effects : List EffectView) (exit : ExitView) (adv : Advanced)
      → TurnShown sight.hides (root_count script) t n own a effects exit → AreInPlace (turn_end script a held t n own effects exit adv).log → AreInPlace (turn_end script b held t n own effects exit adv).log
      → EndSeen a b (turn_end script a held t n own effects exit adv) (turn_end script b held t n own effects exit adv)
  one_end a b same script held t n own effects exit adv shown new_a new_b =
      let roots : ℕ = root_count script in
      let first_a : List Event = a ++ Apply (task t) n ∷ [] in
      let first_b : List Event = b ++ Apply (task t) n ∷ [] in
      let first : AreJoint a b first_a first_b = joint_on a b a b _ _ (joint_first a b same) refl in
      let done_a : List Event = log_after roots t own first_a effects in
      let done_b : List Event = log_after roots t own first_b effects in
      let done : AreJoint a b done_a done_b = joint_after roots t own effects a b first_a first_b first shown.effects_are in
      let end_a : List Event = done_a ++ exit_events t done_a exit adv.step in
      let end_b : List Event = done_b ++ exit_events t done_b exit adv.step in
      let new_end_a : AreInPlace end_a = new_prefix end_a _ new_a in
      let new_end_b : AreInPlace end_b = new_prefix end_b _ new_b in
      let ended : AreJoint a b end_a end_b = joint_on a b done_a done_b _ _ done (same_exit done_a done_b done.near t exit adv.step shown.exit_is new_end_a new_end_b) in
      let made : jobs_made script t own first_a effects ≡ jobs_made script t own first_b effects = same_made script t own effects first_a first_b first.near shown.effects_are in
      let resume = same_resume done_a done_b done.near t exit adv.step shown.exit_is shown.children new_end_a new_end_b in
      let start : List JobFacts → AfterTurn = λ js. record { held = held ++ replicate (length js) None; jobs = js } in
      let f_a : AfterTurn = followed t (n + 1) adv.task (exit_resume t done_a exit adv.step) adv.step end_a (start (jobs_made script t own first_a effects)) in
      let f_b : AfterTurn = followed t (n + 1) adv.task (exit_resume t done_b exit adv.step) adv.step end_b (start (jobs_made script t own first_b effects)) in
      let f : f_a ≡ f_b =
      ap₂ (λ (r : Option Resume) (js : List JobFacts). followed t (n + 1) adv.task r adv.step end_a (start js)) resume made
      ∙ same_followed end_a end_b ended.near t (n + 1) adv.task (exit_resume t done_b exit adv.step) adv.step (start (jobs_made script t own first_b effects)) (shown.after_exit adv.step) in
      record {
        joint = joint_on a b end_a end_b (gives f_a.jobs) (gives f_b.jobs) ended (ap (λ (x : AfterTurn). gives x.jobs) f);
        held = ap (λ (x : AfterTurn). x.held) f;
        jobs = ap (λ (x : AfterTurn). x.jobs) f;
      }

  pub seen_end : (a b : List Event) → AreSeen sees a b → (script : ScriptView) (held : List (Option WaitingTaskView)) (t n : ℕ) (own other : Priority) (effects : List EffectView) (exit : ExitView) (adv : Advanced)
      → (own ≡ other) ⊎ AllByRecursion TakesNone effects → TurnShown sight.hides (root_count script) t n own a effects exit → AreInPlace (turn_end script a held t n own effects exit adv).log → AreInPlace (turn_end script b held t n other effects exit adv).log
      → EndSeen a b (turn_end script a held t n own effects exit adv) (turn_end script b held t n other effects exit adv)
  seen_end a b same script held t n own other effects exit adv free shown new_a new_b =
      let is = own_end script b held t n own other effects exit adv free in
      subst (EndSeen a b (turn_end script a held t n own effects exit adv)) is
      (one_end a b same script held t n own effects exit adv shown new_a (subst (λ (e : TurnEnd). AreInPlace e.log) (sym is) new_b))
