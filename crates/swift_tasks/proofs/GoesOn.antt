-- A turn that has made nothing, and whose task goes on.
use Rattle.swift_tasks.proofs.Prelude.{◌≡◌, ℕ, ◌+◌, List, [], ◌∷◌, ◌++◌, refl, sym, ◌∙◌, ap, subst, arith, Bool, true, false, ℤ, Option, ◌==◌, length, map, nat_lt, if◌then◌else◌, eqb-true, false≢true, append-nil, map-append, TaskId, Resume, Go, Start, Depth, FRAMES, Priority, ScriptView, root_count, method_actor, Effect, FrameView, effect_views, InvocationView, EffectView, ExitView, calling, waiting, asking_next, closing, yielding, returning, failing, JobView, Step, Run, Ended, Await, BodyView, TaskView, Advanced, HasFrames, IsRunning, GoesOn, AdvancesTo, CanAdvance, advanced, runs, Event, Apply, Give, life_of, counters, fits_turn, begun_priority, JobFacts, WaitingTaskView, TurnEnd, turn_end, resume_at, task, WaitingTask, CanApply, CanLeave, StepFits, TurnLeaves, next_of, went_on, BookInvariant, held_views, BookView, HoldsWaiting, IsEndOf, end_of_turn, job_facts, UnopenedAreNotClosed}
use Rattle.swift_types.specs.declared.id.ActorId.{ActorId}
use Rattle.swift_types.specs.declared.outcome.Resume.TheVariants.{Fault as Raise}
use Rattle.swift_turn.specs.Body.{opening}
use Rattle.swift_tasks.proofs.TurnApplied.{holds_viewed, job_fits}
use Rattle.swift_tasks.proofs.TurnEndKept.{end_kept}
use Rattle.swift_tasks.proofs.Fitting.{advances}
use Rattle.swift_tasks.proofs.TurnTaken.{end_is, leaves_of, step_fits, taken_fits}

abbrev awaits : Step → Bool
awaits Await = true
awaits (Run actor resume) = false
awaits (Ended e) = false

no_await : (actor : ActorId) (next : Resume) → Run actor next ≡ Await → ⊥
no_await actor next is = false≢true (ap awaits is)

abbrev pub next_view : ℕ → ℕ → Resume → TaskView → JobFacts
next_view t n next frames = record { task = t; number = n + 1; resume = resume_at (n + 1) next; frames = frames }

abbrev end_with : List Event → List (Option WaitingTaskView) → List JobFacts → TurnEnd
end_with log held jobs = record { log = log; held = held; jobs = jobs }

-- nothing stands between the two events
adds_none : (log : List Event) (held : List (Option WaitingTaskView)) (t n : ℕ) (next : Resume) (jobs : List JobFacts)
    → end_with (((log ++ Apply (task t) n ∷ []) ++ []) ++ Give (task t) (n + 1) (resume_at (n + 1) next) ∷ []) (held ++ []) jobs ≡ end_with (went_on log (task t) n next) held jobs
adds_none log held t n next jobs =
    ap (λ (l : List Event). end_with (l ++ Give (task t) (n + 1) (resume_at (n + 1) next) ∷ []) (held ++ []) jobs) (append-nil (log ++ Apply (task t) n ∷ []))
    ∙ ap (λ (h : List (Option WaitingTaskView)). end_with (went_on log (task t) n next) h jobs) (append-nil held)

-- what such a turn leaves
plain_end : (script : ScriptView) (log : List Event) (held : List (Option WaitingTaskView)) (t n : ℕ) (own : Priority) (exit : ExitView) (frames : TaskView) (actor : ActorId) (next : Resume) → StepFits exit (Run actor next)
    → turn_end script log held t n own [] exit (record { task = frames; step = Run actor next }) ≡ end_with (went_on log (task t) n next) held (next_view t n next frames ∷ [])
plain_end script log held t n own (calling i) frames actor next fits = adds_none log held t n next (next_view t n next frames ∷ [])
plain_end script log held t n own (waiting name) frames actor next fits = absurd (no_await actor next fits)
plain_end script log held t n own (asking_next g) frames actor next fits = absurd (no_await actor next fits)
plain_end script log held t n own (closing g f) frames actor next fits = absurd (no_await actor next fits)
plain_end script log held t n own yielding frames actor next fits = adds_none log held t n next (next_view t n next frames ∷ [])
plain_end script log held t n own (returning v) frames actor next fits = adds_none log held t n next (next_view t n next frames ∷ [])
plain_end script log held t n own (failing f) frames actor next fits = adds_none log held t n next (next_view t n next frames ∷ [])

names_none : (t : ℕ) (log : List Event) (exit : ExitView) (actor : ActorId) (next : Resume) → StepFits exit (Run actor next) → CanLeave t log exit
names_none t log (calling i) actor next fits = tt
names_none t log (waiting name) actor next fits = absurd (no_await actor next fits)
names_none t log (asking_next g) actor next fits = absurd (no_await actor next fits)
names_none t log (closing g f) actor next fits = absurd (no_await actor next fits)
names_none t log yielding actor next fits = tt
names_none t log (returning v) actor next fits = tt
names_none t log (failing f) actor next fits = tt

-- it keeps what a book has to
plain_kept : (script : ScriptView) (log : List Event) (held : List (Option WaitingTaskView)) (t n : ℕ) (exit : ExitView) (body : BodyView) (actor : ActorId) (next : Resume) → TurnLeaves script (root_count script) log held t [] [] exit body (Run actor next)
    → HoldsWaiting (root_count script) (went_on log (task t) n next) held × UnopenedAreNotClosed (went_on log (task t) n next)
plain_kept script log held t n exit body actor next turn =
    let kept = end_kept script log held t n [] [] exit body (Run actor next) turn (names_none t (log ++ Apply (task t) n ∷ []) exit actor next turn.fitting) in
    let is = plain_end script log held t n (begun_priority (life_of t log).stage) exit body.task actor next turn.fitting in
    (subst (λ (e : TurnEnd). HoldsWaiting (root_count script) e.log e.held) is kept.holds, subst (λ (e : TurnEnd). UnopenedAreNotClosed e.log) is kept.closed)

-- by which body, and with what, the task of a job goes on after an exit
pub record Next (job : JobView BodyView) (exit : ExitView) (body : BodyView) (next : Resume) : Type 0 where
  pub actor : ActorId
  pub advances : AdvancesTo job.body.script job.body.task.frames job.body.task.outer exit (record { task = body.task; step = Run actor next })
  pub runs : IsRunning body
  pub same : body.script ≡ job.body.script

yields : (script : ScriptView) (frames : List FrameView) (outer : List (ℕ × ℤ)) → HasFrames frames → (actor : ActorId) × AdvancesTo script frames outer yielding (record { task = record { frames = frames; outer = outer }; step = Run actor Go })
yields script [] outer there = absurd there
yields script (p ∷ callers) outer there = (record { 0 = method_actor script p.method }, refl)

-- a task that gives way goes on as it was
pub goes_again : (job : JobView BodyView) → IsRunning job.body → Next job yielding job.body Go
goes_again job runs =
    let way = yields job.body.script job.body.task.frames job.body.task.outer runs in
    record { actor = way.0; advances = way.1; runs = runs; same = refl }

-- such a turn ends so
pub plain_ends : (b : BookView) (jobs jobs' : List JobFacts) (job : JobView BodyView) (exit : ExitView) (body : BodyView) (next : Resume) (log : List Event) (held : List (Option WaitingTaskView)) → CanApply b [] exit job → Next job exit body next
    → log ≡ went_on b.log job.task job.number next → held ≡ b.held → jobs' ≡ jobs ++ next_view job.task.0 job.number next body.task ∷ [] → IsEndOf b jobs job [] exit log held jobs'
plain_ends b jobs jobs' job exit body next log held can on ls hs js =
    let after : Advanced = record { task = body.task; step = Run on.actor next } in
    let fits = step_fits job.body.script job.body.task.frames job.body.task.outer exit after can.running on.advances in
    let is : end_of_turn b job [] exit ≡ end_with (went_on b.log job.task job.number next) b.held (next_view job.task.0 job.number next body.task ∷ []) =
    sym (end_is b job [] exit job.body.script job.body.task.frames after can.running can.same on.advances)
    ∙ plain_end b.script b.log b.held job.task.0 job.number (begun_priority (life_of job.task.0 b.log).stage) exit body.task on.actor next fits in
    record {
      log_is = ls ∙ sym (ap (λ (e : TurnEnd). e.log) is);
      held_is = hs ∙ sym (ap (λ (e : TurnEnd). e.held) is);
      jobs_are = js ∙ sym (ap (λ (e : TurnEnd). jobs ++ e.jobs) is);
    }

-- and the book keeps what it has to
pub plain_book : (b : BookView) (script : ScriptView) (roots roots' : ℕ) (log log' : List Event) (held : List (Option WaitingTask)) (job : JobView BodyView) (exit : ExitView) (body : BodyView) (next : Resume) → script ≡ b.script → log ≡ b.log → BookInvariant script roots log held
    → CanApply b [] exit job → Next job exit body next → roots' ≡ roots → log' ≡ went_on log job.task job.number next → BookInvariant script roots' log' held
plain_book b script roots roots' log log' held job exit body next ss ls inv can on rs gs =
    let fits = job_fits b script roots roots log log held held job [] [] [] exit ss ls inv can.fits can.known can.running can.same tt refl refl refl refl in
    let leaves = leaves_of script roots log (held_views held) job [] [] exit body (Run on.actor next) fits on.advances (λ _. on.runs) on.same in
    let whole = subst (λ (r : ℕ). TurnLeaves script r log (held_views held) job.task.0 [] [] exit body (Run on.actor next)) inv.roots_are leaves in
    let kept = plain_kept script log (held_views held) job.task.0 job.number exit body on.actor next whole in
    record {
      roots_are = rs ∙ inv.roots_are;
      holds = subst (λ (r : ℕ). HoldsWaiting r log' held) (sym (rs ∙ inv.roots_are)) (holds_viewed held (subst (λ (l : List Event). HoldsWaiting (root_count script) l (held_views held)) (sym gs) kept.0));
      bodies = inv.bodies;
      closed = subst UnopenedAreNotClosed (sym gs) kept.1;
    }

called_next : (script : ScriptView) (p : FrameView) (callers : List FrameView) (outer : List (ℕ × ℤ)) (i : InvocationView) (b : Bool)
    → (actor : ActorId) × (next : Resume) × ((if b then runs script (opening script i.method i.args p.made p.opened) (p ∷ callers) (p.own ++ outer) Start else runs script p callers outer (Raise Depth)).step ≡ Run actor next)
called_next script p callers outer i true = (record { 0 = method_actor script i.method }, Start, refl)
called_next script p callers outer i false = (record { 0 = method_actor script p.method }, Raise Depth, refl)

-- after a call the task goes on
pub call_runs : (script : ScriptView) (frames : List FrameView) (outer : List (ℕ × ℤ)) (exit : ExitView) (i : InvocationView) (after : Advanced) → HasFrames frames → exit ≡ calling i → AdvancesTo script frames outer exit after → (actor : ActorId) × (next : Resume) × (after.step ≡ Run actor next)
call_runs script [] outer exit i after there is adv = absurd there
call_runs script (p ∷ callers) outer exit i after there is adv =
    let way = called_next script p callers outer i (nat_lt (length (p ∷ callers)) FRAMES) in
    (way.0, way.1, ap (λ (a : Advanced). a.step) (adv ∙ ap (advanced script p callers outer) is) ∙ way.2)

-- a job, taken apart
abbrev pub Parts : Type 0
Parts = TaskId × ℕ × Resume × BodyView

-- the job of the next turn stands behind the others
pub more_views : (jobs jobs' : List (JobView BodyView)) (job : JobView BodyView) (next : Resume) (body : BodyView) → jobs' ≡ jobs ++ next_of job.task job.number next body ∷ []
    → map job_facts jobs' ≡ map job_facts jobs ++ next_view job.task.0 job.number next body.task ∷ []
more_views jobs jobs' job next body is = ap (map job_facts) is ∙ map-append job_facts jobs (next_of job.task job.number next body ∷ [])

-- the exit of such a turn can be followed
pub can_follow : (b : BookView) (job : JobView BodyView) (exit : ExitView) → CanApply b [] exit job → CanAdvance job.body.script exit
can_follow b job exit can =
    let fits = taken_fits b.script b.log job [] exit can.fits in
    subst (λ (s : ScriptView). CanAdvance s exit) (sym can.same) (advances b.script job.task.0 b.log (counters job.task.0 b.log fits.env.room) [] exit fits.fits)

-- what fits without effects needs no bodies
plain_leaves : (script : ScriptView) (roots : ℕ) (log : List Event) (held : List (Option WaitingTaskView)) (t : ℕ) (es : List EffectView) (bodies : List (Option BodyView)) (exit : ExitView) (body : BodyView) (step : Step) (actor : ActorId) (next : Resume)
    → es ≡ [] → step ≡ Run actor next → TurnLeaves script roots log held t es bodies exit body step → TurnLeaves script roots log held t [] [] exit body (Run actor next)
plain_leaves script roots log held t es bodies exit body step actor next none is leaves = record {
  turn = record {
    env = leaves.turn.env;
    begun = leaves.turn.begun;
    alive = leaves.turn.alive;
    fits = subst (λ (vs : List EffectView). fits_turn script t log (counters t log leaves.turn.env.room) vs exit ≡ true) none leaves.turn.fits;
    started = tt;
    roots_are = leaves.turn.roots_are;
  };
  known = leaves.known;
  holds = leaves.holds;
  closed = leaves.closed;
  fitting = subst (StepFits exit) is leaves.fitting;
  running = λ goes. leaves.running (subst GoesOn (sym is) goes);
  same = leaves.same;
}

-- what holds after a turn that has made nothing, and whose task goes on
pub goes_kept : (script : ScriptView) (roots : ℕ) (log log' : List Event) (held : List (Option WaitingTaskView)) (t n : ℕ) (es : List EffectView) (bodies : List (Option BodyView)) (exit : ExitView) (body : BodyView) (step : Step) (actor : ActorId) (next : Resume)
    → es ≡ [] → step ≡ Run actor next → TurnLeaves script roots log held t es bodies exit body step → log' ≡ went_on log (task t) n next → HoldsWaiting roots log' held × UnopenedAreNotClosed log'
goes_kept script roots log log' held t n es bodies exit body step actor next none is leaves ls =
    let plain = plain_leaves script roots log held t es bodies exit body step actor next none is leaves in
    let roots_are = leaves.turn.roots_are in
    let kept = plain_kept script log held t n exit body actor next (subst (λ (r : ℕ). TurnLeaves script r log held t [] [] exit body (Run actor next)) roots_are plain) in
    subst (λ (l : List Event). HoldsWaiting roots l held × UnopenedAreNotClosed l) (sym ls) (subst (λ (r : ℕ). HoldsWaiting r (went_on log (task t) n next) held) (sym roots_are) kept.0, kept.1)

-- an empty list has no effects
pub no_effects : (es : List Effect) (b : Bool) → b ≡ (length es == 0) → b ≡ true → effect_views es ≡ []
no_effects [] b is truth = refl
no_effects (e ∷ es) b is truth =
    let none = eqb-true (length (e ∷ es)) 0 (sym is ∙ truth) in
    absurd (omega (arith, none))
