-- Where a silent turn leads: only the job of its own task changes, or that task has ended.
use Rattle.swift_reordering.proofs.Prelude.{◌≡◌, ◌≢◌, ℕ, ℤ, ◌+◌, List, [], ◌∷◌, ◌++◌, length, refl, sym, ◌∙◌, ap, ap₂, subst, Bool, true, false, append-nil, Option, Some, None, ◌==◌, ◌||◌, nat_lt, if◌then◌else◌, cons_option, eq-eqb, eqb-true, ne_eqb, false≢true, Env, TaskId, Ending, FRAMES, Depth, Resume, Start, Go, Value, Priority, ScriptView, executor_invariants, FrameView, InvocationView, EffectView, ExitView, calling, yielding, returning, failing, Played, all_hold, TaskView, Advanced, advanced, called, invariants_at, RecordView, turn_of, replay, CheckpointView, Event, Begin, Apply, End, Give, Life, JobStage, Given, Begun, Applied, life_of, parent_of, waiters_of, life_of-push_same, parent_of-push, waiters_of-push_none, JobFacts, WaitingTaskView, AfterTurn, TurnEnd, task, gives, resume_at, resume_of, wake_all, wake_each, wake_parent, turn_end, Block, begun, ran, Standing, at_first, after_block, after_blocks, with_jobs, taken, begun_priority, left_as, fields_of, after_push, applied_is, digest_of, parent_of_is, waiters_of_is, fields_push, stage_at, IsSilentTurn, goes_on_alone, IsApart, ends_task, job_looks_away, turn_looks_away}
use Rattle.swift_types.specs.declared.outcome.Ending.TheVariants as ending
use Rattle.swift_types.specs.declared.outcome.Resume.TheVariants.{Fault as Raise}
use Rattle.swift_reordering.proofs.Apart.{Apart, LeavesApart, apart_push}
use Rattle.swift_reordering.proofs.Sights.{waited, AreSeen, seen_cancelled}
use Rattle.swift_reordering.proofs.Beside.{IsOfJob, besides, besides_sight, seen_local}
use Rattle.swift_reordering.proofs.SilentPlay.{SamePlay, silent_turn}

-- the end of a turn after which the task goes on alone, or has ended

-- how the task goes on: with these frames and this resume; or it has ended
pub data WayOut : Type 0 where
  goes : TaskView → Resume → WayOut
  over : Ending → WayOut

abbrev pub is_over : WayOut → Bool
is_over (goes v resume) = false
is_over (over x) = true

abbrev pub job_after : ℕ → ℕ → TaskView → Resume → JobFacts
job_after t n v resume = record { task = t; number = n + 1; resume = resume_at (n + 1) resume; frames = v }

-- the event that is written last
abbrev pub last_event : ℕ → ℕ → WayOut → Event
last_event t n (goes v resume) = Give (task t) (n + 1) (resume_at (n + 1) resume)
last_event t n (over x) = End (task t) x

-- the job that is made
abbrev pub last_job : ℕ → ℕ → WayOut → List JobFacts
last_job t n (goes v resume) = job_after t n v resume ∷ []
last_job t n (over x) = []

abbrev pub alone_end : List Event → List (Option WaitingTaskView) → ℕ → ℕ → WayOut → TurnEnd
alone_end log held t n way = record {
  log = (log ++ Apply (task t) n ∷ []) ++ last_event t n way ∷ [];
  held = held;
  jobs = last_job t n way;
}

-- nobody waits for a task that has ended
abbrev pub IsFree : WayOut → ℕ → List Event → Type 0
IsFree (goes v resume) t log = Unit {0}
IsFree (over x) t log = (waiters_of t log ≡ []) × (parent_of t log ≡ None)

-- what an exit comes to after which the task goes on alone, or has ended
pub record GoesOnAlone (script : ScriptView) (p : FrameView) (callers : List FrameView) (outer : List (ℕ × ℤ)) (exit : ExitView) : Type 0 where
  pub way : WayOut
  pub over_is : is_over way ≡ ends_task callers exit
  pub end_is : (log : List Event) (held : List (Option WaitingTaskView)) (t n : ℕ) (own : Priority) → IsFree way t log → turn_end script log held t n own [] exit (advanced script p callers outer exit) ≡ alone_end log held t n way

plain_end : (log : List Event) (held : List (Option WaitingTaskView)) (t n : ℕ) (v : TaskView) (resume : Resume)
    → ◌≡◌ {A = TurnEnd} (record { log = ((log ++ Apply (task t) n ∷ []) ++ []) ++ gives (job_after t n v resume ∷ []); held = held ++ []; jobs = job_after t n v resume ∷ [] }) (alone_end log held t n (goes v resume))
plain_end log held t n v resume = ap₂ (λ (l : List Event) (h : List (Option WaitingTaskView)). record { log = l ++ gives (job_after t n v resume ∷ []); held = h; jobs = job_after t n v resume ∷ [] })
    (append-nil (log ++ Apply (task t) n ∷ [])) (append-nil held)

-- the end of a task for which nobody waits wakes none
ended_end : (log : List Event) (held : List (Option WaitingTaskView)) (t n : ℕ) (x : Ending) → IsFree (over x) t log
    → (let written = (log ++ Apply (task t) n ∷ []) ++ End (task t) x ∷ [] in let f = wake_all t x written (record { held = held ++ []; jobs = [] }) in ◌≡◌ {A = TurnEnd} (record { log = written ++ gives f.jobs; held = f.held; jobs = f.jobs }) (alone_end log held t n (over x)))
ended_end log held t n x free =
    let written : List Event = (log ++ Apply (task t) n ∷ []) ++ End (task t) x ∷ [] in
    let none : waiters_of t written ≡ [] = waiters_of-push_none t (log ++ Apply (task t) n ∷ []) (End (task t) x) refl ∙ waiters_of-push_none t log (Apply (task t) n) refl ∙ free.0 in
    let nobody : parent_of t written ≡ None = parent_of-push t (log ++ Apply (task t) n ∷ []) (End (task t) x) refl ∙ parent_of-push t log (Apply (task t) n) refl ∙ free.1 in
    let first : AfterTurn = record { held = held ++ []; jobs = [] } in
    let same : wake_all t x written first ≡ first = ap₂ (λ (p : Option (ℕ × ℕ)) (us : List TaskId). wake_parent p x written (wake_each us (resume_of x) first)) nobody none in
    ap (λ (f : AfterTurn). record { log = written ++ gives f.jobs; held = f.held; jobs = f.jobs }) same
    ∙ ap₂ (λ (l : List Event) (h : List (Option WaitingTaskView)). record { log = l; held = h; jobs = [] }) (append-nil written) (append-nil held)

called_alone : (script : ScriptView) (p : FrameView) (callers : List FrameView) (outer : List (ℕ × ℤ)) (c : InvocationView) (b : Bool) → nat_lt (length (p ∷ callers)) FRAMES ≡ b → GoesOnAlone script p callers outer (calling c)
called_alone script p callers outer c true is = record {
  way = goes (called script p callers outer c).task Start;
  over_is = refl;
  end_is = λ log held t n own free. rw is (plain_end log held t n _ _);
}
called_alone script p callers outer c false is = record {
  way = goes (called script p callers outer c).task (Raise Depth);
  over_is = refl;
  end_is = λ log held t n own free. rw is (plain_end log held t n _ _);
}

pub goes_alone : (script : ScriptView) (p : FrameView) (callers : List FrameView) (outer : List (ℕ × ℤ)) (exit : ExitView) → (goes_on_alone callers exit || ends_task callers exit) ≡ true → GoesOnAlone script p callers outer exit
goes_alone script p callers outer (calling c) is = called_alone script p callers outer c (nat_lt (length (p ∷ callers)) FRAMES) refl
goes_alone script p callers outer yielding is = record { way = goes (record { frames = p ∷ callers; outer = outer }) Go; over_is = refl; end_is = λ log held t n own free. plain_end log held t n (record { frames = p ∷ callers; outer = outer }) Go }
goes_alone script p (q ∷ callers) outer (returning v) is = record { way = goes (advanced script p (q ∷ callers) outer (returning v)).task (Value v); over_is = refl; end_is = λ log held t n own free. plain_end log held t n _ _ }
goes_alone script p (q ∷ callers) outer (failing f) is = record { way = goes (advanced script p (q ∷ callers) outer (failing f)).task (Raise f); over_is = refl; end_is = λ log held t n own free. plain_end log held t n _ _ }
goes_alone script p [] outer (returning v) is = record { way = over (ending.Value v); over_is = refl; end_is = λ log held t n own free. ended_end log held t n (ending.Value v) free }
goes_alone script p [] outer (failing f) is = record { way = over (ending.Fault f); over_is = refl; end_is = λ log held t n own free. ended_end log held t n (ending.Fault f) free }
goes_alone script p callers outer _ is = absurd (false≢true is)

-- where one job is in place of another, or none is
pub record AfterAlone (s z : Standing) (t n : ℕ) (env : Env) (way : WayOut) : Type 0 where
  pub log : z.log ≡ ((s.log ++ Begin (task t) n env ∷ []) ++ Apply (task t) n ∷ []) ++ last_event t n way ∷ []
  pub held : z.held ≡ s.held
  pub jobs : z.jobs ≡ with_jobs (last_job t n way) (taken t s.jobs)

-- the life of the task after it
abbrev pub life_by : ℕ → WayOut → Life → Life
life_by n (goes v resume) l = record l { given = Some (record { number = n + 1; resume = resume_at (n + 1) resume }); stage = Some Given }
life_by n (over x) l = record l { stage = Some Applied; ending = Some x }

abbrev pub job_by : ℕ → ℕ → WayOut → Option JobFacts
job_by t n (goes v resume) = Some (job_after t n v resume)
job_by t n (over x) = None

module _ (s z : Standing) (t n : ℕ) (env : Env) (way : WayOut) (alone : AfterAlone s z t n env way) where
  abbrev one : List Event
  one = s.log ++ Begin (task t) n env ∷ []

  abbrev two : List Event
  two = one ++ Apply (task t) n ∷ []

  -- the log says nothing else
  pub alone_seen : waited (stage_at s.log t) ≡ None → (is_over way ≡ true → IsApart t (digest_of s.log)) → AreSeen (besides (is_over way) t) z.log s.log
  alone_seen none apart =
      let at_one : stage_at one t ≡ Some (Begun env) = ap (λ (l : Life). l.stage) (life_of-push_same t s.log (Begin (task t) n env) refl) in
      let at_two : stage_at two t ≡ Some Applied = ap (λ (l : Life). l.stage) (life_of-push_same t one (Apply (task t) n) refl) in
      let apart_one = λ (is : is_over way ≡ true). apart_push t s.log (Begin (task t) n env) tt (apart is) in
      let apart_two = λ (is : is_over way ≡ true). apart_push t one (Apply (task t) n) tt (apart_one is) in
      subst (λ (l : List Event). AreSeen (besides (is_over way) t) l s.log) (sym alone.log)
      (seen_local (is_over way) t two (last_event t n way) (last_of_job way) (ap waited at_two) apart_two
      ∙ seen_local (is_over way) t one (Apply (task t) n) refl (ap waited at_one) apart_one
      ∙ seen_local (is_over way) t s.log (Begin (task t) n env) refl none apart)
    where
      last_of_job : (w : WayOut) → IsOfJob (is_over w) t (last_event t n w)
      last_of_job (goes v resume) = refl
      last_of_job (over x) = (refl, refl)

  -- it leaves the task apart
  pub alone_apart : IsApart t (digest_of s.log) → IsApart t (digest_of z.log)
  alone_apart apart = subst (Apart t) (sym alone.log) (apart_push t two (last_event t n way) (last_leaves way) (apart_push t one (Apply (task t) n) tt (apart_push t s.log (Begin (task t) n env) tt apart))) where
    last_leaves : (w : WayOut) → LeavesApart t (last_event t n w)
    last_leaves (goes v resume) = tt
    last_leaves (over x) = tt

  -- the life of the task
  pub alone_life : life_of t z.log ≡ life_by n way (life_of t s.log)
  alone_life =
      ap (life_of t) alone.log ∙ by_way way
      ∙ ap (life_by n way) (life_of-push_same t one (Apply (task t) n) refl ∙ ap (λ (l : Life). record l { stage = Some Applied }) (life_of-push_same t s.log (Begin (task t) n env) refl))
      ∙ forgets way
    where
      by_way : (w : WayOut) → life_of t (two ++ last_event t n w ∷ []) ≡ life_by n w (life_of t two)
      by_way (goes v resume) = life_of-push_same t two (Give (task t) (n + 1) (resume_at (n + 1) resume)) refl
      by_way (over x) = life_of-push_same t two (End (task t) x) refl ∙ ap (λ (o : Option JobStage). record (life_of t two) { stage = o; ending = Some x }) (ap (λ (l : Life). l.stage) (life_of-push_same t one (Apply (task t) n) refl))

      forgets : (w : WayOut) → life_by n w (record (life_of t s.log) { stage = Some Applied }) ≡ life_by n w (life_of t s.log)
      forgets (goes v resume) = refl
      forgets (over x) = refl

  -- jobs of others
  pub alone_jobs : (u : ℕ) → u ≢ t → z.jobs u ≡ s.jobs u
  alone_jobs u ne = ap (λ (f : ℕ → Option JobFacts). f u) alone.jobs ∙ by_way way where
    by_way : (w : WayOut) → with_jobs (last_job t n w) (taken t s.jobs) u ≡ s.jobs u
    by_way (goes v resume) = ap (λ (b : Bool). if b then Some (job_after t n v resume) else (if b then None else s.jobs u)) (ne_eqb u t ne)
    by_way (over x) = ap (λ (b : Bool). if b then None else s.jobs u) (ne_eqb u t ne)

  pub alone_job : z.jobs t ≡ job_by t n way
  alone_job = ap (λ (f : ℕ → Option JobFacts). f t) alone.jobs ∙ by_way way where
    by_way : (w : WayOut) → with_jobs (last_job t n w) (taken t s.jobs) t ≡ job_by t n w
    by_way (goes v resume) = ap (λ (b : Bool). if b then Some (job_after t n v resume) else (if b then None else s.jobs t)) (eq-eqb t t refl)
    by_way (over x) = ap (λ (b : Bool). if b then None else s.jobs t) (eq-eqb t t refl)

module _ (script : ScriptView) (cps : List CheckpointView) where
  -- each invariant holds of the fields
  abbrev pub InvariantsHold : List Block → ℕ → Type 0
  InvariantsHold bs e = all_hold (executor_invariants script e) (fields_of script cps e bs) ≡ true

  module _ (before : List Block) (t n : ℕ) (env : Env) (e : ℕ) (r : RecordView) (silent : IsSilentTurn script cps before t n env e r) (hold : InvariantsHold before e) where
    abbrev s : Standing
    s = after_blocks script (at_first script) before

    abbrev mid : Standing
    mid = after_blocks script (at_first script) (before ++ begun t n env ∷ [])

    abbrev f : List (List ℤ)
    f = fields_of script cps e (before ++ begun t n env ∷ [])

    fields_mid : (k : ℕ) → fields_of script cps k (before ++ begun t n env ∷ []) ≡ fields_of script cps k before
    fields_mid k = fields_push script cps k before (begun t n env)

    hold_mid : all_hold (executor_invariants script e) f ≡ true
    hold_mid = ap (all_hold (executor_invariants script e)) (fields_mid e) ∙ hold

    hold_frame : (fields : List (List ℤ)) → all_hold (executor_invariants script e) fields ≡ true → all_hold (invariants_at script r.frame) fields ≡ true
    hold_frame fields is = ap (λ (k : ℕ). all_hold (executor_invariants script k) fields) silent.runs.stands.on ∙ is

    -- the turn on its own fields, and on others
    pub played : (g : List (List ℤ)) (other : Env) → all_hold (executor_invariants script e) g ≡ true
        → SamePlay r.outer r.env other f g r.env.room other.room (turn_of script f r) (turn_of script g (record r { env = other }))
    played g other holds = silent_turn script r.frame r.outer f g r.resume r.env other silent.quiet (hold_frame f hold_mid) (hold_frame g holds)

    pub no_effects : r.effects ≡ []
    no_effects = (let p = played f r.env hold_mid in silent.runs.lawful.effects ∙ ap (λ (k : Played). k.state.effects) p.one ∙ p.none)

    same_fields : (turn_of script f r).state.fields ≡ f
    same_fields = (let p = played f r.env hold_mid in ap (λ (k : Played). k.state.fields) p.one)

    abbrev frame_left : FrameView
    frame_left = left_as r.frame r.effects r.after

    abbrev pub on_alone : GoesOnAlone script (left_as r.frame r.effects r.after) silent.runs.stands.runs.0 silent.runs.job.frames.outer r.exit
    on_alone = goes_alone script (left_as r.frame r.effects r.after) silent.runs.stands.runs.0 silent.runs.job.frames.outer r.exit silent.alone

    to_mid : mid ≡ after_block script s (begun t n env)
    to_mid = after_push script (at_first script) before (begun t n env)

    abbrev after : List Block
    after = (before ++ begun t n env ∷ []) ++ ran e r ∷ []

    abbrev pub over_is : is_over on_alone.way ≡ ends_task silent.runs.stands.runs.0 r.exit
    over_is = on_alone.over_is

    -- where the task ends nobody has waited for it
    free : IsFree on_alone.way t mid.log
    free = by_way on_alone.way over_is where
      by_way : (w : WayOut) → is_over w ≡ ends_task silent.runs.stands.runs.0 r.exit → IsFree w t mid.log
      by_way (goes v resume) is = tt
      by_way (over x) is =
          let apart : IsApart t (digest_of mid.log) = subst (λ (a : Standing). IsApart t (digest_of a.log)) (sym to_mid) (apart_push t s.log (Begin (task t) n env) tt (silent.apart (sym is))) in
          (waiters_of_is t mid.log ∙ apart.waiters, parent_of_is t mid.log ∙ apart.parent)

    pub silent_after : AfterAlone s (after_blocks script (at_first script) after) t n env on_alone.way
    silent_after =
        let callers : List FrameView = silent.runs.stands.runs.0 in
        let adv : Advanced = advanced script (left_as r.frame r.effects r.after) callers silent.runs.job.frames.outer r.exit in
        let own : Priority = begun_priority (stage_at mid.log r.task) in
        let end_of : ℕ → ℕ → List EffectView → TurnEnd = λ u m es. turn_end script mid.log mid.held u m own es r.exit adv in
        let is = after_push script (at_first script) (before ++ begun t n env ∷ []) (ran e r)
        ∙ applied_is script mid r.task r.number silent.runs.job r.frame callers r.effects r.exit r.after silent.runs.stands.given silent.runs.stands.runs.1 in
        let end : end_of r.task r.number r.effects ≡ alone_end mid.log mid.held t n on_alone.way =
        ap₂ (λ (u m : ℕ). end_of u m r.effects) silent.own silent.number ∙ ap (end_of t n) no_effects ∙ on_alone.end_is mid.log mid.held t n own free in
        let jobs : (after_blocks script (at_first script) after).jobs ≡ with_jobs (last_job t n on_alone.way) (taken t mid.jobs) =
        ap (λ (a : Standing). a.jobs) is ∙ ap₂ (λ (js : List JobFacts) (u : ℕ). with_jobs js (taken u mid.jobs)) (ap (λ (y : TurnEnd). y.jobs) end) silent.own in
        record {
          log = ap (λ (a : Standing). a.log) is ∙ ap (λ (y : TurnEnd). y.log) end ∙ ap (λ (a : Standing). (a.log ++ Apply (task t) n ∷ []) ++ last_event t n on_alone.way ∷ []) to_mid;
          held = ap (λ (a : Standing). a.held) is ∙ ap (λ (y : TurnEnd). y.held) end ∙ ap (λ (a : Standing). a.held) to_mid;
          jobs = jobs ∙ ap (λ (a : Standing). with_jobs (last_job t n on_alone.way) (taken t a.jobs)) to_mid;
        }

    -- the task is apart where it ends
    pub over_apart : is_over on_alone.way ≡ true → IsApart t (digest_of s.log)
    over_apart is = silent.apart (sym over_is ∙ is)

    -- the fields stay
    fields_if : (b : Bool) (h : List (List ℤ)) → (b ≡ true → h ≡ f) → replay script h (cons_option (if b then Some r else None) []) ≡ h
    fields_if true h is = ap (λ (x : List (List ℤ)). (turn_of script x r).state.fields) (is refl) ∙ same_fields ∙ sym (is refl)
    fields_if false h is = refl

    pub silent_fields : (k : ℕ) → fields_of script cps k after ≡ fields_of script cps k before
    silent_fields k =
        fields_push script cps k (before ++ begun t n env ∷ []) (ran e r)
        ∙ fields_if (e == k) (fields_of script cps k (before ++ begun t n env ∷ [])) (λ same. ap (λ (x : ℕ). fields_of script cps x (before ++ begun t n env ∷ [])) (sym (eqb-true e k same)))
        ∙ fields_mid k

    -- it leaves how another task looks away
    pub silent_looks : (u : ℕ) → u ≢ t → turn_looks_away script (after_blocks script (at_first script) after) u ≡ turn_looks_away script s u
    silent_looks u ne =
        let z : Standing = after_blocks script (at_first script) after in
        let seen = alone_seen s z t n env on_alone.way silent_after (ap waited silent.given) over_apart in
        ap₂ (λ (b : Bool) (o : Option JobFacts). job_looks_away script b o)
        (seen_cancelled (besides (is_over on_alone.way) t) (besides_sight (is_over on_alone.way) t) z.log s.log seen u) (alone_jobs s z t n env on_alone.way silent_after u ne)
