-- A task that is held is taken, seen as callers see it.
use Rattle.swift_tasks.proofs.Prelude.{◌≡◌, ℕ, zero, suc, ◌<◌, List, [], ◌∷◌, ◌++◌, length, get_or, refl, sym, ◌∙◌, ap, take, drop, arith, Option, Some, None, is_some, unwrap_or, map, slice_index_or, slice_set, slice_get, AllByRecursion, false≢true, map-append, TaskId, Resume, JobView, BodyView, JobFacts, WaitingTaskView, AfterTurn, resume_at, woken, wake, wake_each, WaitingTask, follows_of, held_view, held_views, job_facts}

view_at : (held : List (Option WaitingTask)) (u : ℕ) → slice_index_or (held_views held) u None ≡ held_view (slice_index_or held u None)
view_at [] u = refl
view_at (h ∷ hs) zero = refl
view_at (h ∷ hs) (suc u) = view_at hs u

pub view_set : (held : List (Option WaitingTask)) (u : ℕ) (o : Option WaitingTask) → held_views (slice_set held u o) ≡ slice_set (held_views held) u (held_view o)
view_set [] u o = refl
view_set (h ∷ hs) zero o = refl
view_set (h ∷ hs) (suc u) o = ap (λ (vs : List (Option WaitingTaskView)). held_view h ∷ vs) (view_set hs u o)

any_default : {A : Type 0} (xs : List A) (u : ℕ) (d e : A) → u < length xs → get_or xs u d ≡ get_or xs u e
any_default [] u d e lt = absurd (omega (arith, lt))
any_default (x ∷ xs) zero d e lt = refl
any_default (x ∷ xs) (suc u) d e lt = any_default xs u d e (omega (arith, lt))

abbrev pub made_follows : List (Option WaitingTaskView) → List JobFacts → AfterTurn
made_follows held jobs = record { held = held; jobs = jobs }

abbrev pub job_at : ℕ → ℕ → Resume → BodyView → JobFacts
job_at u n resume body = record { task = u; number = n; resume = resume; frames = body.task }

-- it goes on
pub wake_taken : (held held' : List (Option WaitingTask)) (u : ℕ) (h : WaitingTask) (resume : Resume) (jobs jobs' : List (JobView BodyView)) (j : JobView BodyView) (d : Option WaitingTask)
    → u < length held → slice_index_or held u d ≡ Some h → held' ≡ slice_set held u None → jobs' ≡ jobs ++ j ∷ [] → job_facts j ≡ job_at u h.number (resume_at h.number resume) h.body
    → follows_of held' jobs' ≡ wake u resume (follows_of held jobs)
wake_taken held held' u h resume jobs jobs' j d lt is taken more view =
    let other : wake u resume (follows_of held jobs) ≡ made_follows (slice_set (held_views held) u None) (map job_facts jobs ++ job_at u h.number (resume_at h.number resume) h.body ∷ []) =
    ap (woken u resume (follows_of held jobs)) (view_at held u ∙ ap held_view (any_default held u None d lt ∙ is)) in
    let left : held_views held' ≡ slice_set (held_views held) u None = ap held_views taken ∙ view_set held u None in
    let right : map job_facts jobs' ≡ map job_facts jobs ++ job_at u h.number (resume_at h.number resume) h.body ∷ [] =
    ap (map job_facts) more ∙ map-append job_facts jobs (j ∷ []) ∙ ap (λ (v : JobFacts). map job_facts jobs ++ v ∷ []) view in
    ap (λ (hs : List (Option WaitingTaskView)). made_follows hs (map job_facts jobs')) left ∙ ap (made_follows (slice_set (held_views held) u None)) right ∙ sym other

-- a task that is not held does not
pub wake_none : (held held' : List (Option WaitingTask)) (u : ℕ) (resume : Resume) (jobs : List (JobView BodyView)) → slice_index_or held u None ≡ None → held' ≡ held → follows_of held' jobs ≡ wake u resume (follows_of held jobs)
wake_none held held' u resume jobs is same =
    ap (λ (hs : List (Option WaitingTask)). follows_of hs jobs) same ∙ sym (ap (woken u resume (follows_of held jobs)) (view_at held u ∙ ap held_view is))

-- the waiters that are left
pub wake_next : (us : List TaskId) (k : ℕ) (u : TaskId) (resume : Resume) (f : AfterTurn) → slice_get us k ≡ Some u → wake_each (drop k us) resume f ≡ wake_each (drop (suc k) us) resume (wake u.0 resume f)
wake_next [] k u resume f is = absurd (no_none {o = slice_get [] k} refl is)
  where
    no_none : {A : Type 0} {x : A} {o : Option A} → o ≡ None → o ≡ Some x → ⊥
    no_none n e = false≢true (sym (ap is_some n) ∙ ap is_some e)
wake_next (v ∷ us) zero u resume f is = ap (λ (o : Option TaskId). wake_each us resume (wake (unwrap_or o v).0 resume f)) is
wake_next (v ∷ us) (suc k) u resume f is = wake_next us k u resume f is

pub got_in : {A : Type 0} (us : List A) (k : ℕ) (u : A) → slice_get us k ≡ Some u → k < length us
got_in [] k u is = absurd (false≢true (ap is_some is))
got_in (v ∷ us) zero u is = omega arith
got_in (v ∷ us) (suc k) u is = let lt = got_in us k u is in omega (arith, lt)

pub got_none : {A : Type 0} (us : List A) (k : ℕ) → slice_get us k ≡ None → drop k us ≡ []
got_none [] zero is = refl
got_none [] (suc k) is = refl
got_none (v ∷ us) zero is = absurd (false≢true (sym (ap is_some is)))
got_none (v ∷ us) (suc k) is = got_none us k is

pub all-set : {A : Type 0} (P : A → Type 0) (xs : List A) (t : ℕ) (y : A) → AllByRecursion P xs → P y → AllByRecursion P (slice_set xs t y)
all-set P [] t y all this = tt
all-set P (x ∷ xs) zero y all this = (this, all.1)
all-set P (x ∷ xs) (suc t) y all this = (all.0, all-set P xs t y all.1 this)

-- a task waits
pub held_follows : (held held' : List (Option WaitingTask)) (t : ℕ) (h : WaitingTask) (jobs : List (JobView BodyView)) → held' ≡ slice_set held t (Some h)
    → follows_of held' jobs ≡ made_follows (slice_set (held_views held) t (Some (record { number = h.number; frames = h.body.task }))) (map job_facts jobs)
held_follows held held' t h jobs is = ap (λ (hs : List (Option WaitingTaskView)). made_follows hs (map job_facts jobs)) (ap held_views is ∙ view_set held t (Some h))

pub all-take : {A : Type 0} (P : A → Type 0) (n : ℕ) (xs : List A) → AllByRecursion P xs → AllByRecursion P (take n xs)
all-take P zero [] all = tt
all-take P zero (x ∷ xs) all = tt
all-take P (suc n) [] all = tt
all-take P (suc n) (x ∷ xs) all = (all.0, all-take P n xs all.1)

pub all-drop : {A : Type 0} (P : A → Type 0) (n : ℕ) (xs : List A) → AllByRecursion P xs → AllByRecursion P (drop n xs)
all-drop P zero [] all = tt
all-drop P zero (x ∷ xs) all = all
all-drop P (suc n) [] all = tt
all-drop P (suc n) (x ∷ xs) all = all-drop P n xs all.1
