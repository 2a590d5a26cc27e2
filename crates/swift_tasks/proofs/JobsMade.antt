-- The jobs of tasks that effects make.
use Rattle.swift_tasks.proofs.Prelude.{◌≡◌, ℕ, List, [], ◌∷◌, ◌++◌, sym, ◌∙◌, ap, subst, Bool, true, false, ℤ, Option, Some, map, if◌then◌else◌, AllByRecursion, map-append, Priority, Start, ScriptView, root_count, InvocationView, adding, JobView, BodyView, TaskView, HasFrames, Event, tasks_of, JobFacts, beginning, first_job, effect_jobs, is_left_out, add_jobs, first_of, IsStarted, IsJobOf, job_facts}
use Rattle.swift_tasks.proofs.HeldJobs.{all-append}

abbrev shown : ℕ → TaskView → JobFacts
shown t frames = record { task = t; number = 0; resume = Start; frames = frames }

-- the first job of a task that was started
pub started_job : (script : ScriptView) (m : ℕ) (args : List ℤ) (bindings : List (ℕ × ℤ)) (t n : ℕ) (body : BodyView) → body.task ≡ beginning script m args bindings → t ≡ n → job_facts (first_of t body) ≡ first_job script n m args bindings
started_job script m args bindings t n body is at = ap (shown t) is ∙ ap (λ (k : ℕ). shown k (beginning script m args bindings)) at

abbrev added_view : Bool → JobFacts → List JobFacts
added_view left_out v = if left_out then [] else v ∷ []

-- a child that is added, or left out
added : (b : Bool) (jobs jobs' : List (JobView BodyView)) (t : ℕ) (body : BodyView) (v : JobFacts) → job_facts (first_of t body) ≡ v → jobs' ≡ jobs ++ add_jobs b t body → map job_facts jobs' ≡ map job_facts jobs ++ added_view b v
added true jobs jobs' t body v is more = ap (map job_facts) more ∙ map-append job_facts jobs []
added false jobs jobs' t body v is more = ap (map job_facts) more ∙ map-append job_facts jobs (first_of t body ∷ []) ∙ ap (λ (x : JobFacts). map job_facts jobs ++ x ∷ []) is

-- the first job of a task that is spawned or detached
pub free_jobs : (script : ScriptView) (m : ℕ) (args : List ℤ) (bindings : List (ℕ × ℤ)) (roots : ℕ) (log : List Event) (body : BodyView) (jobs jobs' : List (JobView BodyView))
    → IsStarted script (Some (beginning script m args bindings)) (Some body) → root_count script ≡ roots
    → jobs' ≡ jobs ++ first_of (tasks_of roots log) body ∷ []
    → map job_facts jobs' ≡ map job_facts jobs ++ first_job script (tasks_of (root_count script) log) m args bindings ∷ []
free_jobs script m args bindings roots log body jobs jobs' started count more =
    added false jobs jobs' (tasks_of roots log) body (first_job script (tasks_of (root_count script) log) m args bindings)
    (started_job script m args bindings (tasks_of roots log) (tasks_of (root_count script) log) body started.1 (ap (λ (r : ℕ). tasks_of r log) (sym count))) more

pub added_jobs : (script : ScriptView) (g : ℕ) (unless : Bool) (i : InvocationView) (p : Option Priority) (bindings : List (ℕ × ℤ)) (t roots : ℕ) (log : List Event) (body : BodyView) (jobs jobs' : List (JobView BodyView))
    → IsStarted script (Some (beginning script i.method i.args bindings)) (Some body) → root_count script ≡ roots
    → jobs' ≡ jobs ++ add_jobs (is_left_out t g unless log) (tasks_of roots log) body
    → map job_facts jobs' ≡ map job_facts jobs ++ effect_jobs script t log (adding g unless i p bindings)
added_jobs script g unless i p bindings t roots log body jobs jobs' started count more =
    added (is_left_out t g unless log) jobs jobs' (tasks_of roots log) body (first_job script (tasks_of (root_count script) log) i.method i.args bindings)
    (started_job script i.method i.args bindings (tasks_of roots log) (tasks_of (root_count script) log) body started.1 (ap (λ (r : ℕ). tasks_of r log) (sym count))) more

-- a task that was started runs
pub started_fits : (script : ScriptView) (m : ℕ) (args : List ℤ) (bindings : List (ℕ × ℤ)) (t : ℕ) (body : BodyView) → IsStarted script (Some (beginning script m args bindings)) (Some body) → IsJobOf script (first_of t body)
started_fits script m args bindings t body started = record { script_is = started.0; runs = subst (λ (k : TaskView). HasFrames k.frames) (sym started.1) tt; rests = started.2 }

pub added_fit : (b : Bool) (script : ScriptView) (jobs jobs' : List (JobView BodyView)) (t : ℕ) (body : BodyView) → IsJobOf script (first_of t body) → jobs' ≡ jobs ++ add_jobs b t body
    → AllByRecursion (IsJobOf script) jobs → AllByRecursion (IsJobOf script) jobs'
added_fit true script jobs jobs' t body fits more all = subst (AllByRecursion (IsJobOf script)) (sym more) (all-append (IsJobOf script) jobs [] all tt)
added_fit false script jobs jobs' t body fits more all = subst (AllByRecursion (IsJobOf script)) (sym more) (all-append (IsJobOf script) jobs (first_of t body ∷ []) all (fits, tt))
