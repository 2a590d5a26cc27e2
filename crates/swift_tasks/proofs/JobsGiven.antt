-- The jobs that a turn makes, and what remains of waits when they are written.
use Rattle.swift_tasks.proofs.Prelude.{◌≡◌, ◌≢◌, ℕ, ◌+◌, ◌<◌, List, [], ◌∷◌, ◌++◌, length, refl, sym, ◌∙◌, ap, arith, Bool, true, false, inl, inr, subst, append_assoc, length-append, Option, is_some, is_none, if◌then◌else◌, ◌&&◌, ◌||◌, ◌==◌, not, unwrap_or, cases_eq, nat_tests, append-nil, Ending, Priority, Background, ScriptView, root_count, EffectView, spawning, detaching, opening, adding, cancelling_task, cancelling_group, Event, Free, Open, Child, Skip, CancelTask, CancelGroup, Give, Life, Origin, task_of, is_made, tasks_of, life_of, lived, is_open, is_waiting, opened_by, life_of-push_same, life_of-push_other, tasks_of-push_made, tasks_of-push_other, origin-push, JobFacts, task, named_task, effect_events, effect_jobs, is_left_out, log_after, jobs_made, first_job, gives, AreMade, UnopenedAreNotClosed}
use Rattle.swift_tasks.proofs.Grows.{ending-push, effect_grows, effects_grow}
use Rattle.swift_tasks.proofs.Pushes.{closed_push}

-- whether one of some jobs is of a task
abbrev pub among : ℕ → List JobFacts → Bool
among t [] = false
among t (j ∷ js) = (t == j.task) || among t js

pub equal : (a b : ℕ) → a ≡ b → (a == b) ≡ true
equal a b is = grind (arith, nat_tests)

pub unequal : (a b : ℕ) → a ≢ b → (a == b) ≡ false
unequal a b ne = grind (arith, nat_tests)

or_assoc : (a b c : Bool) → (a || (b || c)) ≡ ((a || b) || c)
or_assoc true b c = refl
or_assoc false b c = refl

pub among-append : (t : ℕ) (js ks : List JobFacts) → among t (js ++ ks) ≡ (among t js || among t ks)
among-append t [] ks = refl
among-append t (j ∷ js) ks = ap (λ (b : Bool). (t == j.task) || b) (among-append t js ks) ∙ or_assoc (t == j.task) (among t js) (among t ks)

pub made-append : (log : List Event) (js ks : List JobFacts) → AreMade log js → AreMade log ks → AreMade log (js ++ ks)
made-append log [] ks a b = b
made-append log (j ∷ js) ks a b = (a.0, made-append log js ks a.1 b)

pub made_on : (log log' : List Event) (js : List JobFacts) → ((t : ℕ) → is_some (life_of t log).origin ≡ true → is_some (life_of t log').origin ≡ true) → AreMade log js → AreMade log' js
made_on log log' [] stays a = tt
made_on log log' (j ∷ js) stays a = (stays j.task a.0, made_on log log' js stays a.1)

-- none of the jobs is of a task below this number
abbrev pub AreFrom : ℕ → List JobFacts → Type 0
AreFrom n js = (t : ℕ) → t < n → among t js ≡ false

-- the jobs of the tasks that were made: as many as numbers were taken, from this log to that one
pub record AreNew (roots : ℕ) (log log' : List Event) (js : List JobFacts) : Type 0 where
  pub count : tasks_of roots log' ≡ tasks_of roots log + length js
  pub made : AreMade log' js
  pub from : AreFrom (tasks_of roots log) js

one_new : (roots : ℕ) (log : List Event) (e : Event) (j : JobFacts) → is_made e ≡ true → task_of e ≡ tasks_of roots log → j.task ≡ tasks_of roots log → is_some (lived (life_of (task_of e) log) e).origin ≡ true → AreNew roots log (log ++ e ∷ []) (j ∷ [])
one_new roots log e j is at job born = record {
  count = tasks_of-push_made roots log e is;
  made = (subst (λ (k : ℕ). is_some (life_of k (log ++ e ∷ [])).origin ≡ true) (at ∙ sym job) (ap (λ (l : Life). is_some l.origin) (life_of-push_same (task_of e) log e refl) ∙ born), tt);
  from = λ t lt. ap (λ (b : Bool). b || false) (unequal t j.task (λ eq. (let le = lt in omega (arith, le, eq, job))));
}

none_new : (roots : ℕ) (log : List Event) (e : Event) → is_made e ≡ false → AreNew roots log (log ++ e ∷ []) []
none_new roots log e is = record { count = (let same = tasks_of-push_other roots log e is in omega (arith, same)); made = tt; from = λ t lt. refl }

nothing_new : (roots : ℕ) (log : List Event) → AreNew roots log (log ++ []) []
nothing_new roots log = subst (λ (l : List Event). AreNew roots log l []) (sym (append-nil log)) (record { count = omega arith; made = tt; from = λ t lt. refl })

if_new : (roots : ℕ) (log es fs : List Event) (js ks : List JobFacts) (b : Bool) → AreNew roots log (log ++ es) js → AreNew roots log (log ++ fs) ks → AreNew roots log (log ++ (if b then es else fs)) (if b then js else ks)
if_new roots log es fs js ks true p q = p
if_new roots log es fs js ks false p q = q

none_either : (roots : ℕ) (log es fs : List Event) (b : Bool) → AreNew roots log (log ++ es) [] → AreNew roots log (log ++ fs) [] → AreNew roots log (log ++ (if b then es else fs)) []
none_either roots log es fs true p q = p
none_either roots log es fs false p q = q

effect_new : (script : ScriptView) (t : ℕ) (own : Priority) (log : List Event) (e : EffectView) → AreNew (root_count script) log (log ++ effect_events (root_count script) t own log e) (effect_jobs script t log e)
effect_new script t own log (spawning i p bindings) = one_new (root_count script) log (Free (task (tasks_of (root_count script) log)) (task t) (unwrap_or p own) false) _ refl refl refl refl
effect_new script t own log (detaching i p) = one_new (root_count script) log (Free (task (tasks_of (root_count script) log)) (task t) p true) _ refl refl refl refl
effect_new script t own log opening = none_new (root_count script) log (Open (task t) (opened_by t log)) refl
effect_new script t own log (adding g unless i p bindings) =
    if_new (root_count script) log (Skip (task t) g ∷ []) (Child (task (tasks_of (root_count script) log)) (task t) g (unwrap_or p Background) ∷ []) [] (first_job script (tasks_of (root_count script) log) i.method i.args bindings ∷ []) (is_left_out t g unless log)
    (none_new (root_count script) log (Skip (task t) g) refl)
    (one_new (root_count script) log (Child (task (tasks_of (root_count script) log)) (task t) g (unwrap_or p Background)) (first_job script (tasks_of (root_count script) log) i.method i.args bindings) refl refl refl refl)
effect_new script t own log (cancelling_task name) =
    none_either (root_count script) log [] (CancelTask (named_task t name log) ∷ []) (is_some (life_of (named_task t name log).0 log).ending)
    (nothing_new (root_count script) log)
    (none_new (root_count script) log (CancelTask (named_task t name log)) refl)
effect_new script t own log (cancelling_group g) = none_new (root_count script) log (CancelGroup (task t) g) refl

pub effects_new : (script : ScriptView) (t : ℕ) (own : Priority) (log : List Event) (es : List EffectView) → AreNew (root_count script) log (log_after (root_count script) t own log es) (jobs_made script t own log es)
effects_new script t own log [] = record { count = omega arith; made = tt; from = λ u lt. refl }
effects_new script t own log (e ∷ es) =
    let roots : ℕ = root_count script in
    let mid : List Event = log ++ effect_events roots t own log e in
    let one = effect_new script t own log e in
    let rest = effects_new script t own mid es in
    let low = (effect_grows roots t own log e).tasks in
    record {
      count = (let a = one.count in let b = rest.count in let c = length-append (effect_jobs script t log e) (jobs_made script t own mid es) in omega (arith, a, b, c));
      made = made-append (log_after roots t own mid es) (effect_jobs script t log e) (jobs_made script t own mid es) (made_on mid (log_after roots t own mid es) (effect_jobs script t log e) (effects_grow roots t own mid es).stays.made one.made) rest.made;
      from = λ u lt. among-append u (effect_jobs script t log e) (jobs_made script t own mid es) ∙ ap (λ (b : Bool). b || among u (jobs_made script t own mid es)) (one.from u lt) ∙ rest.from u (omega (arith, lt, low));
    }

pub and_false : (a : Bool) → (a && false) ≡ false
and_false true = refl
and_false false = refl

give_waits : (t : ℕ) (j : JobFacts) (log : List Event) → is_waiting (life_of t (log ++ Give (task j.task) j.number j.resume ∷ [])) ≡ (not (t == j.task) && is_waiting (life_of t log))
give_waits t j log = elim (cases_eq t j.task) [
  | inl eq ↦ ap is_waiting (life_of-push_same t log (Give (task j.task) j.number j.resume) (sym eq)) ∙ sym (ap (λ (b : Bool). not b && is_waiting (life_of t log)) (equal t j.task eq))
  | inr ne ↦ ap is_waiting (life_of-push_other t log (Give (task j.task) j.number j.resume) (λ q. ne (sym q))) ∙ sym (ap (λ (b : Bool). not b && is_waiting (life_of t log)) (unequal t j.task ne))
]

not_or : (a b c : Bool) → (not b && (not a && c)) ≡ (not (a || b) && c)
not_or true b c = and_false (not b)
not_or false b c = refl

-- after jobs were made those tasks wait that have waited and of which no job was made
pub gives_wait : (t : ℕ) (js : List JobFacts) (log : List Event) → is_waiting (life_of t (log ++ gives js)) ≡ (not (among t js) && is_waiting (life_of t log))
gives_wait t [] log = ap (λ (l : List Event). is_waiting (life_of t l)) (append-nil log)
gives_wait t (j ∷ js) log =
    let g : Event = Give (task j.task) j.number j.resume in
    ap (λ (l : List Event). is_waiting (life_of t l)) (sym (append_assoc log (g ∷ []) (gives js)))
    ∙ gives_wait t js (log ++ g ∷ [])
    ∙ ap (λ (b : Bool). not (among t js) && b) (give_waits t j log)
    ∙ not_or (t == j.task) (among t js) (is_waiting (life_of t log))

same_open : (l m : Life) → l.origin ≡ m.origin → l.ending ≡ m.ending → is_open l ≡ is_open m
same_open l m p q = ap (λ (o : Option Origin). is_some o && is_none l.ending) p ∙ ap (λ (e : Option Ending). is_some m.origin && is_none e) q

-- no task is made or ends by that
pub gives_open : (t : ℕ) (js : List JobFacts) (log : List Event) → is_open (life_of t (log ++ gives js)) ≡ is_open (life_of t log)
gives_open t [] log = ap (λ (l : List Event). is_open (life_of t l)) (append-nil log)
gives_open t (j ∷ js) log =
    let g : Event = Give (task j.task) j.number j.resume in
    ap (λ (l : List Event). is_open (life_of t l)) (sym (append_assoc log (g ∷ []) (gives js)))
    ∙ gives_open t js (log ++ g ∷ [])
    ∙ same_open (life_of t (log ++ g ∷ [])) (life_of t log) (origin-push t log g refl) (ending-push t log g refl)

pub gives_tasks : (roots : ℕ) (js : List JobFacts) (log : List Event) → tasks_of roots (log ++ gives js) ≡ tasks_of roots log
gives_tasks roots [] log = ap (tasks_of roots) (append-nil log)
gives_tasks roots (j ∷ js) log =
    let g : Event = Give (task j.task) j.number j.resume in
    ap (tasks_of roots) (sym (append_assoc log (g ∷ []) (gives js))) ∙ gives_tasks roots js (log ++ g ∷ []) ∙ tasks_of-push_other roots log g refl

pub gives_closed : (js : List JobFacts) (log : List Event) → UnopenedAreNotClosed log → UnopenedAreNotClosed (log ++ gives js)
gives_closed [] log closed = subst UnopenedAreNotClosed (sym (append-nil log)) closed
gives_closed (j ∷ js) log closed =
    let g : Event = Give (task j.task) j.number j.resume in
    subst UnopenedAreNotClosed (append_assoc log (g ∷ []) (gives js)) (gives_closed js (log ++ g ∷ []) (closed_push g (λ o k. refl) closed))
