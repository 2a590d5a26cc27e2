-- The tasks that the effects of a turn make have the next numbers.
use Rattle.swift_course.proofs.Prelude.{◌≡◌, ◌⊎◌, ℕ, ◌+◌, ◌≤◌, ◌<◌, ◌==◌, Bool, true, false, List, [], ◌∷◌, ◌++◌, if◌then◌else◌, refl, sym, ap, subst, arith, inl, inr, is_some, unwrap_or, append-nil, Priority, Background, ScriptView, root_count, EffectView, spawning, detaching, opening, adding, cancelling_task, cancelling_group, Event, Free, Open, Child, Skip, CancelTask, CancelGroup, is_made, tasks_of, life_of, opened_by, tasks_of-push_made, tasks_of-push_other, JobFacts, effect_events, effect_jobs, first_job, is_left_out, jobs_made, log_after, named_task, task}
use Rattle.swift_course.proofs.Lists.{at_most_one, no_one}
use Rattle.swift_course.proofs.Waking.{times, times_append}

-- events that make no task, or one event that makes the next, with its job
abbrev MakesOne : ℕ → List Event → List Event → List JobFacts → Type 0
MakesOne roots log es js = ((js ≡ []) × (tasks_of roots (log ++ es) ≡ tasks_of roots log)) ⊎ ((j : JobFacts) × (js ≡ j ∷ []) × (j.task ≡ tasks_of roots log) × (tasks_of roots (log ++ es) ≡ tasks_of roots log + 1))

makes_nothing : (roots : ℕ) (log : List Event) → MakesOne roots log [] []
makes_nothing roots log = inl (refl, ap (tasks_of roots) (append-nil log))

makes_none : (roots : ℕ) (log : List Event) (e : Event) → is_made e ≡ false → MakesOne roots log (e ∷ []) []
makes_none roots log e is = inl (refl, tasks_of-push_other roots log e is)

makes_next : (roots : ℕ) (log : List Event) (e : Event) (j : JobFacts) → is_made e ≡ true → j.task ≡ tasks_of roots log → MakesOne roots log (e ∷ []) (j ∷ [])
makes_next roots log e j is at = inr (j, refl, at, tasks_of-push_made roots log e is)

either : (roots : ℕ) (log es fs : List Event) (js ks : List JobFacts) (b : Bool) → MakesOne roots log es js → MakesOne roots log fs ks → MakesOne roots log (if b then es else fs) (if b then js else ks)
either roots log es fs js ks true p q = p
either roots log es fs js ks false p q = q

either_none : (roots : ℕ) (log es fs : List Event) (b : Bool) → MakesOne roots log es [] → MakesOne roots log fs [] → MakesOne roots log (if b then es else fs) []
either_none roots log es fs true p q = p
either_none roots log es fs false p q = q

effect_makes : (script : ScriptView) (t : ℕ) (own : Priority) (log : List Event) (e : EffectView) → MakesOne (root_count script) log (effect_events (root_count script) t own log e) (effect_jobs script t log e)
effect_makes script t own log (spawning i p bindings) =
    let roots = root_count script in
    makes_next roots log (Free (task (tasks_of roots log)) (task t) (unwrap_or p own) false) (first_job script (tasks_of roots log) i.method i.args bindings) refl refl
effect_makes script t own log (detaching i p) =
    let roots = root_count script in
    makes_next roots log (Free (task (tasks_of roots log)) (task t) p true) (first_job script (tasks_of roots log) i.method i.args []) refl refl
effect_makes script t own log opening = makes_none (root_count script) log (Open (task t) (opened_by t log)) refl
effect_makes script t own log (adding g unless i p bindings) =
    let roots = root_count script in
    let e : Event = Child (task (tasks_of roots log)) (task t) g (unwrap_or p Background) in
    let j = first_job script (tasks_of roots log) i.method i.args bindings in
    either roots log (Skip (task t) g ∷ []) (e ∷ []) [] (j ∷ []) (is_left_out t g unless log) (makes_none roots log (Skip (task t) g) refl) (makes_next roots log e j refl refl)
effect_makes script t own log (cancelling_task name) =
    let roots = root_count script in
    let u = named_task t name log in
    either_none roots log [] (CancelTask u ∷ []) (is_some (life_of u.0 log).ending) (makes_nothing roots log) (makes_none roots log (CancelTask u) refl)
effect_makes script t own log (cancelling_group g) = makes_none (root_count script) log (CancelGroup (task t) g) refl

-- jobs are of tasks whose numbers were free before, and are taken after, and of each one at most
pub record AreNext (n n' : ℕ) (js : List JobFacts) : Type 0 where
  pub grows : n ≤ n'
  pub below : (x : ℕ) → x < n → times x js ≡ 0
  pub beyond : (x : ℕ) → n' ≤ x → times x js ≡ 0
  pub once : (x : ℕ) → times x js ≤ 1

one_next : (n : ℕ) (j : JobFacts) → j.task ≡ n → AreNext n (n + 1) (j ∷ [])
one_next n j at = record {
  grows = omega arith;
  below = λ x lt. (let none = no_one x j.task (λ e. omega (arith, e, at, lt)) in omega (arith, none));
  beyond = λ x le. (let none = no_one x j.task (λ e. omega (arith, e, at, le)) in omega (arith, none));
  once = λ x. (let le = at_most_one (x == j.task) in omega (arith, le));
}

joined : (n m k : ℕ) (js ks : List JobFacts) → AreNext n m js → AreNext m k ks → AreNext n k (js ++ ks)
joined n m k js ks a b = record {
  grows = (let p = a.grows in let q = b.grows in omega (arith, p, q));
  below = λ x lt. (let p = a.below x lt in let q = b.below x (let g = a.grows in omega (arith, g, lt)) in omega (arith, p, q, times_append x js ks));
  beyond = λ x le. (let p = a.beyond x (let g = b.grows in omega (arith, g, le)) in let q = b.beyond x le in omega (arith, p, q, times_append x js ks));
  once = λ x. one_of x (nat_lt_or x m);
}
  where
    one_of : (x : ℕ) → (x < m) ⊎ (m ≤ x) → times x (js ++ ks) ≤ 1
    one_of x (inl lt) = (let p = a.once x in let q = b.below x lt in omega (arith, p, q, times_append x js ks))
    one_of x (inr le) = (let p = a.beyond x le in let q = b.once x in omega (arith, p, q, times_append x js ks))

    nat_lt_or : (x y : ℕ) → (x < y) ⊎ (y ≤ x)
    nat_lt_or x y = grind arith

none_next : (n n' : ℕ) → n' ≡ n → AreNext n n' []
none_next n n' is = record { grows = omega (arith, is); below = λ x lt. refl; beyond = λ x le. refl; once = λ x. omega arith }

are_next : (n n' : ℕ) (js ks : List JobFacts) → js ≡ ks → AreNext n n' ks → AreNext n n' js
are_next n n' js ks is a = subst (AreNext n n') (sym is) a

effect_next : (roots : ℕ) (log es : List Event) (js : List JobFacts) → MakesOne roots log es js → AreNext (tasks_of roots log) (tasks_of roots (log ++ es)) js
effect_next roots log es js (inl m) = are_next _ _ js [] m.0 (none_next _ _ m.1)
effect_next roots log es js (inr m) = are_next _ _ js (m.0 ∷ []) m.1 (subst (λ k. AreNext (tasks_of roots log) k (m.0 ∷ [])) (sym m.3) (one_next (tasks_of roots log) m.0 m.2))

pub effect_grows : (script : ScriptView) (t : ℕ) (own : Priority) (log : List Event) (e : EffectView) → tasks_of (root_count script) log ≤ tasks_of (root_count script) (log ++ effect_events (root_count script) t own log e)
effect_grows script t own log e = (effect_next (root_count script) log (effect_events (root_count script) t own log e) (effect_jobs script t log e) (effect_makes script t own log e)).grows

-- the jobs of the tasks that effects make
pub made_next : (es : List EffectView) (script : ScriptView) (t : ℕ) (own : Priority) (log : List Event) → AreNext (tasks_of (root_count script) log) (tasks_of (root_count script) (log_after (root_count script) t own log es)) (jobs_made script t own log es)
made_next [] script t own log = none_next _ _ refl
made_next (e ∷ es) script t own log =
    let roots = root_count script in
    let next = log ++ effect_events roots t own log e in
    joined (tasks_of roots log) (tasks_of roots next) (tasks_of roots (log_after roots t own next es)) (effect_jobs script t log e) (jobs_made script t own next es)
    (effect_next roots log (effect_events roots t own log e) (effect_jobs script t log e) (effect_makes script t own log e)) (made_next es script t own next)
