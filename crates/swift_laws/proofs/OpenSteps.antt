-- Which events may stand after a log: those of effects, and those by which jobs are made.
use Rattle.swift_laws.proofs.Prelude.{◌≡◌, inl, inr, ℕ, ◌+◌, ◌<◌, Bool, true, false, List, [], ◌∷◌, ◌++◌, refl, sym, subst, ap, ◌∙◌, arith, append_assoc, cond, Some, None, is_some, ◌==◌, ◌&&◌, not, nat_lt, unwrap_or, count_by, false≢true, nat_tests, append-nil, sum_by-cons, TaskId, Priority, Background, ScriptView, root_count, EffectView, spawning, detaching, opening, adding, cancelling_task, cancelling_group, ExitView, Event, Free, Open, Child, Skip, CancelTask, CancelGroup, Wait, Give, task_of, is_made, tasks_of, life_of, origin_in, given_in, stage_in, ending_in, opens, opened_by, closes, is_closed, tasks_of-push_made, opened_by-push_yes, opened_by-push_no, is_closed-push_no, Counters, can_use, fits_effect, counted, fits_turn, opens_group, JobFacts, task, first_job, gives, named_task, is_left_out, effect_events, effect_jobs, log_after, jobs_made, HasEnded}
use Rattle.std.proofs.Common.{if◌then◌else◌}
use Rattle.swift_events.specs.declared.life.JobStage.TheVariants as stage
use Rattle.swift_laws.proofs.OpenLogs.{in_push, cases_of, not_both, none_some, has_origin, was_given, stage_at, origin_stays, origin_now, given_same, given_now, given_stays, stage_same, ended_stays, ending_same, closed_cases, IsFree, Sound, May, sound_leads, Leads, stays, leads_by, leads_on, holds_at, free_at}

-- of each of some jobs
abbrev pub Each : (JobFacts → Type 0) → List JobFacts → Type 0
Each P [] = Unit {0}
Each P (j ∷ js) = P j × Each P js

pub each_append : (P : JobFacts → Type 0) (js ks : List JobFacts) → Each P js → Each P ks → Each P (js ++ ks)
each_append P [] ks a b = b
each_append P (j ∷ js) ks a b = (a.0, each_append P js ks a.1 b)

pub each_map : (P Q : JobFacts → Type 0) → ((j : JobFacts) → P j → Q j) → (js : List JobFacts) → Each P js → Each Q js
each_map P Q f [] a = tt
each_map P Q f (j ∷ js) a = (f j a.0, each_map P Q f js a.1)

-- kinds of events

abbrev pub is_child : Event → Bool
is_child (Child u o g p) = true
is_child _ = false

abbrev pub is_wait : Event → Bool
is_wait (Wait t u) = true
is_wait _ = false

-- an event that changes neither a job, nor a stage, nor an ending
pub record Calm (e : Event) : Type 0 where
  pub given : given_in e ≡ None
  pub stage : stage_in e ≡ None
  pub ending : ending_in e ≡ None

pub no_child : (e : Event) (u o : TaskId) (g : ℕ) (p : Priority) {X : Type 0} → is_child e ≡ false → e ≡ Child u o g p → X
no_child e u o g p none q = not_both (is_child e) (ap is_child q) none

module _ (roots : ℕ) where
  -- an event that says nothing of a life
  pub may_calm : (log : List Event) (e : Event) → Calm e → origin_in e ≡ None → is_child e ≡ false → May roots log e
  may_calm log e calm origin other = grind (arith, none_some, no_child)

  -- an event that makes a task
  pub may_make : (log : List Event) (e : Event) → Calm e → is_made e ≡ true → task_of e ≡ tasks_of roots log
      → ((u o : TaskId) (g : ℕ) (p : Priority) → e ≡ Child u o g p → (was_given o.0 log ≡ true) × (g < opened_by o.0 log) × (is_closed o.0 g log ≡ false)) → May roots log e
  may_make log e calm made at child = record {
    low = λ q. (let more = tasks_of-push_made roots log e made in omega (arith, at, more));
    born = none_some (given_in e) calm.given;
    given = none_some (stage_in e) calm.stage;
    moves = none_some (stage_in e) calm.stage;
    alive = none_some (stage_in e) calm.stage;
    ends = none_some (ending_in e) calm.ending;
    child = child;
  }

  -- an event by which a task moves on to another stage
  pub may_move : (log : List Event) (e : Event) → origin_in e ≡ None → ending_in e ≡ None → is_child e ≡ false
      → (is_some (given_in e) ≡ true → has_origin (task_of e) log ≡ true) → was_given (task_of e) (log ++ e ∷ []) ≡ true → IsFree (task_of e) log → (HasEnded (task_of e) log → ⊥) → May roots log e
  may_move log e origin ending other born given free alive = grind (arith, none_some, no_child)

-- A task whose turn is being applied.
pub record Active (t : ℕ) (log : List Event) : Type 0 where
  pub given : was_given t log ≡ true
  pub applied : stage_at t log ≡ Some stage.Applied
  pub alive : HasEnded t log → ⊥

pub active_push : (t : ℕ) (log : List Event) (e : Event) → Calm e → Active t log → Active t (log ++ e ∷ [])
active_push t log e calm a = grind (arith, given_stays, stage_same, ending_same)

-- a task that was made and has had no job
pub record Fresh (log : List Event) (j : JobFacts) : Type 0 where
  pub made : has_origin j.task log ≡ true
  pub new : was_given j.task log ≡ false

pub fresh_push : (log : List Event) (e : Event) → given_in e ≡ None → (j : JobFacts) → Fresh log j → Fresh (log ++ e ∷ []) j
fresh_push log e none j f = record { made = origin_stays j.task log e f.made; new = ap is_some (given_same j.task log e none) ∙ f.new }

-- what effects leave
pub record Effects (script : ScriptView) (t : ℕ) (log log' : List Event) (n : ℕ) (js : List JobFacts) : Type 0 where
  pub leads : Leads (root_count script) log log'
  pub active : Active t log'
  pub opened : opened_by t log' ≡ opened_by t log + n
  pub closed : (g : ℕ) → is_closed t g log' ≡ is_closed t g log
  pub givens : (u : ℕ) → was_given u log' ≡ was_given u log
  pub origins : (u : ℕ) → has_origin u log ≡ true → has_origin u log' ≡ true
  pub fresh : Each (Fresh log') js

module _ (script : ScriptView) (t : ℕ) where
  nothing : (log : List Event) → Active t log → Effects script t log log 0 []
  nothing log a = record {
    leads = stays (root_count script) log;
    active = a;
    opened = omega arith;
    closed = λ g. refl;
    givens = λ u. refl;
    origins = λ u h. h;
    fresh = tt;
  }

  one : (log : List Event) (e : Event) (n : ℕ) (js : List JobFacts) → May (root_count script) log e → Calm e → Active t log → ((g : ℕ) → closes t g e ≡ false)
      → opened_by t (log ++ e ∷ []) ≡ opened_by t log + n → Each (Fresh (log ++ e ∷ [])) js → Effects script t log (log ++ e ∷ []) n js
  one log e n js may calm a unclosed opened fresh = record {
    leads = leads_by (root_count script) log e may;
    active = active_push t log e calm a;
    opened = opened;
    closed = λ g. is_closed-push_no t g log e (unclosed g);
    givens = λ u. ap is_some (given_same u log e calm.given);
    origins = λ u h. origin_stays u log e h;
    fresh = fresh;
  }

  -- an event that opens no group
  plain : (log : List Event) (e : Event) (js : List JobFacts) → May (root_count script) log e → Calm e → Active t log → opens t e ≡ false → ((g : ℕ) → closes t g e ≡ false)
      → Each (Fresh (log ++ e ∷ [])) js → Effects script t log (log ++ e ∷ []) 0 js
  plain log e js may calm a unopened unclosed fresh = one log e 0 js may calm a unclosed (let same = opened_by-push_no t log e unopened in omega (arith, same)) fresh

  -- the task that an event makes has had no job
  new_one : (log : List Event) (e : Event) (j : JobFacts) → Sound (root_count script) log → Calm e → is_some (origin_in e) ≡ true → task_of e ≡ tasks_of (root_count script) log → j.task ≡ tasks_of (root_count script) log
      → Fresh (log ++ e ∷ []) j
  new_one log e j s calm born at is = record {
    made = ap is_some (origin_now j.task log e (at ∙ sym is) born) ∙ born;
    new = ap is_some (given_same j.task log e calm.given) ∙ none;
  }
    where
      none : was_given j.task log ≡ false
      none = elim (cases_of (was_given j.task log)) [
        | inl so ↦ (let lt = s.low j.task (s.born j.task so) in absurd (omega (arith, lt, is)))
        | inr not_so ↦ not_so
      ]

  either : (b : Bool) (log es fs : List Event) (js ks : List JobFacts) → (b ≡ true → Effects script t log (log ++ es) 0 js) → (b ≡ false → Effects script t log (log ++ fs) 0 ks)
      → Effects script t log (log ++ (if b then es else fs)) 0 (if b then js else ks)
  either true log es fs js ks p q = p refl
  either false log es fs js ks p q = q refl

  either_none : (b : Bool) (log es fs : List Event) → (b ≡ true → Effects script t log (log ++ es) 0 []) → (b ≡ false → Effects script t log (log ++ fs) 0 []) → Effects script t log (log ++ (if b then es else fs)) 0 []
  either_none true log es fs p q = p refl
  either_none false log es fs p q = q refl

  written_none : (log : List Event) → Active t log → Effects script t log (log ++ []) 0 []
  written_none log a = subst (λ (l : List Event). Effects script t log l 0 []) (sym (append-nil log)) (nothing log a)

  calm : {e : Event} → given_in e ≡ None → stage_in e ≡ None → ending_in e ≡ None → Calm e
  calm a b c = record { given = a; stage = b; ending = c }

  opens_own : (t == t) ≡ true
  opens_own = grind (arith, nat_tests)

  open_one : (log : List Event) → Active t log → Effects script t log (log ++ Open (task t) (opened_by t log) ∷ []) 1 []
  open_one log a =
      let e : Event = Open (task t) (opened_by t log) in
      one log e 1 [] (may_calm (root_count script) log e (calm refl refl refl) refl refl) (calm refl refl refl) a (λ g. refl) (opened_by-push_yes t log e opens_own) tt

  both : (a b : Bool) → (a && b) ≡ true → (a ≡ true) × (b ≡ true)
  both true true h = (refl, refl)
  both _ _ h = absurd (false≢true h)

  less_of : (a b : ℕ) → nat_lt a b ≡ true → a < b
  less_of a b h = grind (arith, nat_tests)

  not_of : (b : Bool) → not b ≡ true → b ≡ false
  not_of true h = absurd (false≢true h)
  not_of false h = refl

  child_fits : (e : Event) (child owner : TaskId) (group : ℕ) (priority : Priority) (log : List Event) → e ≡ Child child owner group priority → owner.0 ≡ t → Active t log → group < opened_by t log → is_closed t group log ≡ false
      → (u o : TaskId) (g : ℕ) (p : Priority) → e ≡ Child u o g p → (was_given o.0 log ≡ true) × (g < opened_by o.0 log) × (is_closed o.0 g log ≡ false)
  child_fits e child owner group priority log is mine a lt unclosed u o g p q =
      let owners : t ≡ o.0 = sym mine ∙ ap owner_of (sym is ∙ q) in
      let groups : group ≡ g = ap number_of (sym is ∙ q) in
      subst (λ (k : ℕ). (was_given k log ≡ true) × (g < opened_by k log) × (is_closed k g log ≡ false)) owners
      (subst (λ (n : ℕ). (was_given t log ≡ true) × (n < opened_by t log) × (is_closed t n log ≡ false)) groups (a.given, lt, unclosed))
    where
      owner_of : Event → ℕ
      owner_of (Child u o g p) = o.0
      owner_of _ = 0

      number_of : Event → ℕ
      number_of (Child u o g p) = g
      number_of _ = 0

  effect : (own : Priority) (log first : List Event) (c : Counters) (e : EffectView) → Sound (root_count script) log → Active t log → c.opened ≡ opened_by t log → ((g : ℕ) → is_closed t g log ≡ is_closed t g first) → fits_effect script t first c e ≡ true
      → Effects script t log (log ++ effect_events (root_count script) t own log e) (cond (opens_group e) 1 0) (effect_jobs script t log e)
  effect own log first c (spawning i p bindings) s a count same fits =
      let e : Event = Free (task (tasks_of (root_count script) log)) (task t) (unwrap_or p own) false in
      let j : JobFacts = first_job script (tasks_of (root_count script) log) i.method i.args bindings in
      plain log e (j ∷ []) (may_make (root_count script) log e (calm refl refl refl) refl refl (λ u o g q x. no_child e u o g q refl x)) (calm refl refl refl) a refl (λ g. refl)
      (new_one log e j s (calm refl refl refl) refl refl refl, tt)
  effect own log first c (detaching i p) s a count same fits =
      let e : Event = Free (task (tasks_of (root_count script) log)) (task t) p true in
      let j : JobFacts = first_job script (tasks_of (root_count script) log) i.method i.args [] in
      plain log e (j ∷ []) (may_make (root_count script) log e (calm refl refl refl) refl refl (λ u o g q x. no_child e u o g q refl x)) (calm refl refl refl) a refl (λ g. refl)
      (new_one log e j s (calm refl refl refl) refl refl refl, tt)
  effect own log first c opening s a count same fits = open_one log a
  effect own log first c (adding g unless i p bindings) s a count same fits =
      let usable : can_use t first c g ≡ true = (both (can_use t first c g) _ (both (nat_lt 0 c.room) _ fits).1).0 in
      let parts = both (nat_lt g c.opened) (not (is_closed t g first)) usable in
      let lt : g < opened_by t log = (let below = less_of g c.opened parts.0 in omega (arith, below, count)) in
      let unclosed : is_closed t g log ≡ false = same g ∙ not_of (is_closed t g first) parts.1 in
      let skip : Event = Skip (task t) g in
      let add : Event = Child (task (tasks_of (root_count script) log)) (task t) g (unwrap_or p Background) in
      let j : JobFacts = first_job script (tasks_of (root_count script) log) i.method i.args bindings in
      either (is_left_out t g unless log) log (skip ∷ []) (add ∷ []) [] (j ∷ [])
      (λ x. plain log skip [] (may_calm (root_count script) log skip (calm refl refl refl) refl refl) (calm refl refl refl) a refl (λ k. refl) tt)
      (λ x. plain log add (j ∷ [])
      (may_make (root_count script) log add (calm refl refl refl) refl refl (child_fits add (task (tasks_of (root_count script) log)) (task t) g (unwrap_or p Background) log refl refl a lt unclosed))
      (calm refl refl refl) a refl (λ k. refl) (new_one log add j s (calm refl refl refl) refl refl refl, tt))
  effect own log first c (cancelling_task name) s a count same fits =
      let e : Event = CancelTask (named_task t name log) in
      either_none (is_some (life_of (named_task t name log).0 log).ending) log [] (e ∷ [])
      (λ x. written_none log a)
      (λ x. plain log e [] (may_calm (root_count script) log e (calm refl refl refl) refl refl) (calm refl refl refl) a refl (λ g. refl) tt)
  effect own log first c (cancelling_group g) s a count same fits =
      let e : Event = CancelGroup (task t) g in
      plain log e [] (may_calm (root_count script) log e (calm refl refl refl) refl refl) (calm refl refl refl) a refl (λ k. refl) tt

  counted_opened : (c : Counters) (e : EffectView) → (counted c e).opened ≡ c.opened + cond (opens_group e) 1 0
  counted_opened c opening = refl
  counted_opened c _ = omega arith

  fresh_on : (a b : List Event) (n : ℕ) (js : List JobFacts) → Effects script t a b n js → (j : JobFacts) → Fresh a j → Fresh b j
  fresh_on a b n js f j h = record { made = f.origins j.task h.made; new = f.givens j.task ∙ h.new }

  count_cons : (e : EffectView) (es : List EffectView) → count_by opens_group (e ∷ es) ≡ cond (opens_group e) 1 0 + count_by opens_group es
  count_cons e es = sum_by-cons (λ (x : EffectView). cond (opens_group x) 1 0) e es

  pub effects : (own : Priority) (log first : List Event) (c : Counters) (es : List EffectView) (exit : ExitView) → Sound (root_count script) log → Active t log → c.opened ≡ opened_by t log → ((g : ℕ) → is_closed t g log ≡ is_closed t g first)
      → fits_turn script t first c es exit ≡ true → Effects script t log (log_after (root_count script) t own log es) (count_by opens_group es) (jobs_made script t own log es)
  effects own log first c [] exit s a count same fits = nothing log a
  effects own log first c (e ∷ es) exit s a count same fits =
      let mid : List Event = log ++ effect_events (root_count script) t own log e in
      let ok = both (fits_effect script t first c e) _ fits in
      let now = effect own log first c e s a count same ok.0 in
      let last : List Event = log_after (root_count script) t own mid es in
      let rest = effects own mid first (counted c e) es exit (sound_leads (root_count script) log mid s now.leads) now.active (let n = counted_opened c e in let o = now.opened in omega (arith, n, o, count)) (λ g. now.closed g ∙ same g) ok.1 in
      record {
        leads = leads_on (root_count script) log mid last now.leads rest.leads;
        active = rest.active;
        opened = (let x = now.opened in let y = rest.opened in let z = count_cons e es in omega (arith, x, y, z));
        closed = λ g. rest.closed g ∙ now.closed g;
        givens = λ u. rest.givens u ∙ now.givens u;
        origins = λ u h. rest.origins u (now.origins u h);
        fresh = each_append (Fresh last) (effect_jobs script t log e) (jobs_made script t own mid es) (each_map (Fresh mid) (Fresh last) (fresh_on mid last _ _ rest) (effect_jobs script t log e) now.fresh) rest.fresh;
      }

-- A task of which a job may be made.
pub record Goes (t : ℕ) (log : List Event) : Type 0 where
  pub origin : has_origin t log ≡ true
  pub alive : HasEnded t log → ⊥
  pub free : IsFree t log

pub goes_free : (roots : ℕ) (t : ℕ) (log : List Event) → Sound roots log → was_given t log ≡ true → (HasEnded t log → ⊥) → holds_at (stage_at t log) ≡ false → Goes t log
goes_free roots t log s given alive loose = record { origin = s.born t given; alive = alive; free = free_at roots t log s loose }

pub goes_new : (roots : ℕ) (t : ℕ) (log : List Event) → Sound roots log → has_origin t log ≡ true → was_given t log ≡ false → Goes t log
goes_new roots t log s origin new = grind (arith, not_both)

-- jobs are made one after the other

abbrev pub give_of : JobFacts → Event
give_of j = Give (task j.task) j.number j.resume

pub no_wait : (e : Event) (t u : TaskId) {X : Type 0} → is_wait e ≡ false → e ≡ Wait t u → X
no_wait e t u none q = not_both (is_wait e) (ap is_wait q) none

goes_on : (t : ℕ) (log : List Event) (j : JobFacts) → Goes t log → Goes t (log ++ give_of j ∷ [])
goes_on t log j h =
    let e : Event = give_of j in
    record {
      origin = origin_stays t log e h.origin;
      alive = λ ended. h.alive (sym (ap is_some (ending_same t log e refl)) ∙ ended);
      free = record {
        waits = λ w u of i. elim (in_push log e (Wait w u) i) [ inl old ↦ ended_stays u.0 log e (h.free.waits w u of old) | inr q ↦ no_wait e w u refl q ];
        children = λ u o g p of i closed. elim (in_push log e (Child u o g p) i) [
          | inl old ↦ elim (closed_cases o.0 g log e closed) [
            | inl was ↦ ended_stays u.0 log e (h.free.children u o g p of old was)
            | inr now ↦ absurd (false≢true now)
          ]
          | inr q ↦ no_child e u o g p refl q
        ];
      };
    }

-- each of some jobs may be made
abbrev pub AllGo : List Event → List JobFacts → Type 0
AllGo log js = Each (λ j. Goes j.task log) js

module _ (roots : ℕ) where
  pub leads_give : (log : List Event) (j : JobFacts) → Goes j.task log → Leads roots log (log ++ give_of j ∷ [])
  leads_give log j h = leads_by roots log (give_of j) (may_move roots log (give_of j) refl refl refl (λ q. h.origin) given_after h.free h.alive)
    where
      given_after : was_given j.task (log ++ give_of j ∷ []) ≡ true
      given_after = ap is_some (given_now j.task log (give_of j) refl refl)

  pub leads_gives : (log : List Event) (js : List JobFacts) → AllGo log js → Leads roots log (log ++ gives js)
  leads_gives log [] h = subst (λ (l : List Event). Leads roots log l) (sym (append-nil log)) (stays roots log)
  leads_gives log (j ∷ js) h =
      let mid : List Event = log ++ give_of j ∷ [] in
      let rest = leads_gives mid js (each_map (λ k. Goes k.task log) (λ k. Goes k.task mid) (λ k x. goes_on k.task log j x) js h.1) in
      subst (λ (l : List Event). Leads roots log l) (append_assoc log (give_of j ∷ []) (gives js)) (leads_on roots log mid (mid ++ gives js) (leads_give log j h.0) rest)
