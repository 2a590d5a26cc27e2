-- What the effects of a turn leave of a log.
use Rattle.swift_tasks.proofs.Prelude.{◌≡◌, ℕ, ◌<◌, ◌≤◌, List, [], ◌∷◌, ◌++◌, refl, sym, ◌∙◌, ap, arith, Bool, true, false, inl, inr, subst, Option, Some, None, is_some, if◌then◌else◌, ◌&&◌, not, nat_lt, unwrap_or, IsTrue, cases_eq, nat_tests, append-nil, TaskId, Ending, Priority, Background, EffectView, spawning, detaching, opening, adding, cancelling_task, cancelling_group, Event, Free, Open, Child, Skip, CancelTask, CancelGroup, Life, JobStage, task_of, is_made, tasks_of, later, life_of, stage_in, ending_in, origin_in, waiter_in, waiters_of, opened_by, closes, is_closed, is_open_group, life_of-push_same, life_of-push_other, tasks_of-push_made, tasks_of-push_other, opened_by-push, is_closed-push_no, waiters_of-push_none, task, named_task, effect_events, is_left_out, log_after}
use Rattle.swift_tasks.proofs.Fitting.{left, right, less}

-- an event that changes no stage and no ending, closes no group and waits for no task
record IsQuiet (e : Event) : Type 0 where
  stage : stage_in e ≡ None
  ending : ending_in e ≡ None
  closes_none : (o g : ℕ) → closes o g e ≡ false
  waits_none : (t : ℕ) → waiter_in t e ≡ None

-- what was made stays so, and no group is closed
pub record Stays (log log' : List Event) : Type 0 where
  pub made : (t : ℕ) → is_some (life_of t log).origin ≡ true → is_some (life_of t log').origin ≡ true
  pub closed : (o g : ℕ) → is_closed o g log' ≡ is_closed o g log

-- beside that no task goes on, ends or waits for a task
pub record Grows (roots : ℕ) (log log' : List Event) : Type 0 where
  pub stays : Stays log log'
  pub stage : (t : ℕ) → (life_of t log').stage ≡ (life_of t log).stage
  pub ending : (t : ℕ) → (life_of t log').ending ≡ (life_of t log).ending
  pub opened : (o : ℕ) → opened_by o log ≤ opened_by o log'
  pub tasks : tasks_of roots log ≤ tasks_of roots log'
  pub waiters : (t : ℕ) → waiters_of t log' ≡ waiters_of t log

later_some : {A : Type 0} (a b : Option A) → is_some b ≡ true → is_some (later a b) ≡ true
later_some (Some x) b h = refl
later_some None b h = h

pub stage-push : (t : ℕ) (log : List Event) (e : Event) → stage_in e ≡ None → (life_of t (log ++ e ∷ [])).stage ≡ (life_of t log).stage
stage-push t log e none = elim (cases_eq t (task_of e)) [
  | inl eq ↦ ap (λ (l : Life). l.stage) (life_of-push_same t log e (sym eq)) ∙ ap (λ (s : Option JobStage). later s (life_of t log).stage) none
  | inr ne ↦ ap (λ (l : Life). l.stage) (life_of-push_other t log e (λ q. ne (sym q)))
]

pub ending-push : (t : ℕ) (log : List Event) (e : Event) → ending_in e ≡ None → (life_of t (log ++ e ∷ [])).ending ≡ (life_of t log).ending
ending-push t log e none = elim (cases_eq t (task_of e)) [
  | inl eq ↦ ap (λ (l : Life). l.ending) (life_of-push_same t log e (sym eq)) ∙ ap (λ (s : Option Ending). later s (life_of t log).ending) none
  | inr ne ↦ ap (λ (l : Life). l.ending) (life_of-push_other t log e (λ q. ne (sym q)))
]

-- a task that was made stays so
pub made-push : (t : ℕ) (log : List Event) (e : Event) → is_some (life_of t log).origin ≡ true → is_some (life_of t (log ++ e ∷ [])).origin ≡ true
made-push t log e made = elim (cases_eq t (task_of e)) [
  | inl eq ↦ ap (λ (l : Life). is_some l.origin) (life_of-push_same t log e (sym eq)) ∙ later_some (origin_in e) (life_of t log).origin made
  | inr ne ↦ ap (λ (l : Life). is_some l.origin) (life_of-push_other t log e (λ q. ne (sym q))) ∙ made
]

-- a number that is taken stays so
pub tasks-push : (roots : ℕ) (log : List Event) (e : Event) → tasks_of roots log ≤ tasks_of roots (log ++ e ∷ [])
tasks-push roots log e = by (is_made e) refl
  where
    by : (b : Bool) → is_made e ≡ b → tasks_of roots log ≤ tasks_of roots (log ++ e ∷ [])
    by true is = (let more = tasks_of-push_made roots log e is in omega (arith, more))
    by false is = (let same = tasks_of-push_other roots log e is in omega (arith, same))

pub stays_push : (log : List Event) (e : Event) → ((o g : ℕ) → closes o g e ≡ false) → Stays log (log ++ e ∷ [])
stays_push log e none = record { made = λ t h. made-push t log e h; closed = λ o g. is_closed-push_no o g log e (none o g) }

pub grows_none : (roots : ℕ) (log : List Event) → Grows roots log log
grows_none roots log = record { stays = record { made = λ t h. h; closed = λ o g. refl }; stage = λ t. refl; ending = λ t. refl; opened = λ o. omega arith; tasks = omega arith; waiters = λ t. refl }

pub grows_on : {roots : ℕ} {a b c : List Event} → Grows roots a b → Grows roots b c → Grows roots a c
grows_on p q = record {
  stage = λ t. q.stage t ∙ p.stage t;
  ending = λ t. q.ending t ∙ p.ending t;
  stays = record { made = λ t h. q.stays.made t (p.stays.made t h); closed = λ o g. q.stays.closed o g ∙ p.stays.closed o g };
  opened = λ o. (let l = p.opened o in let r = q.opened o in omega (arith, l, r));
  tasks = (let l = p.tasks in let r = q.tasks in omega (arith, l, r));
  waiters = λ t. q.waiters t ∙ p.waiters t;
}

grows_push : (roots : ℕ) (log : List Event) (e : Event) → IsQuiet e → Grows roots log (log ++ e ∷ [])
grows_push roots log e q = record {
  stage = λ t. stage-push t log e q.stage;
  ending = λ t. ending-push t log e q.ending;
  stays = stays_push log e q.closes_none;
  opened = λ o. (let more = opened_by-push o log e in omega (arith, more));
  tasks = tasks-push roots log e;
  waiters = λ t. waiters_of-push_none t log e (q.waits_none t);
}

grows_nothing : (roots : ℕ) (log : List Event) → Grows roots log (log ++ [])
grows_nothing roots log = subst (λ (l : List Event). Grows roots log l) (sym (append-nil log)) (grows_none roots log)

if_grows : (roots : ℕ) (log es fs : List Event) (b : Bool) → Grows roots log (log ++ es) → Grows roots log (log ++ fs) → Grows roots log (log ++ (if b then es else fs))
if_grows roots log es fs true p q = p
if_grows roots log es fs false p q = q

quiet_free : (a b : TaskId) (p : Priority) (detached : Bool) → IsQuiet (Free a b p detached)
quiet_free a b p detached = record { stage = refl; ending = refl; closes_none = λ o g. refl; waits_none = λ t. refl }

quiet_child : (a b : TaskId) (g : ℕ) (p : Priority) → IsQuiet (Child a b g p)
quiet_child a b g p = record { stage = refl; ending = refl; closes_none = λ o g. refl; waits_none = λ t. refl }

quiet_open : (o : TaskId) (g : ℕ) → IsQuiet (Open o g)
quiet_open o g = record { stage = refl; ending = refl; closes_none = λ o g. refl; waits_none = λ t. refl }

quiet_skip : (o : TaskId) (g : ℕ) → IsQuiet (Skip o g)
quiet_skip o g = record { stage = refl; ending = refl; closes_none = λ o g. refl; waits_none = λ t. refl }

quiet_cancel : (t : TaskId) → IsQuiet (CancelTask t)
quiet_cancel t = record { stage = refl; ending = refl; closes_none = λ o g. refl; waits_none = λ t. refl }

quiet_cancel_group : (o : TaskId) (g : ℕ) → IsQuiet (CancelGroup o g)
quiet_cancel_group o g = record { stage = refl; ending = refl; closes_none = λ o g. refl; waits_none = λ t. refl }

pub grows_cancel_group : (roots : ℕ) (log : List Event) (o : TaskId) (g : ℕ) → Grows roots log (log ++ CancelGroup o g ∷ [])
grows_cancel_group roots log o g = grows_push roots log (CancelGroup o g) (quiet_cancel_group o g)

-- what one effect writes
pub effect_grows : (roots t : ℕ) (own : Priority) (log : List Event) (e : EffectView) → Grows roots log (log ++ effect_events roots t own log e)
effect_grows roots t own log (spawning i p bindings) = grows_push roots log (Free (task (tasks_of roots log)) (task t) (unwrap_or p own) false) (quiet_free _ _ _ _)
effect_grows roots t own log (detaching i p) = grows_push roots log (Free (task (tasks_of roots log)) (task t) p true) (quiet_free _ _ _ _)
effect_grows roots t own log opening = grows_push roots log (Open (task t) (opened_by t log)) (quiet_open _ _)
effect_grows roots t own log (adding g unless i p bindings) =
    if_grows roots log (Skip (task t) g ∷ []) (Child (task (tasks_of roots log)) (task t) g (unwrap_or p Background) ∷ []) (is_left_out t g unless log)
    (grows_push roots log (Skip (task t) g) (quiet_skip _ _))
    (grows_push roots log (Child (task (tasks_of roots log)) (task t) g (unwrap_or p Background)) (quiet_child _ _ _ _))
effect_grows roots t own log (cancelling_task name) =
    if_grows roots log [] (CancelTask (named_task t name log) ∷ []) (is_some (life_of (named_task t name log).0 log).ending)
    (grows_nothing roots log)
    (grows_push roots log (CancelTask (named_task t name log)) (quiet_cancel _))
effect_grows roots t own log (cancelling_group g) = grows_cancel_group roots log (task t) g

pub effects_grow : (roots t : ℕ) (own : Priority) (log : List Event) (es : List EffectView) → Grows roots log (log_after roots t own log es)
effects_grow roots t own log [] = grows_none roots log
effects_grow roots t own log (e ∷ es) = grows_on (effect_grows roots t own log e) (effects_grow roots t own (log ++ effect_events roots t own log e) es)

-- a group that is open stays so
pub open_stays : (roots t g : ℕ) (log log' : List Event) → Grows roots log log' → IsTrue (is_open_group t g log) → IsTrue (is_open_group t g log')
open_stays roots t g log log' grows was =
    let lt = less g (opened_by t log) (left (nat_lt g (opened_by t log)) (not (is_closed t g log)) was) in
    let more = grows.opened t in
    let lt' : nat_lt g (opened_by t log') ≡ true = (let low : g < opened_by t log' = omega (arith, lt, more) in grind (arith, nat_tests)) in
    ap (λ (b : Bool). b && not (is_closed t g log')) lt' ∙ ap not (grows.stays.closed t g) ∙ right (nat_lt g (opened_by t log)) (not (is_closed t g log)) was
