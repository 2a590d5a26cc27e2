-- What the events of one task say of the stages of others: nothing.
use Rattle.swift_course.proofs.Prelude.{◌≡◌, ◌≢◌, ◌⊎◌, ℕ, ◌+◌, ◌<◌, Bool, true, false, List, [], ◌∷◌, ◌++◌, if◌then◌else◌, refl, sym, ap, ◌∙◌, append_assoc, arith, inl, inr, Option, Some, None, is_some, cases_eq, append-nil, TaskId, Ending, Fault, Priority, Env, next_of, ScriptView, root_count, EffectView, spawning, detaching, opening, adding, cancelling_task, cancelling_group, ExitView, calling, waiting, asking_next, closing, yielding, returning, failing, Step, Run, Ended, Await, Event, Begin, CancelTask, Life, JobStage, Begun, is_made, later, task_of, tasks_of, life_of, stage_in, group_of, life_of-push_other, life_of-push_same, tasks_of-push_other, JobFacts, close_events, effect_events, end_events, exit_events, gives, is_left_out, log_after, named_task, next_events, wait_events}
use Rattle.swift_groups.specs.declared.answer.NextResult.{NextResult as Answer}
use Rattle.swift_groups.specs.declared.answer.NextResult.TheVariants as answer
use Rattle.swift_course.proofs.Lists.{one}
use Rattle.swift_course.proofs.Made.{effect_grows}
use Rattle.swift_course.proofs.Waking.{times}

abbrev pub stage_of : ℕ → List Event → Option JobStage
stage_of x log = (life_of x log).stage

-- an event that leaves the stage of a task as it is
abbrev pub IsSilent : ℕ → Event → Type 0
IsSilent x e = (task_of e ≢ x) ⊎ (stage_in e ≡ None)

abbrev pub AreSilent : ℕ → List Event → Type 0
AreSilent x [] = Unit {0}
AreSilent x (e ∷ es) = IsSilent x e × AreSilent x es

stage_push : (x : ℕ) (log : List Event) (e : Event) → IsSilent x e → stage_of x (log ++ e ∷ []) ≡ stage_of x log
stage_push x log e (inl apart) = ap (λ (l : Life). l.stage) (life_of-push_other x log e apart)
stage_push x log e (inr none) = elim (cases_eq (task_of e) x) [
  | inl same ↦ ap (λ (l : Life). l.stage) (life_of-push_same x log e same) ∙ ap (λ (o : Option JobStage). later o (life_of x log).stage) none
  | inr apart ↦ ap (λ (l : Life). l.stage) (life_of-push_other x log e apart)
]

pub stage_stays : (es : List Event) (x : ℕ) (log : List Event) → AreSilent x es → stage_of x (log ++ es) ≡ stage_of x log
stage_stays [] x log silent = ap (stage_of x) (append-nil log)
stage_stays (e ∷ es) x log silent = ap (stage_of x) (sym (append_assoc log (e ∷ []) es)) ∙ stage_stays es x (log ++ e ∷ []) silent.1 ∙ stage_push x log e silent.0

-- a turn that begins is under way then
pub begin_stage : (log : List Event) (t : TaskId) (n : ℕ) (env : Env) → stage_of t.0 (log ++ Begin t n env ∷ []) ≡ Some (Begun env)
begin_stage log t n env = ap (λ (l : Life). l.stage) (life_of-push_same t.0 log (Begin t n env) refl)

-- events that make no task
abbrev pub AreIdle : List Event → Type 0
AreIdle [] = Unit {0}
AreIdle (e ∷ es) = (is_made e ≡ false) × AreIdle es

pub tasks_stay : (es : List Event) (roots : ℕ) (log : List Event) → AreIdle es → tasks_of roots (log ++ es) ≡ tasks_of roots log
tasks_stay [] roots log idle = ap (tasks_of roots) (append-nil log)
tasks_stay (e ∷ es) roots log idle = ap (tasks_of roots) (sym (append_assoc log (e ∷ []) es)) ∙ tasks_stay es roots (log ++ e ∷ []) idle.1 ∙ tasks_of-push_other roots log e idle.0

-- effects

silent_either : (x : ℕ) (b : Bool) (es fs : List Event) → AreSilent x es → AreSilent x fs → AreSilent x (if b then es else fs)
silent_either x true es fs p q = p
silent_either x false es fs p q = q

effect_silent : (roots t : ℕ) (own : Priority) (log : List Event) (e : EffectView) (x : ℕ) → t ≢ x → x < tasks_of roots log → AreSilent x (effect_events roots t own log e)
effect_silent roots t own log opening x apart lt = (inr refl, tt)
effect_silent roots t own log (adding g unless i p bindings) x apart lt =
    silent_either x (is_left_out t g unless log) _ _ (inr refl, tt) (inl (λ same. omega (arith, same, lt)), tt)
effect_silent roots t own log (cancelling_task name) x apart lt = silent_either x (is_some (life_of (named_task t name log).0 log).ending) [] (CancelTask (named_task t name log) ∷ []) tt (inr refl, tt)
effect_silent roots t own log (cancelling_group g) x apart lt = (inr refl, tt)
effect_silent roots t own log _ x apart lt = (inl (λ same. omega (arith, same, lt)), tt)

pub effects_stay : (es : List EffectView) (script : ScriptView) (t : ℕ) (own : Priority) (log : List Event) (x : ℕ) → t ≢ x → x < tasks_of (root_count script) log → stage_of x (log_after (root_count script) t own log es) ≡ stage_of x log
effects_stay [] script t own log x apart lt = refl
effects_stay (e ∷ es) script t own log x apart lt =
    let roots = root_count script in
    let events = effect_events roots t own log e in
    let grows = effect_grows script t own log e in
    effects_stay es script t own (log ++ events) x apart (omega (arith, lt, grows)) ∙ stage_stays events x log (effect_silent roots t own log e x apart lt)

-- exits

wait_silent : (t x : ℕ) (awaited : TaskId) (o : Option Ending) → t ≢ x → AreSilent x (wait_events t awaited o) × AreIdle (wait_events t awaited o)
wait_silent t x awaited (Some e) apart = (tt, tt)
wait_silent t x awaited None apart = ((inl apart, tt), (refl, tt))

next_silent : (t x g : ℕ) (a : Answer) → t ≢ x → AreSilent x (next_events t g a) × AreIdle (next_events t g a)
next_silent t x g answer.Empty apart = (tt, tt)
next_silent t x g _ apart = ((inl apart, tt), (refl, tt))

close_silent : (t x g : ℕ) (f : Option Fault) → t ≢ x → AreSilent x (close_events t g f) × AreIdle (close_events t g f)
close_silent t x g None apart = ((inl apart, tt), (refl, tt))
close_silent t x g (Some f) apart = ((inl apart, (inl apart, tt)), (refl, (refl, tt)))

end_silent : (t x : ℕ) (s : Step) → t ≢ x → AreSilent x (end_events t s) × AreIdle (end_events t s)
end_silent t x (Ended e) apart = ((inl apart, tt), (refl, tt))
end_silent t x _ apart = (tt, tt)

exit_silent : (t : ℕ) (log : List Event) (exit : ExitView) (step : Step) (x : ℕ) → t ≢ x → AreSilent x (exit_events t log exit step) × AreIdle (exit_events t log exit step)
exit_silent t log (waiting name) step x apart = wait_silent t x (named_task t name log) (life_of (named_task t name log).0 log).ending apart
exit_silent t log (asking_next g) step x apart = next_silent t x g (next_of (group_of t g log)) apart
exit_silent t log (closing g f) step x apart = close_silent t x g f apart
exit_silent t log _ step x apart = end_silent t x step apart

pub exit_stays : (t : ℕ) (log : List Event) (exit : ExitView) (step : Step) (x : ℕ) → t ≢ x → stage_of x (log ++ exit_events t log exit step) ≡ stage_of x log
exit_stays t log exit step x apart = stage_stays (exit_events t log exit step) x log (exit_silent t log exit step x apart).0

next_number : (t : ℕ) → t ≢ t + 1
next_number t e = omega (arith, e)

pub exit_idle : (t roots : ℕ) (log : List Event) (exit : ExitView) (step : Step) → tasks_of roots (log ++ exit_events t log exit step) ≡ tasks_of roots log
exit_idle t roots log exit step = tasks_stay (exit_events t log exit step) roots log (exit_silent t log exit step (t + 1) (next_number t)).1

-- jobs that are given

pub gives_idle : (js : List JobFacts) → AreIdle (gives js)
gives_idle [] = tt
gives_idle (j ∷ js) = (refl, gives_idle js)

pub gives_silent : (js : List JobFacts) (x : ℕ) → times x js ≡ 0 → AreSilent x (gives js)
gives_silent [] x none = tt
gives_silent (j ∷ js) x none = (inl (λ same. (let own = one x j.task (sym same) in omega (arith, own, none))), gives_silent js x (omega (arith, none)))
