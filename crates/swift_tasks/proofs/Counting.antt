-- A turn's effects one by one: what fits the log before an effect fits the log after it.
use Rattle.swift_tasks.proofs.Prelude.{◌≡◌, ℕ, ◌+◌, ◌-◌, ◌≤◌, List, [], ◌∷◌, ◌++◌, length, refl, ◌∙◌, ap, arith, Bool, true, false, length-append, None, is_some, if◌then◌else◌, ◌&&◌, ◌==◌, ◌^◌, not, nat_lt, unwrap_or, nat_tests, append-nil, TASKS, TaskId, Priority, Background, ScriptView, root_count, EffectView, spawning, detaching, opening, adding, cancelling_task, cancelling_group, ExitView, calling, waiting, asking_next, closing, yielding, returning, failing, Event, Apply, Free, Open, Child, Skip, CancelTask, CancelGroup, tasks_of, life_of, own_in, own_tasks, opens, opened_by, reserved_of, tasks_of-push_made, tasks_of-push_other, own_tasks-push_none, own_tasks-push_same, opened_by-push_yes, opened_by-push_no, Counters, counters, can_run, can_name, can_use, fits_effect, fits_exit, fits_turn, counted, task, named_task, effect_events, is_left_out, CanName, CanTake, CanLeave}
use Rattle.swift_interpreter.specs.declared.effect.TaskName.{TaskName}
use Rattle.swift_interpreter.specs.declared.effect.TaskName.TheVariants.{Root as RootName, Own}
use Rattle.swift_tasks.proofs.Fitting.{left, right, less}
use Rattle.swift_tasks.proofs.Grows.{Stays, stays_push}

both : (a b : Bool) → a ≡ true → b ≡ true → (a && b) ≡ true
both true b p q = q
both false b p q = p

itself : (n : ℕ) → (n == n) ≡ true
itself n = grind (arith, nat_tests)

abbrev counts : ℕ → ℕ → ℕ → Counters
counts own opened room = record { own = own; opened = opened; room = room }

same_counters : (own own' opened opened' room : ℕ) → own ≡ own' → opened ≡ opened' → counts own opened room ≡ counts own' opened' room
same_counters own own' opened opened' room p q = ap (λ (k : ℕ). counts k opened room) p ∙ ap (λ (k : ℕ). counts own' k room) q

-- an event that makes no task of this one's own, and opens none of its groups
uncounted : (t : ℕ) (log : List Event) (e : Event) (room : ℕ) → own_in t e ≡ None → opens t e ≡ false → counters t (log ++ e ∷ []) room ≡ counters t log room
uncounted t log e room own opened = same_counters _ _ _ _ room (ap length (own_tasks-push_none t log e own)) (opened_by-push_no t log e opened)

-- an event that makes one
made_own : (t : ℕ) (made : TaskId) (p : Priority) (detached : Bool) (log : List Event) (room : ℕ) → counters t (log ++ Free made (task t) p detached ∷ []) room ≡ record { own = length (own_tasks t log) + 1; opened = opened_by t log; room = room }
made_own t made p detached log room =
    same_counters _ _ _ _ room (ap length (own_tasks-push_same made (task t) p detached log) ∙ length-append (own_tasks t log) (made ∷ [])) (opened_by-push_no t log (Free made (task t) p detached) refl)

if_uncounted : (t : ℕ) (log es fs : List Event) (room : ℕ) (b : Bool) → counters t (log ++ es) room ≡ counters t log room → counters t (log ++ fs) room ≡ counters t log room → counters t (log ++ (if b then es else fs)) room ≡ counters t log room
if_uncounted t log es fs room true p q = p
if_uncounted t log es fs room false p q = q

-- after an effect the counters are those that the log gives
pub counters_step : (roots t : ℕ) (own : Priority) (log : List Event) (room : ℕ) (e : EffectView) → counters t (log ++ effect_events roots t own log e) (counted (counters t log room) e).room ≡ counted (counters t log room) e
counters_step roots t own log room (spawning i p bindings) = made_own t (task (tasks_of roots log)) (unwrap_or p own) false log (room - 1)
counters_step roots t own log room (detaching i p) = made_own t (task (tasks_of roots log)) p true log (room - 1)
counters_step roots t own log room opening =
    same_counters _ _ _ _ room (ap length (own_tasks-push_none t log (Open (task t) (opened_by t log)) refl)) (opened_by-push_yes t log (Open (task t) (opened_by t log)) (itself t))
counters_step roots t own log room (adding g unless i p bindings) =
    if_uncounted t log (Skip (task t) g ∷ []) (Child (task (tasks_of roots log)) (task t) g (unwrap_or p Background) ∷ []) (room - 1) (is_left_out t g unless log)
    (uncounted t log (Skip (task t) g) (room - 1) refl refl)
    (uncounted t log (Child (task (tasks_of roots log)) (task t) g (unwrap_or p Background)) (room - 1) refl refl)
counters_step roots t own log room (cancelling_task name) =
    if_uncounted t log [] (CancelTask (named_task t name log) ∷ []) room (is_some (life_of (named_task t name log).0 log).ending)
    (ap (λ (l : List Event). counters t l room) (append-nil log))
    (uncounted t log (CancelTask (named_task t name log)) room refl refl)
counters_step roots t own log room (cancelling_group g) = uncounted t log (CancelGroup (task t) g) room refl refl

if_tasks : (roots n : ℕ) (log es fs : List Event) (b : Bool) → tasks_of roots (log ++ es) ≤ n → tasks_of roots (log ++ fs) ≤ n → tasks_of roots (log ++ (if b then es else fs)) ≤ n
if_tasks roots n log es fs true p q = p
if_tasks roots n log es fs false p q = q

-- the tasks that an effect makes are taken off the room
pub room_step : (roots t : ℕ) (own : Priority) (script : ScriptView) (log : List Event) (room : ℕ) (e : EffectView) → fits_effect script t log (counters t log room) e ≡ true
    → tasks_of roots (log ++ effect_events roots t own log e) + (counted (counters t log room) e).room ≤ tasks_of roots log + room
room_step roots t own script log room (spawning i p bindings) fits =
    let lt = less 0 room (left (nat_lt 0 room) (can_run script i) fits) in
    let more = tasks_of-push_made roots log (Free (task (tasks_of roots log)) (task t) (unwrap_or p own) false) refl in
    omega (arith, lt, more)
room_step roots t own script log room (detaching i p) fits =
    let lt = less 0 room (left (nat_lt 0 room) (can_run script i) fits) in
    let more = tasks_of-push_made roots log (Free (task (tasks_of roots log)) (task t) p true) refl in
    omega (arith, lt, more)
room_step roots t own script log room opening fits = let same = tasks_of-push_other roots log (Open (task t) (opened_by t log)) refl in omega (arith, same)
room_step roots t own script log room (adding g unless i p bindings) fits =
    let lt = less 0 room (left (nat_lt 0 room) (can_use t log (counters t log room) g && can_run script i) fits) in
    let skip = tasks_of-push_other roots log (Skip (task t) g) refl in
    let child = tasks_of-push_made roots log (Child (task (tasks_of roots log)) (task t) g (unwrap_or p Background)) refl in
    let few = if_tasks roots (tasks_of roots log + 1) log (Skip (task t) g ∷ []) (Child (task (tasks_of roots log)) (task t) g (unwrap_or p Background) ∷ []) (is_left_out t g unless log) (omega (arith, skip)) (omega (arith, child)) in
    omega (arith, lt, few)
room_step roots t own script log room (cancelling_task name) fits =
    let none : tasks_of roots (log ++ []) ≡ tasks_of roots log = ap (tasks_of roots) (append-nil log) in
    let one = tasks_of-push_other roots log (CancelTask (named_task t name log)) refl in
    let few = if_tasks roots (tasks_of roots log) log [] (CancelTask (named_task t name log) ∷ []) (is_some (life_of (named_task t name log).0 log).ending) (omega (arith, none)) (omega (arith, one)) in
    omega (arith, few)
room_step roots t own script log room (cancelling_group g) fits = let same = tasks_of-push_other roots log (CancelGroup (task t) g) refl in omega (arith, same)

-- what is named is there
can_name_is : (script : ScriptView) (t : ℕ) (log : List Event) (room : ℕ) (name : TaskName) → can_name script log (counters t log room) name ≡ true → CanName t log name
can_name_is script t log room (RootName r) fits = right (nat_lt r.0 (root_count script)) (is_some (life_of r.0 log).origin) fits
can_name_is script t log room (Own k) fits = less k (length (own_tasks t log)) fits

-- an effect that fits may take place
pub can_take : (roots t : ℕ) (script : ScriptView) (log : List Event) (room : ℕ) (e : EffectView) → fits_effect script t log (counters t log room) e ≡ true → tasks_of roots log + reserved_of roots log + room ≤ TASKS → CanTake roots t log e
can_take roots t script log room (spawning i p bindings) fits le = let lt = less 0 room (left (nat_lt 0 room) (can_run script i) fits) in omega (arith, lt, le)
can_take roots t script log room (detaching i p) fits le = let lt = less 0 room (left (nat_lt 0 room) (can_run script i) fits) in omega (arith, lt, le)
can_take roots t script log room opening fits le = less (opened_by t log) (2 ^ 32) fits
can_take roots t script log room (adding g unless i p bindings) fits le =
    let lt = less 0 room (left (nat_lt 0 room) (can_use t log (counters t log room) g && can_run script i) fits) in
    (left (can_use t log (counters t log room) g) (can_run script i) (right (nat_lt 0 room) (can_use t log (counters t log room) g && can_run script i) fits), omega (arith, lt, le))
can_take roots t script log room (cancelling_task name) fits le = can_name_is script t log room name fits
can_take roots t script log room (cancelling_group g) fits le = fits

-- an exit that fits can be followed
pub can_leave : (t : ℕ) (script : ScriptView) (log : List Event) (room : ℕ) (exit : ExitView) → fits_exit script t log (counters t log room) exit ≡ true → CanLeave t log exit
can_leave t script log room (calling i) fits = tt
can_leave t script log room (waiting name) fits = can_name_is script t log room name fits
can_leave t script log room (asking_next g) fits = fits
can_leave t script log room (closing g f) fits = fits
can_leave t script log room yielding fits = tt
can_leave t script log room (returning v) fits = tt
can_leave t script log room (failing f) fits = tt

use_on : (t : ℕ) (log log' : List Event) (c : Counters) (g : ℕ) → Stays log log' → can_use t log c g ≡ true → can_use t log' c g ≡ true
use_on t log log' c g stays fits = ap (λ (b : Bool). nat_lt g c.opened && not b) (stays.closed t g) ∙ fits

name_on : (script : ScriptView) (log log' : List Event) (c : Counters) (name : TaskName) → Stays log log' → can_name script log c name ≡ true → can_name script log' c name ≡ true
name_on script log log' c (RootName r) stays fits =
    both (nat_lt r.0 (root_count script)) (is_some (life_of r.0 log').origin) (left (nat_lt r.0 (root_count script)) (is_some (life_of r.0 log).origin) fits) (stays.made r.0 (right (nat_lt r.0 (root_count script)) (is_some (life_of r.0 log).origin) fits))
name_on script log log' c (Own k) stays fits = fits

effect_on : (script : ScriptView) (t : ℕ) (log log' : List Event) (c : Counters) (e : EffectView) → Stays log log' → fits_effect script t log c e ≡ true → fits_effect script t log' c e ≡ true
effect_on script t log log' c (spawning i p bindings) stays fits = fits
effect_on script t log log' c (detaching i p) stays fits = fits
effect_on script t log log' c opening stays fits = fits
effect_on script t log log' c (adding g unless i p bindings) stays fits =
    let used = right (nat_lt 0 c.room) (can_use t log c g && can_run script i) fits in
    both (nat_lt 0 c.room) (can_use t log' c g && can_run script i) (left (nat_lt 0 c.room) (can_use t log c g && can_run script i) fits)
    (both (can_use t log' c g) (can_run script i) (use_on t log log' c g stays (left (can_use t log c g) (can_run script i) used)) (right (can_use t log c g) (can_run script i) used))
effect_on script t log log' c (cancelling_task name) stays fits = name_on script log log' c name stays fits
effect_on script t log log' c (cancelling_group g) stays fits = use_on t log log' c g stays fits

exit_on : (script : ScriptView) (t : ℕ) (log log' : List Event) (c : Counters) (exit : ExitView) → Stays log log' → fits_exit script t log c exit ≡ true → fits_exit script t log' c exit ≡ true
exit_on script t log log' c (calling i) stays fits = fits
exit_on script t log log' c (waiting name) stays fits = name_on script log log' c name stays fits
exit_on script t log log' c (asking_next g) stays fits = use_on t log log' c g stays fits
exit_on script t log log' c (closing g f) stays fits = use_on t log log' c g stays fits
exit_on script t log log' c yielding stays fits = fits
exit_on script t log log' c (returning v) stays fits = fits
exit_on script t log log' c (failing f) stays fits = fits

-- what fits a log fits one in which what was made and which groups are closed stays
pub fits_on : (script : ScriptView) (t : ℕ) (log log' : List Event) (c : Counters) (es : List EffectView) (exit : ExitView) → Stays log log' → fits_turn script t log c es exit ≡ true → fits_turn script t log' c es exit ≡ true
fits_on script t log log' c [] exit stays fits = exit_on script t log log' c exit stays fits
fits_on script t log log' c (e ∷ es) exit stays fits =
    both (fits_effect script t log' c e) (fits_turn script t log' (counted c e) es exit)
    (effect_on script t log log' c e stays (left (fits_effect script t log c e) (fits_turn script t log (counted c e) es exit) fits))
    (fits_on script t log log' (counted c e) es exit stays (right (fits_effect script t log c e) (fits_turn script t log (counted c e) es exit) fits))

-- once a turn is applied its effects fit the log as they did before
pub fits_applied : (script : ScriptView) (t n : ℕ) (log : List Event) (room : ℕ) (es : List EffectView) (exit : ExitView) → fits_turn script t log (counters t log room) es exit ≡ true
    → fits_turn script t (log ++ Apply (task t) n ∷ []) (counters t (log ++ Apply (task t) n ∷ []) room) es exit ≡ true
fits_applied script t n log room es exit fits =
    ap (λ (c : Counters). fits_turn script t (log ++ Apply (task t) n ∷ []) c es exit) (uncounted t log (Apply (task t) n) room refl refl) ∙ fits_on script t log (log ++ Apply (task t) n ∷ []) (counters t log room) es exit (stays_push log (Apply (task t) n) (λ o g. refl)) fits
