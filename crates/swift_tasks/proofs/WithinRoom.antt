-- A run stays within its room as events are noted.
use Rattle.swift_tasks.proofs.Prelude.{◌≡◌, ◌≢◌, ℕ, ◌+◌, ◌<◌, ◌≤◌, List, [], ◌∷◌, ◌++◌, refl, sym, ◌∙◌, ap, subst, inl, inr, arith, true, false, append_assoc, is_some, cases_lt, false≢true, append-nil, TASKS, TaskId, Env, Event, Root, Begin, Apply, Free, Open, Child, Skip, CancelTask, CancelGroup, Wait, Next, Close, End, Give, Life, task_of, events_of, is_made, tasks_of, life_of, lived, room_held, unborn, reserved_of, life_of-push_same, unborn_without, events_of-push_other, none_beyond, tasks_of-push_made, tasks_of-push_other, reserved_of-push, reserved_of-push_made, sum_of_none, CanNote, IsMade, CanNoteAll}

record Within (roots : ℕ) (log : List Event) : Type 0 where
  few : tasks_of roots log + reserved_of roots log ≤ TASKS
  known : (t : ℕ) → tasks_of roots log ≤ t → events_of t log ≡ []

-- a task that was made has a number that is taken
taken : (roots : ℕ) (log : List Event) (t : TaskId) → Within roots log → IsMade log t → t.0 < tasks_of roots log
taken roots log t w made = elim (cases_lt t.0 (tasks_of roots log)) [
  | inl lt ↦ lt
  | inr le ↦ absurd (false≢true (sym (ap (λ (l : Life). is_some l.origin) (unborn_without t.0 log (w.known t.0 le))) ∙ made))
]

-- an event that reserves no more
plain : (roots : ℕ) (log : List Event) (e : Event) → is_made e ≡ false → task_of e < tasks_of roots log → room_held (lived (life_of (task_of e) log) e) ≤ room_held (life_of (task_of e) log) → Within roots log → Within roots (log ++ e ∷ [])
plain roots log e unmade lt less w =
    let tasks = tasks_of-push_other roots log e unmade in
    let rooms = reserved_of-push roots log e unmade lt in
    let life = ap room_held (life_of-push_same (task_of e) log e refl) in
    record {
      few = omega (arith, w.few, tasks, rooms, life, less);
      known = λ t le. none_beyond (tasks_of roots log) log e lt w.known t (omega (arith, tasks, le));
    }

-- an event that makes a task
made : (roots : ℕ) (log : List Event) (e : Event) → is_made e ≡ true → task_of e ≡ tasks_of roots log → tasks_of roots log + reserved_of roots log < TASKS → room_held (lived unborn e) ≡ 0 → Within roots log → Within roots (log ++ e ∷ [])
made roots log e is at room none w =
    let tasks = tasks_of-push_made roots log e is in
    let rooms = reserved_of-push_made roots log e is at (w.known (tasks_of roots log) (omega arith)) in
    record {
      few = omega (arith, room, tasks, rooms, none);
      known = λ t le. (let ne : task_of e ≢ t = omega (arith, at, tasks, le) in let low : tasks_of roots log ≤ t = omega (arith, tasks, le) in events_of-push_other t log e ne ∙ w.known t low);
    }

-- a turn begins
begins : (roots : ℕ) (log : List Event) (t : TaskId) (n : ℕ) (env : Env) → CanNote roots log (Begin t n env) → Within roots log → Within roots (log ++ Begin t n env ∷ [])
begins roots log t n env can w =
    let e : Event = Begin t n env in
    let lt : t.0 < tasks_of roots log = taken roots log t w can.0 in
    let fits = can.1 in
    let tasks = tasks_of-push_other roots log e refl in
    let rooms = reserved_of-push roots log e refl lt in
    let life = ap room_held (life_of-push_same t.0 log e refl) in
    record {
      few = omega (arith, fits, tasks, rooms, life);
      known = λ u le. none_beyond (tasks_of roots log) log e lt w.known u (omega (arith, tasks, le));
    }

pushes : (roots : ℕ) (log : List Event) (e : Event) → CanNote roots log e → Within roots log → Within roots (log ++ e ∷ [])
pushes roots log (Root t p) can w = plain roots log (Root t p) refl (let less = can.0 in omega (arith, less)) (omega arith) w
pushes roots log (Begin t n env) can w = begins roots log t n env can w
pushes roots log (Apply t n) can w = plain roots log (Apply t n) refl (taken roots log t w can) (omega arith) w
pushes roots log (Free t by p detached) can w = made roots log (Free t by p detached) refl can.0 can.2 refl w
pushes roots log (Open o g) can w = plain roots log (Open o g) refl (taken roots log o w can.0) (omega arith) w
pushes roots log (Child t o g p) can w = made roots log (Child t o g p) refl can.0 can.3 refl w
pushes roots log (Skip o g) can w = plain roots log (Skip o g) refl (taken roots log o w can) (omega arith) w
pushes roots log (CancelTask t) can w = plain roots log (CancelTask t) refl (taken roots log t w can) (omega arith) w
pushes roots log (CancelGroup o g) can w = plain roots log (CancelGroup o g) refl (taken roots log o w can.0) (omega arith) w
pushes roots log (Wait t awaited) can w = plain roots log (Wait t awaited) refl (taken roots log t w can.0) (omega arith) w
pushes roots log (Next o g) can w = plain roots log (Next o g) refl (taken roots log o w can.0) (omega arith) w
pushes roots log (Close o g) can w = plain roots log (Close o g) refl (taken roots log o w can.0) (omega arith) w
pushes roots log (End t ending) can w = plain roots log (End t ending) refl (taken roots log t w can.0) (omega arith) w
pushes roots log (Give t n resume) can w = plain roots log (Give t n resume) refl (taken roots log t w can) (omega arith) w

all_push : (roots : ℕ) (log more : List Event) → CanNoteAll roots log more → Within roots log → Within roots (log ++ more)
all_push roots log [] all w = subst (λ (l : List Event). Within roots l) (sym (append-nil log)) w
all_push roots log (e ∷ es) all w = subst (λ (l : List Event). Within roots l) (append_assoc log (e ∷ []) es) (all_push roots (log ++ e ∷ []) es all.1 (pushes roots log e all.0 w))

pub within : (roots : ℕ) (log : List Event) → roots ≤ TASKS → CanNoteAll roots [] log → tasks_of roots log + reserved_of roots log ≤ TASKS
within roots log le all =
    let none = sum_of_none room_held refl (tasks_of roots []) in
    (all_push roots [] log all (record { few = omega (arith, le, none); known = λ t _. refl })).few
