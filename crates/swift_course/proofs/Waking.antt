-- A task that goes on has one job, or waits.
use Rattle.swift_course.proofs.Prelude.{fresh, ◌≡◌, ◌≢◌, ℕ, zero, suc, ◌+◌, ◌≤◌, ◌==◌, Bool, true, false, List, [], ◌∷◌, ◌++◌, get_or, set, replicate, map, count_by, if◌then◌else◌, refl, ap, ◌∙◌, arith, inl, inr, Option, Some, None, is_some, AllByRecursion, cases_eq, TaskId, Ending, Resume, Go, Step, Run, Ended, Await, TaskView, Event, JobStage, Asks, Closes, life_of, group_of, parent_of, waiters_of, with_jobs, AfterTurn, WaitingTaskView, JobFacts, followed, resume_at, resume_of, wake, wake_all, wake_closing, wake_each, wake_owner, wake_parent, woken, is_for, one_if, waits}
use Rattle.swift_groups.specs.declared.answer.Close.{Close as Closing}
use Rattle.swift_groups.specs.declared.answer.Close.TheVariants as closing
use Rattle.swift_groups.specs.Close.{close_of}
use Rattle.swift_course.proofs.Lists.{count_cons, equal, no_one, one}

-- how many jobs are of this task
abbrev pub times : ℕ → List JobFacts → ℕ
times x [] = 0
times x (j ∷ js) = one_if (x == j.task) + times x js

pub times_append : (x : ℕ) (js ks : List JobFacts) → times x (js ++ ks) ≡ times x js + times x ks
times_append x [] ks = omega arith
times_append x (j ∷ js) ks = let r = times_append x js ks in omega arith

-- the tickets of new jobs
pub count_fresh : (x : ℕ) (js : List JobFacts) → count_by (is_for x) (map fresh js) ≡ times x js
count_fresh x [] = refl
count_fresh x (j ∷ js) = let r = count_fresh x js in omega (arith, r, count_cons x (fresh j) (map fresh js))

-- in how many ways a task can go on: by its jobs, and where it waits
abbrev pub ways_of : ℕ → AfterTurn → ℕ
ways_of x f = times x f.jobs + waits x f.held

abbrev Held : Type 0
Held = List (Option WaitingTaskView)

set_here : (hs : Held) (u : ℕ) → get_or (set hs u None) u None ≡ None
set_here (h ∷ hs) (suc u) = set_here hs u
set_here _ _ = refl

set_other : (hs : Held) (u x : ℕ) (o : Option WaitingTaskView) → x ≢ u → get_or (set hs u o) x None ≡ get_or hs x None
set_other (h ∷ hs) zero zero o apart = absurd (apart refl)
set_other (h ∷ hs) (suc u) (suc x) o apart = set_other hs u x o (λ e. apart (ap suc e))
set_other _ _ _ o apart = refl

pub room_waits : (hs : Held) (n x : ℕ) → get_or (hs ++ replicate n None) x None ≡ get_or hs x None
room_waits [] (suc n) (suc x) = room_waits [] n x
room_waits (h ∷ hs) n (suc x) = room_waits hs n x
room_waits _ _ _ = refl

-- a task is woken

woken_keeps : (u x : ℕ) (resume : Resume) (f : AfterTurn) (o : Option WaitingTaskView) → get_or f.held u None ≡ o → ways_of x (woken u resume f o) ≡ ways_of x f
woken_keeps u x resume f None is = refl
woken_keeps u x resume f (Some h) is =
    let j : JobFacts = record { task = u; number = h.number; resume = resume_at h.number resume; frames = h.frames } in
    let more = times_append x f.jobs (j ∷ []) in
    elim (cases_eq x u) [
      | inl same ↦
          let now : waits x (set f.held u None) ≡ 0 = ap (λ k. waits k (set f.held u None)) same ∙ ap (λ o. one_if (is_some o)) (set_here f.held u) in
          let was : waits x f.held ≡ 1 = ap (λ k. waits k f.held) same ∙ ap (λ o. one_if (is_some o)) is in
          omega (arith, more, one x u same, now, was)
      | inr apart ↦
          let now : waits x (set f.held u None) ≡ waits x f.held = ap (λ o. one_if (is_some o)) (set_other f.held u x None apart) in
          omega (arith, more, no_one x u apart, now)
    ]

wake_keeps : (u x : ℕ) (resume : Resume) (f : AfterTurn) → ways_of x (wake u resume f) ≡ ways_of x f
wake_keeps u x resume f = woken_keeps u x resume f (get_or f.held u None) refl

each_keeps : (us : List TaskId) (x : ℕ) (resume : Resume) (f : AfterTurn) → ways_of x (wake_each us resume f) ≡ ways_of x f
each_keeps [] x resume f = refl
each_keeps (u ∷ us) x resume f = each_keeps us x resume (wake u.0 resume f) ∙ wake_keeps u.0 x resume f

closing_keeps : (o x : ℕ) (c : Closing) (f : AfterTurn) → ways_of x (wake_closing o c f) ≡ ways_of x f
closing_keeps o x closing.Done f = wake_keeps o x Go f
closing_keeps o x closing.Wait f = refl

if_keeps : (b : Bool) (x : ℕ) (f g : AfterTurn) → ways_of x g ≡ ways_of x f → ways_of x (if b then g else f) ≡ ways_of x f
if_keeps true x f g is = is
if_keeps false x f g is = refl

owner_keeps : (o g x : ℕ) (e : Ending) (stage : Option JobStage) (log : List Event) (f : AfterTurn) → ways_of x (wake_owner o g e stage log f) ≡ ways_of x f
owner_keeps o g x e (Some (Asks asked)) log f = if_keeps (asked == g) x f (wake o (resume_of e) f) (wake_keeps o x (resume_of e) f)
owner_keeps o g x e (Some (Closes closed)) log f = if_keeps (closed == g) x f (wake_closing o (close_of (group_of o g log)) f) (closing_keeps o x (close_of (group_of o g log)) f)
owner_keeps o g x e _ log f = refl

parent_keeps : (p : Option (ℕ × ℕ)) (x : ℕ) (e : Ending) (log : List Event) (f : AfterTurn) → ways_of x (wake_parent p e log f) ≡ ways_of x f
parent_keeps None x e log f = refl
parent_keeps (Some p) x e log f = owner_keeps p.0 p.1 x e (life_of p.0 log).stage log f

all_keep : (t x : ℕ) (e : Ending) (log : List Event) (f : AfterTurn) → ways_of x (wake_all t e log f) ≡ ways_of x f
all_keep t x e log f = parent_keeps (parent_of t log) x e log (wake_each (waiters_of t log) (resume_of e) f) ∙ each_keeps (waiters_of t log) x (resume_of e) f

-- the task of a turn gets one way more at most

held_once : (t x : ℕ) (h : WaitingTaskView) (hs : Held) → waits x (set hs t (Some h)) ≤ waits x hs + one_if (x == t)
held_once t x h hs = elim (cases_eq x t) [
  | inl same ↦ let yes : one_if (x == t) ≡ 1 = one x t same in let le = most (is_some (get_or (set hs t (Some h)) x None)) in omega (arith, yes, le)
  | inr apart ↦ let now : waits x (set hs t (Some h)) ≡ waits x hs = ap (λ o. one_if (is_some o)) (set_other hs t x (Some h) apart) in omega (arith, now)
]
  where
    most : (b : Bool) → one_if b ≤ 1
    most true = omega arith
    most false = omega arith

pub followed_ways : (t n x : ℕ) (frames : TaskView) (resume : Option Resume) (step : Step) (log : List Event) (f : AfterTurn) → ways_of x (followed t n frames resume step log f) ≤ ways_of x f + one_if (x == t)
followed_ways t n x frames (Some resume) step log f =
    let j : JobFacts = record { task = t; number = n; resume = resume_at n resume; frames = frames } in
    let more = times_append x f.jobs (j ∷ []) in omega (arith, more)
followed_ways t n x frames None (Ended e) log f = let keeps = all_keep t x e log f in omega (arith, keeps)
followed_ways t n x frames None (Run actor resume) log f = let once = held_once t x (record { number = n; frames = frames }) f.held in omega (arith, once)
followed_ways t n x frames None Await log f = let once = held_once t x (record { number = n; frames = frames }) f.held in omega (arith, once)

-- jobs that are made

one_at : (b : Bool) (n : ℕ) → one_if b + n ≡ 0 → b ≡ false
one_at true n e = absurd (omega arith)
one_at false n e = refl

pub jobs_stay : (js : List JobFacts) (jobs : ℕ → Option JobFacts) (x : ℕ) → times x js ≡ 0 → with_jobs js jobs x ≡ jobs x
jobs_stay [] jobs x none = refl
jobs_stay (j ∷ js) jobs x none =
    jobs_stay js (λ u. if u == j.task then Some j else jobs u) x (omega arith) ∙ ap (λ b. if b then Some j else jobs x) (one_at (x == j.task) (times x js) none)

less : (j : JobFacts) (js : List JobFacts) → ((x : ℕ) → times x (j ∷ js) ≤ 1) → (x : ℕ) → times x js ≤ 1
less j js most x = let m = most x in omega arith

-- each job that is made is its task's, where no task is there twice
pub jobs_there : (js : List JobFacts) (jobs : ℕ → Option JobFacts) → ((x : ℕ) → times x js ≤ 1) → AllByRecursion (λ j. with_jobs js jobs j.task ≡ Some j) js
jobs_there [] jobs most = tt
jobs_there (j ∷ js) jobs most =
    let m = most j.task in
    let own = one j.task j.task refl in
    let next : ℕ → Option JobFacts = λ u. if u == j.task then Some j else jobs u in
    (jobs_stay js next j.task (omega arith) ∙ ap (λ b. if b then Some j else jobs j.task) (equal j.task j.task refl), jobs_there js next (less j js most))
