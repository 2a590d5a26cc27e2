-- What the end of a turn keeps.
use Rattle.swift_tasks.proofs.Prelude.{◌≡◌, ◌≢◌, ℕ, ◌+◌, ◌<◌, ◌≤◌, List, [], ◌∷◌, ◌++◌, length, get_or, replicate, refl, sym, ◌∙◌, ap, arith, Bool, true, false, inl, inr, subst, append_assoc, length-append, get_or-set_same, get_or-set_other, length-set, zero, suc, Option, Some, None, is_some, is_none, ◌&&◌, ◌||◌, ◌==◌, not, nat_lt, slice_index_or, slice_set, IsTrue, cons_option, cases_eq, cases_lt, false≢true, append-nil, length-replicate, TaskId, Resume, Ending, Empty, Priority, Env, close_of, ScriptView, root_count, EffectView, ExitView, calling, waiting, asking_next, yielding, returning, failing, Step, Run, Ended, Await, BodyView, TaskView, Event, Apply, CancelGroup, Wait, Next, Close, End, Life, JobStage, Begun, Waits, Asks, Closes, task_of, is_made, tasks_of, later, life_of, lived, is_open, is_waiting, waits_at, stage_in, opened_by, closes, is_closed, is_open_group, group_of, waiter_in, waiters_of, life_of-push_same, life_of-push_other, tasks_of-push_other, is_closed-push, opened_by-push, waiters_of-push, begun_priority, JobFacts, WaitingTaskView, AfterTurn, task, named_task, wait_events, wait_resume, next_events, next_resume, close_events, close_resume, end_events, step_resume, exit_events, exit_resume, wake_all, followed, gives, jobs_made, log_after, resume_at, resume_of, AreMade, CanLeave, StepFits, TurnLeaves, done_log, HoldsWaiting, UnopenedAreNotClosed}
use Rattle.swift_types.specs.declared.outcome.Fault.{Fault}
use Rattle.swift_types.specs.declared.outcome.Resume.TheVariants.{Fault as Raise}
use Rattle.swift_groups.specs.declared.answer.NextResult.{NextResult as Answer}
use Rattle.swift_groups.specs.declared.answer.NextResult.TheVariants as answer
use Rattle.swift_groups.specs.declared.answer.Close.{Close as Closing}
use Rattle.swift_groups.specs.declared.answer.Close.TheVariants as closing
use Rattle.swift_groups.specs.Next.{next_of}
use Rattle.swift_interpreter.specs.Turn.{closing as closing_group}
use Rattle.swift_tasks.proofs.Fitting.{left, right, less}
use Rattle.swift_tasks.proofs.Grows.{Grows, open_stays, stage-push, ending-push, made-push, grows_cancel_group, effects_grow}
use Rattle.swift_tasks.proofs.Pushes.{LeavesWaits, holds_push, closed_push}
use Rattle.swift_tasks.proofs.JobsGiven.{among, AreNew, among-append, equal, unequal, made-append, made_on, effects_new, gives_wait, gives_open, gives_tasks, gives_closed, and_false}
use Rattle.swift_tasks.proofs.WakesKept.{IsKept, WaitersAreMade, wake_all_kept}

-- How an exit leaves its task: it goes on, or has ended, or waits.
abbrev Leaves : ℕ → List Event → List Event → Option Resume → Step → Type 0
Leaves t log log' (Some resume) step = Unit {0}
Leaves t log log' None (Ended e) = (life_of t log').stage ≡ (life_of t log).stage
Leaves t log log' None _ = (is_waiting (life_of t log') ≡ true) × ((life_of t log').ending ≡ (life_of t log).ending)

-- what an exit leaves of the log
pub record Left (roots t : ℕ) (log log' : List Event) (resume : Option Resume) (step : Step) : Type 0 where
  pub made : (u : ℕ) → is_some (life_of u log).origin ≡ true → is_some (life_of u log').origin ≡ true
  pub others : (u : ℕ) → u ≢ t → life_of u log' ≡ life_of u log
  pub tasks : tasks_of roots log' ≡ tasks_of roots log
  pub closed : UnopenedAreNotClosed log → UnopenedAreNotClosed log'
  pub waiters : length (waiters_of t log') ≤ length (waiters_of t log) + 1
  pub leaves : Leaves t log log' resume step

few_one : {A : Type 0} (o : Option A) → length (cons_option o []) ≤ 1
few_one None = omega arith
few_one (Some x) = omega arith

few_waiters : (t : ℕ) (log : List Event) (e : Event) → length (waiters_of t (log ++ e ∷ [])) ≤ length (waiters_of t log) + 1
few_waiters t log e =
    let is = ap length (waiters_of-push t log e) in
    let sum = length-append (waiters_of t log) (cons_option (waiter_in t e) []) in
    let few = few_one (waiter_in t e) in
    omega (arith, is, sum, few)

-- nothing is written, and the task goes on
goes_on : (roots t : ℕ) (log : List Event) (resume : Resume) (step : Step) → Left roots t log (log ++ []) (Some resume) step
goes_on roots t log resume step = subst (λ (l : List Event). Left roots t log l (Some resume) step) (sym (append-nil log)) (record {
  made = λ u h. h;
  others = λ u ne. refl;
  tasks = refl;
  closed = λ c. c;
  waiters = omega arith;
  leaves = tt;
})

-- one event of the task is written
one_event : (roots t : ℕ) (log : List Event) (e : Event) (resume : Option Resume) (step : Step) → task_of e ≡ t → is_made e ≡ false → (UnopenedAreNotClosed log → UnopenedAreNotClosed (log ++ e ∷ [])) → Leaves t log (log ++ e ∷ []) resume step → Left roots t log (log ++ e ∷ []) resume step
one_event roots t log e resume step at unmade closed leaves = record {
  made = λ u h. made-push u log e h;
  others = λ u ne. life_of-push_other u log e (λ q. ne (sym q ∙ at));
  tasks = tasks_of-push_other roots log e unmade;
  closed = closed;
  waiters = few_waiters t log e;
  leaves = leaves;
}

-- an event by which a task waits
stage_at : (t : ℕ) (log : List Event) (e : Event) (s : JobStage) → task_of e ≡ t → stage_in e ≡ Some s → (life_of t (log ++ e ∷ [])).stage ≡ Some s
stage_at t log e s at is = ap (λ (l : Life). l.stage) (life_of-push_same t log e at) ∙ ap (λ (o : Option JobStage). later o (life_of t log).stage) is

wait_left : (roots t : ℕ) (log : List Event) (awaited : TaskId) (o : Option Ending) → Left roots t log (log ++ wait_events t awaited o) (wait_resume o) Await
wait_left roots t log awaited (Some e) = goes_on roots t log (resume_of e) Await
wait_left roots t log awaited None =
    one_event roots t log (Wait (task t) awaited) None Await refl refl (closed_push (Wait (task t) awaited) (λ o g. refl))
    (ap waits_at (stage_at t log (Wait (task t) awaited) (Waits awaited) refl refl), ending-push t log (Wait (task t) awaited) refl)

next_left : (roots t : ℕ) (log : List Event) (g : ℕ) (a : Answer) → Left roots t log (log ++ next_events t g a) (next_resume a) Await
next_left roots t log g answer.Empty = goes_on roots t log (Raise Empty) Await
next_left roots t log g (answer.Result child e) = one_event roots t log (Next (task t) g) (Some (resume_of e)) Await refl refl (closed_push (Next (task t) g) (λ o k. refl)) tt
next_left roots t log g answer.Wait =
    one_event roots t log (Next (task t) g) None Await refl refl (closed_push (Next (task t) g) (λ o k. refl))
    (ap waits_at (stage_at t log (Next (task t) g) (Asks g) refl refl), ending-push t log (Next (task t) g) refl)

-- only an open group is closed
close_closed : (t g : ℕ) (log : List Event) → IsTrue (is_open_group t g log) → UnopenedAreNotClosed log → UnopenedAreNotClosed (log ++ Close (task t) g ∷ [])
close_closed t g log was closed = record {
  at = λ o k le.
      (let more = opened_by-push o log (Close (task t) g) in
      let low : opened_by o log ≤ k = omega (arith, le, more) in
      let lt = less g (opened_by t log) (left (nat_lt g (opened_by t log)) (not (is_closed t g log)) was) in
      is_closed-push o k log (Close (task t) g) ∙ ap (λ (b : Bool). b || closes o k (Close (task t) g)) (closed.at o k low) ∙ not_this t g o k log lt low);
}
  where
    not_this : (t g o k : ℕ) (log : List Event) → g < opened_by t log → opened_by o log ≤ k → closes o k (Close (task t) g) ≡ false
    not_this t g o k log lt low = elim (cases_eq t o) [
      | inl eq ↦ (let ne : g ≢ k = (let of : opened_by t log ≡ opened_by o log = ap (λ (n : ℕ). opened_by n log) eq in omega (arith, lt, low, of)) in
          ap (λ (b : Bool). (t == o) && b) (unequal g k ne) ∙ and_false (t == o))
      | inr ne ↦ ap (λ (b : Bool). b && (g == k)) (unequal t o ne)
    ]

closing_leaves : (t g : ℕ) (log log' : List Event) (c : Closing) → (is_waiting (life_of t log') ≡ true) → (life_of t log').ending ≡ (life_of t log).ending → Leaves t log log' (close_resume c) Await
closing_leaves t g log log' closing.Done waits same = tt
closing_leaves t g log log' closing.Wait waits same = (waits, same)

close_left : (roots t : ℕ) (log : List Event) (g : ℕ) (f : Option Fault) (c : Closing) → IsTrue (is_open_group t g log) → Left roots t log (log ++ close_events t g f) (close_resume c) Await
close_left roots t log g None c was =
    one_event roots t log (Close (task t) g) (close_resume c) Await refl refl (close_closed t g log was)
    (closing_leaves t g log (log ++ Close (task t) g ∷ []) c (ap waits_at (stage_at t log (Close (task t) g) (Closes g) refl refl)) (ending-push t log (Close (task t) g) refl))
close_left roots t log g (Some f) c was =
    let e : Event = CancelGroup (task t) g in
    let mid : List Event = log ++ e ∷ [] in
    let grows : Grows roots log mid = grows_cancel_group roots log (task t) g in
    let still : IsTrue (is_open_group t g mid) = open_stays roots t g log mid grows was in
    let last : Left roots t mid (mid ++ Close (task t) g ∷ []) (close_resume c) Await =
    one_event roots t mid (Close (task t) g) (close_resume c) Await refl refl (close_closed t g mid still)
    (closing_leaves t g mid (mid ++ Close (task t) g ∷ []) c (ap waits_at (stage_at t mid (Close (task t) g) (Closes g) refl refl)) (ending-push t mid (Close (task t) g) refl)) in
    subst (λ (l : List Event). Left roots t log l (close_resume c) Await) (append_assoc log (e ∷ []) (Close (task t) g ∷ [])) (record {
      made = λ u h. last.made u (made-push u log e h);
      others = λ u ne. last.others u ne ∙ life_of-push_other u log e (λ q. ne (sym q));
      tasks = last.tasks ∙ tasks_of-push_other roots log e refl;
      closed = λ k. last.closed (closed_push e (λ o n. refl) k);
      waiters = (let few = last.waiters in let same = ap length (grows.waiters t) in omega (arith, few, same));
      leaves = leaves_on t log mid (mid ++ Close (task t) g ∷ []) (close_resume c) (grows.ending t) last.leaves;
    })
  where
    leaves_on : (t : ℕ) (a b l : List Event) (r : Option Resume) → (life_of t b).ending ≡ (life_of t a).ending → Leaves t b l r Await → Leaves t a l r Await
    leaves_on t a b l (Some r) same h = tt
    leaves_on t a b l None same h = (h.0, h.1 ∙ same)

end_left : (roots t : ℕ) (log : List Event) (step : Step) → (step ≡ Await → ⊥) → Left roots t log (log ++ end_events t step) (step_resume step) step
end_left roots t log (Run actor resume) goes = goes_on roots t log resume (Run actor resume)
end_left roots t log (Ended e) goes = one_event roots t log (End (task t) e) None (Ended e) refl refl (closed_push (End (task t) e) (λ o g. refl)) (stage-push t log (End (task t) e) refl)
end_left roots t log Await goes = absurd (goes refl)

-- an exit leaves the log so
pub exit_left : (roots t : ℕ) (log : List Event) (exit : ExitView) (step : Step) → CanLeave t log exit → StepFits exit step → Left roots t log (log ++ exit_events t log exit step) (exit_resume t log exit step) step
exit_left roots t log (waiting name) step can fits = subst (λ (s : Step). Left roots t log (log ++ exit_events t log (waiting name) step) (exit_resume t log (waiting name) step) s) (sym fits) (wait_left roots t log (named_task t name log) (life_of (named_task t name log).0 log).ending)
exit_left roots t log (asking_next g) step can fits = subst (λ (s : Step). Left roots t log (log ++ exit_events t log (asking_next g) step) (exit_resume t log (asking_next g) step) s) (sym fits) (next_left roots t log g (next_of (group_of t g log)))
exit_left roots t log (closing_group g f) step can fits = subst (λ (s : Step). Left roots t log (log ++ exit_events t log (closing_group g f) step) (exit_resume t log (closing_group g f) step) s) (sym fits) (close_left roots t log g f (close_of (group_of t g log)) can)
exit_left roots t log (calling i) step can fits = end_left roots t log step fits
exit_left roots t log yielding step can fits = end_left roots t log step fits
exit_left roots t log (returning v) step can fits = end_left roots t log step fits
exit_left roots t log (failing f) step can fits = end_left roots t log step fits

-- before an exit is followed: which tasks are held, and which jobs were made
record Middle (roots t : ℕ) (log : List Event) (f : AfterTurn) : Type 0 where
  kept : IsKept (tasks_of roots log) log f
  alive : (u : ℕ) → is_waiting (life_of u log) ≡ true → is_open (life_of u log) ≡ true
  rests : is_waiting (life_of t log) ≡ false
  mine : is_open (life_of t log) ≡ true
  low : among t f.jobs ≡ false
  there : t < length f.held
  closed : UnopenedAreNotClosed log

-- after an exit was followed
pub record Followed (roots : ℕ) (log : List Event) (f : AfterTurn) : Type 0 where
  pub holds : HoldsWaiting roots (log ++ gives f.jobs) f.held
  pub closed : UnopenedAreNotClosed (log ++ gives f.jobs)
  pub made : AreMade log f.jobs

open_made : (l : Life) → is_open l ≡ true → is_some l.origin ≡ true
open_made l h = left (is_some l.origin) (is_none l.ending) h

-- jobs are written, where each task that is held waits and has no job, and each that waits and has none is open
given : (roots : ℕ) (log : List Event) (f : AfterTurn) → UnopenedAreNotClosed log → IsKept (tasks_of roots log) log f → ((u : ℕ) → among u f.jobs ≡ false → is_waiting (life_of u log) ≡ true → is_open (life_of u log) ≡ true) → Followed roots log f
given roots log f closed kept alive = record {
  holds = record {
    size = kept.size ∙ sym (gives_tasks roots f.jobs log);
    waits = λ u. kept.waits u ∙ sym (gives_wait u f.jobs log);
    alive = λ u w. (let both = sym (gives_wait u f.jobs log) ∙ w in
        gives_open u f.jobs log ∙ alive u (is_not (among u f.jobs) (is_waiting (life_of u log)) both) (right (not (among u f.jobs)) (is_waiting (life_of u log)) both));
  };
  closed = gives_closed f.jobs log closed;
  made = kept.made;
}
  where
    is_not : (a b : Bool) → (not a && b) ≡ true → a ≡ false
    is_not true b h = absurd (false≢true h)
    is_not false b h = refl

mid_alive : {roots t : ℕ} {log log' : List Event} {resume : Option Resume} {step : Step} {f : AfterTurn} → Middle roots t log f → Left roots t log log' resume step → (u : ℕ) → u ≢ t → is_waiting (life_of u log') ≡ true → is_open (life_of u log') ≡ true
mid_alive m l u ne w = ap is_open (l.others u ne) ∙ m.alive u (sym (ap is_waiting (l.others u ne)) ∙ w)

-- a task that is not this one is held as before
mid_waits : {roots t : ℕ} {log log' : List Event} {resume : Option Resume} {step : Step} {f : AfterTurn} → Middle roots t log f → Left roots t log log' resume step → (u : ℕ) → u ≢ t → is_some (slice_index_or f.held u None) ≡ (not (among u f.jobs) && is_waiting (life_of u log'))
mid_waits {f = f} m l u ne = m.kept.waits u ∙ ap (λ (life : Life). not (among u f.jobs) && is_waiting life) (sym (l.others u ne))

mid_none : {roots t : ℕ} {log : List Event} {f : AfterTurn} → Middle roots t log f → is_some (slice_index_or f.held t None) ≡ false
mid_none {t = t} {f = f} m = m.kept.waits t ∙ ap (λ (b : Bool). not (among t f.jobs) && b) m.rests ∙ and_false (not (among t f.jobs))

mid_size : {roots t : ℕ} {log log' : List Event} {resume : Option Resume} {step : Step} {f : AfterTurn} → Middle roots t log f → Left roots t log log' resume step → length f.held ≡ tasks_of roots log'
mid_size m l = m.kept.size ∙ sym l.tasks

mid_made : {roots t : ℕ} {log log' : List Event} {resume : Option Resume} {step : Step} {f : AfterTurn} → Middle roots t log f → Left roots t log log' resume step → AreMade log' f.jobs
mid_made {log = log} {log' = log'} {f = f} m l = made_on log log' f.jobs l.made m.kept.made

abbrev own_job : ℕ → ℕ → TaskView → Resume → JobFacts
own_job t n frames resume = record { task = t; number = n; resume = resume_at n resume; frames = frames }

or_true : (b : Bool) → (b || true) ≡ true
or_true true = refl
or_true false = refl

or_false : (b : Bool) → (b || false) ≡ b
or_false true = refl
or_false false = refl

among_own : (u t n : ℕ) (frames : TaskView) (resume : Resume) (js : List JobFacts) (b : Bool) → (u == t) ≡ b → among u (js ++ own_job t n frames resume ∷ []) ≡ (among u js || b)
among_own u t n frames resume js b is = among-append u js (own_job t n frames resume ∷ []) ∙ ap (λ (c : Bool). among u js || c) (or_false (u == t) ∙ is)

goes_followed : (roots t n : ℕ) (frames : TaskView) (log log' : List Event) (resume : Resume) (step : Step) (f : AfterTurn) → Middle roots t log f → Left roots t log log' (Some resume) step → Followed roots log' (record f { jobs = f.jobs ++ own_job t n frames resume ∷ [] })
goes_followed roots t n frames log log' resume step f m l =
    given roots log' (record f { jobs = f.jobs ++ own_job t n frames resume ∷ [] }) (l.closed m.closed)
    (record {
      size = mid_size m l;
      waits = λ u. elim (cases_eq u t) [
        | inl eq ↦ ap (λ (k : ℕ). is_some (slice_index_or f.held k None)) eq ∙ mid_none m
            ∙ sym (ap (λ (b : Bool). not b && is_waiting (life_of u log')) (among_own u t n frames resume f.jobs true (equal u t eq) ∙ or_true (among u f.jobs)))
        | inr ne ↦ mid_waits m l u ne ∙ sym (ap (λ (b : Bool). not b && is_waiting (life_of u log')) (among_own u t n frames resume f.jobs false (unequal u t ne) ∙ or_false (among u f.jobs)))
      ];
      made = made-append log' f.jobs (own_job t n frames resume ∷ []) (mid_made m l) (l.made t (open_made (life_of t log) m.mine), tt);
    })
    (λ u none w. elim (cases_eq u t) [
      | inl eq ↦ absurd (false≢true (sym none ∙ among_own u t n frames resume f.jobs true (equal u t eq) ∙ or_true (among u f.jobs)))
      | inr ne ↦ mid_alive m l u ne w
    ])

same_rests : (t : ℕ) (log log' : List Event) → (life_of t log').stage ≡ (life_of t log).stage → is_waiting (life_of t log) ≡ false → is_waiting (life_of t log') ≡ false
same_rests t log log' same rests = ap waits_at same ∙ rests

ended_followed : (roots t : ℕ) (log log' : List Event) (e : Ending) (f : AfterTurn) → Middle roots t log f → Left roots t log log' None (Ended e) → Followed roots log' (wake_all t e log' f)
ended_followed roots t log log' e f m l =
    let rests : is_waiting (life_of t log') ≡ false = same_rests t log log' l.leaves m.rests in
    let alive : (u : ℕ) → is_waiting (life_of u log') ≡ true → is_open (life_of u log') ≡ true =
    λ u w. elim (cases_eq u t) [
      | inl eq ↦ absurd (false≢true (sym (ap (λ (k : ℕ). is_waiting (life_of k log')) eq ∙ rests) ∙ w))
      | inr ne ↦ mid_alive m l u ne w
    ] in
    let first : IsKept (tasks_of roots log') log' f = record {
      size = mid_size m l;
      waits = λ u. elim (cases_eq u t) [
        | inl eq ↦ ap (λ (k : ℕ). is_some (slice_index_or f.held k None)) eq ∙ mid_none m ∙ sym (and_false (not (among u f.jobs)))
            ∙ sym (ap (λ (b : Bool). not (among u f.jobs) && b) (ap (λ (k : ℕ). is_waiting (life_of k log')) eq ∙ rests))
        | inr ne ↦ mid_waits m l u ne
      ];
      made = mid_made m l;
    } in
    let made : WaitersAreMade log' = record { at = λ u w. open_made (life_of u log') (alive u w) } in
    given roots log' (wake_all t e log' f) (l.closed m.closed) (wake_all_kept (tasks_of roots log') log' t e f made first) (λ u none w. alive u w)

abbrev held_job : ℕ → TaskView → WaitingTaskView
held_job n frames = record { number = n; frames = frames }

waits_followed : (roots t n : ℕ) (frames : TaskView) (log log' : List Event) (step : Step) (f : AfterTurn) → Middle roots t log f → Left roots t log log' None step → (is_waiting (life_of t log') ≡ true) × ((life_of t log').ending ≡ (life_of t log).ending)
    → Followed roots log' (record f { held = slice_set f.held t (Some (held_job n frames)) })
waits_followed roots t n frames log log' step f m l waits =
    let alive : is_open (life_of t log') ≡ true = ap (λ (b : Bool). b && is_none (life_of t log').ending) (l.made t (open_made (life_of t log) m.mine)) ∙ ap is_none waits.1 ∙ right (is_some (life_of t log).origin) (is_none (life_of t log).ending) m.mine in
    given roots log' (record f { held = slice_set f.held t (Some (held_job n frames)) }) (l.closed m.closed)
    (record {
      size = length-set f.held t (Some (held_job n frames)) ∙ mid_size m l;
      waits = λ u. elim (cases_eq u t) [
        | inl eq ↦ ap (λ (k : ℕ). is_some (slice_index_or (slice_set f.held t (Some (held_job n frames))) k None)) eq ∙ ap is_some (get_or-set_same f.held t (Some (held_job n frames)) None m.there)
            ∙ sym (ap (λ (k : ℕ). not (among k f.jobs) && is_waiting (life_of k log')) eq ∙ ap (λ (b : Bool). not b && is_waiting (life_of t log')) m.low ∙ waits.0)
        | inr ne ↦ ap is_some (get_or-set_other f.held t u (Some (held_job n frames)) None ne) ∙ mid_waits m l u ne
      ];
      made = mid_made m l;
    })
    (λ u none w. elim (cases_eq u t) [
      | inl eq ↦ ap (λ (k : ℕ). is_open (life_of k log')) eq ∙ alive
      | inr ne ↦ mid_alive m l u ne w
    ])

followed_kept : (roots t n : ℕ) (frames : TaskView) (log log' : List Event) (resume : Option Resume) (step : Step) (f : AfterTurn) → Middle roots t log f → Left roots t log log' resume step → Followed roots log' (followed t n frames resume step log' f)
followed_kept roots t n frames log log' (Some resume) step f m l = goes_followed roots t n frames log log' resume step f m l
followed_kept roots t n frames log log' None (Ended e) f m l = ended_followed roots t log log' e f m l
followed_kept roots t n frames log log' None (Run actor resume) f m l = waits_followed roots t n frames log log' (Run actor resume) f m l l.leaves
followed_kept roots t n frames log log' None Await f m l = waits_followed roots t n frames log log' Await f m l l.leaves

-- a turn is applied
pub leaves_apply : (log : List Event) (t : TaskId) (n : ℕ) → is_waiting (life_of t.0 log) ≡ false → LeavesWaits log (Apply t n)
leaves_apply log t n rest = record { unmade = refl; same = sym rest; alive = λ w. absurd (false≢true w) }

none_more : (held : List (Option WaitingTaskView)) (k u : ℕ) → is_some (get_or (held ++ replicate k None) u None) ≡ is_some (get_or held u None)
none_more [] zero u = refl
none_more [] (suc k) zero = refl
none_more [] (suc k) (suc u) = none_more [] k u
none_more (h ∷ hs) k zero = refl
none_more (h ∷ hs) k (suc u) = none_more hs k u

none_above : (held : List (Option WaitingTaskView)) (u : ℕ) → length held ≤ u → is_some (get_or held u None) ≡ false
none_above [] u le = refl
none_above (h ∷ hs) zero le = absurd (omega (arith, le))
none_above (h ∷ hs) (suc u) le = none_above hs u (omega (arith, le))

-- the turn was applied, and its effects were written
middle : (script : ScriptView) (t n : ℕ) (own : Priority) (log : List Event) (held : List (Option WaitingTaskView)) (es : List EffectView) → HoldsWaiting (root_count script) log held → UnopenedAreNotClosed log → is_waiting (life_of t log) ≡ false → is_open (life_of t log) ≡ true → t < tasks_of (root_count script) log
    → Middle (root_count script) t (log_after (root_count script) t own (log ++ Apply (task t) n ∷ []) es) (record { held = held ++ replicate (length (jobs_made script t own (log ++ Apply (task t) n ∷ []) es)) None; jobs = jobs_made script t own (log ++ Apply (task t) n ∷ []) es })
middle script t n own log held es holds closed rest alive known =
    let roots : ℕ = root_count script in
    let begun : List Event = log ++ Apply (task t) n ∷ [] in
    let done : List Event = log_after roots t own begun es in
    let made : List JobFacts = jobs_made script t own begun es in
    let hb : HoldsWaiting roots begun held = holds_push (Apply (task t) n) (leaves_apply log (task t) n rest) holds in
    let grows : Grows roots begun done = effects_grow roots t own begun es in
    let new : AreNew roots begun done made = effects_new script t own begun es in
    let same : tasks_of roots begun ≡ tasks_of roots log = tasks_of-push_other roots log (Apply (task t) n) refl in
    let low : among t made ≡ false = new.from t (omega (arith, known, same)) in
    let long : length (held ++ replicate (length made) None) ≡ length held + length made = length-append held (replicate (length made) None) ∙ ap (λ (k : ℕ). length held + k) (length-replicate (length made) None) in
    let waiting : (u : ℕ) → is_waiting (life_of u done) ≡ is_waiting (life_of u begun) = λ u. ap waits_at (grows.stage u) in
    let opens_on : (u : ℕ) → is_open (life_of u begun) ≡ true → is_open (life_of u done) ≡ true =
    λ u h. ap (λ (b : Bool). b && is_none (life_of u done).ending) (grows.stays.made u (open_made (life_of u begun) h)) ∙ ap is_none (grows.ending u) ∙ right (is_some (life_of u begun).origin) (is_none (life_of u begun).ending) h in
    let applied : life_of t begun ≡ lived (life_of t log) (Apply (task t) n) = life_of-push_same t log (Apply (task t) n) refl in
    record {
      kept = record {
        size = long ∙ ap (λ (k : ℕ). k + length made) hb.size ∙ sym new.count;
        waits = λ u. none_more held (length made) u ∙ elim (cases_lt u (tasks_of roots begun)) [
          | inl lt ↦ hb.waits u ∙ sym (waiting u) ∙ sym (ap (λ (b : Bool). not b && is_waiting (life_of u done)) (new.from u lt))
          | inr le ↦ (let none = none_above held u (let size = hb.size in omega (arith, le, size)) in
              none ∙ sym (ap (λ (b : Bool). not (among u made) && b) (waiting u ∙ sym (hb.waits u) ∙ none) ∙ and_false (not (among u made))))
        ];
        made = new.made;
      };
      alive = λ u w. opens_on u (hb.alive u (sym (waiting u) ∙ w));
      rests = waiting t ∙ ap is_waiting applied;
      mine = opens_on t (ap is_open applied ∙ alive);
      low = low;
      there = (let size = hb.size in omega (arith, known, same, long, size));
      closed = record { at = λ o g le. grows.stays.closed o g ∙ (closed_push (Apply (task t) n) (λ o g. refl) closed).at o g (let more = grows.opened o in omega (arith, le, more)) };
    }

begun_rests : (s : Option JobStage) (env : Env) → s ≡ Some (Begun env) → waits_at s ≡ false
begun_rests s env is = ap waits_at is

-- what holds after the end of a turn that fits
pub end_kept : (script : ScriptView) (log : List Event) (held : List (Option WaitingTaskView)) (t n : ℕ) (es : List EffectView) (bodies : List (Option BodyView)) (exit : ExitView) (body : BodyView) (step : Step)
    → TurnLeaves script (root_count script) log held t es bodies exit body step
    → CanLeave t (log_after (root_count script) t (begun_priority (life_of t log).stage) (log ++ Apply (task t) n ∷ []) es) exit
    → Followed (root_count script) (log_after (root_count script) t (begun_priority (life_of t log).stage) (log ++ Apply (task t) n ∷ []) es ++ exit_events t (log_after (root_count script) t (begun_priority (life_of t log).stage) (log ++ Apply (task t) n ∷ []) es) exit step)
    (followed t (n + 1) body.task (exit_resume t (log_after (root_count script) t (begun_priority (life_of t log).stage) (log ++ Apply (task t) n ∷ []) es) exit step) step
    (log_after (root_count script) t (begun_priority (life_of t log).stage) (log ++ Apply (task t) n ∷ []) es ++ exit_events t (log_after (root_count script) t (begun_priority (life_of t log).stage) (log ++ Apply (task t) n ∷ []) es) exit step)
    (record { held = held ++ replicate (length (jobs_made script t (begun_priority (life_of t log).stage) (log ++ Apply (task t) n ∷ []) es)) None; jobs = jobs_made script t (begun_priority (life_of t log).stage) (log ++ Apply (task t) n ∷ []) es }))
end_kept script log held t n es bodies exit body step turn can =
    let roots : ℕ = root_count script in
    let own : Priority = begun_priority (life_of t log).stage in
    let done : List Event = log_after roots t own (log ++ Apply (task t) n ∷ []) es in
    let written : List Event = done ++ exit_events t done exit step in
    followed_kept roots t (n + 1) body.task done written (exit_resume t done exit step) step
    (record { held = held ++ replicate (length (jobs_made script t own (log ++ Apply (task t) n ∷ []) es)) None; jobs = jobs_made script t own (log ++ Apply (task t) n ∷ []) es })
    (middle script t n own log held es turn.holds turn.closed (begun_rests (life_of t log).stage turn.turn.env turn.turn.begun) turn.turn.alive turn.known)
    (exit_left roots t done exit step can turn.fitting)

no_ending : {A : Type 0} (o : Option A) → is_none o ≡ true → o ≡ None
no_ending None h = refl
no_ending (Some x) h = absurd (false≢true h)

-- no effect ends its own task
pub done_unended : (roots t n : ℕ) (log : List Event) (es : List EffectView) → is_open (life_of t log) ≡ true → (life_of t (done_log roots t n log es)).ending ≡ None
done_unended roots t n log es alive =
    (effects_grow roots t (begun_priority (life_of t log).stage) (log ++ Apply (task t) n ∷ []) es).ending t
    ∙ ending-push t log (Apply (task t) n) refl
    ∙ no_ending (life_of t log).ending (right (is_some (life_of t log).origin) (is_none (life_of t log).ending) alive)

-- the log once effects are written, by its parts
pub done_is : (roots roots' t n : ℕ) (own : Priority) (l : Life) (log log' log'' : List Event) (es : List EffectView)
    → log'' ≡ log_after roots' t own log' es → roots' ≡ roots → own ≡ begun_priority l.stage → l ≡ life_of t log → log' ≡ log ++ Apply (task t) n ∷ [] → log'' ≡ done_log roots t n log es
done_is roots roots' t n own l log log' log'' es is rs os ls gs =
    is ∙ ap (λ (r : ℕ). log_after r t own log' es) rs ∙ ap (λ (p : Priority). log_after roots t p log' es) (os ∙ ap (λ (m : Life). begun_priority m.stage) ls) ∙ ap (λ (g : List Event). log_after roots t (begun_priority (life_of t log).stage) g es) gs
