-- What the end of a turn leaves of tasks: in how many ways they can go on, and how far they are.
use Rattle.swift_course.proofs.Prelude.{◌≡◌, ◌≢◌, ℕ, ◌+◌, ◌≤◌, ◌<◌, ◌==◌, List, [], ◌∷◌, ◌++◌, length, replicate, refl, ap, ◌∙◌, arith, inl, Option, None, is_some, Priority, ScriptView, root_count, EffectView, ExitView, Advanced, Event, Apply, tasks_of, AfterTurn, WaitingTaskView, TurnEnd, exit_events, exit_resume, followed, gives, jobs_made, log_after, task, turn_end, one_if, waits}
use Rattle.swift_course.proofs.Made.{AreNext, made_next}
use Rattle.swift_course.proofs.Stages.{effects_stay, exit_idle, exit_stays, gives_idle, gives_silent, stage_of, stage_stays, tasks_stay}
use Rattle.swift_course.proofs.Waking.{followed_ways, room_waits, times}

-- Each task can go on in no more ways than before, but the turn's own in one more, and each that the turn makes in one. The stage of a
-- task that gets no job is as it was.
pub record TurnLeaves (roots : ℕ) (log : List Event) (held : List (Option WaitingTaskView)) (t : ℕ) (e : TurnEnd) : Type 0 where
  pub grows : tasks_of roots log ≤ tasks_of roots e.log
  pub old : (x : ℕ) → x < tasks_of roots log → times x e.jobs + waits x e.held ≤ waits x held + one_if (x == t)
  pub new : (x : ℕ) → times x e.jobs + waits x e.held ≤ waits x held + one_if (x == t) + 1
  pub beyond : (x : ℕ) → tasks_of roots e.log ≤ x → times x e.jobs + waits x e.held ≤ waits x held + one_if (x == t)
  pub stage : (x : ℕ) → t ≢ x → x < tasks_of roots log → times x e.jobs ≡ 0 → stage_of x e.log ≡ stage_of x log

pub turn_leaves : (script : ScriptView) (log : List Event) (held : List (Option WaitingTaskView)) (t n : ℕ) (own : Priority) (effects : List EffectView) (exit : ExitView) (after : Advanced)
    → TurnLeaves (root_count script) log held t (turn_end script log held t n own effects exit after)
turn_leaves script log held t n own effects exit after =
    let roots = root_count script in
    let start = log ++ Apply (task t) n ∷ [] in
    let done = log_after roots t own start effects in
    let written = done ++ exit_events t done exit after.step in
    let made = jobs_made script t own start effects in
    let f0 : AfterTurn = record { held = held ++ replicate (length made) None; jobs = made } in
    let f = followed t (n + 1) after.task (exit_resume t done exit after.step) after.step written f0 in
    let next : AreNext (tasks_of roots start) (tasks_of roots done) made = made_next effects script t own start in
    let started : tasks_of roots start ≡ tasks_of roots log = tasks_stay (Apply (task t) n ∷ []) roots log (refl, tt) in
    let exited : tasks_of roots written ≡ tasks_of roots done = exit_idle t roots done exit after.step in
    let gave : tasks_of roots (written ++ gives f.jobs) ≡ tasks_of roots written = tasks_stay (gives f.jobs) roots written (gives_idle f.jobs) in
    let ways_of : (x : ℕ) → times x f.jobs + waits x f.held ≤ times x made + waits x held + one_if (x == t) =
    (λ x. let most = followed_ways t (n + 1) x after.task (exit_resume t done exit after.step) after.step written f0 in
    let room : waits x (held ++ replicate (length made) None) ≡ waits x held = ap (λ o. one_if (is_some o)) (room_waits held (length made) x) in
    omega (arith, most, room))
    in
    record {
      grows = (let g = next.grows in omega (arith, g, started, exited, gave));
      old = λ x lt. (let none = next.below x (omega (arith, lt, started)) in let most = ways_of x in omega (arith, none, most));
      new = λ x. (let one = next.once x in let most = ways_of x in omega (arith, one, most));
      beyond = λ x le. (let none = next.beyond x (omega (arith, le, exited, gave)) in let most = ways_of x in omega (arith, none, most));
      stage = λ x apart lt none. stage_stays (gives f.jobs) x written (gives_silent f.jobs x none) ∙ exit_stays t done exit after.step x apart
          ∙ effects_stay effects script t own start x apart (omega (arith, lt, started)) ∙ stage_stays (Apply (task t) n ∷ []) x log (inl apart, tt);
    }
