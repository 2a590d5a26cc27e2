-- A turn changes nothing of the job of another task that has one: neither how far it is, nor what it is.
use Rattle.swift_reordering.proofs.Prelude.{◌≡◌, ◌≢◌, ℕ, List, [], ◌∷◌, ◌++◌, refl, sym, ◌∙◌, ap, subst, Bool, true, inl, inr, append_assoc, append-nil, Option, Some, None, ◌==◌, if◌then◌else◌, AllByRecursion, cases_eq, ne_eqb, false≢true, Env, Ending, Priority, ScriptView, root_count, root_priority, FrameView, EffectView, ExitView, Advanced, advanced, Event, Root, Begin, Apply, Free, Open, Child, Skip, CancelTask, CancelGroup, Wait, Next, Close, End, Give, Life, LastJob, JobStage, later, task_of, life_of, stage_in, given_in, ending_in, life_of-push_same, life_of-push_other, is_under_way, JobFacts, TurnEnd, task, gives, root_job, exit_events, log_after, turn_end, added, Standing, after_block, with_jobs, taken, begun_priority, left_as, turn_applied, TurnStands, AreCounted, Resting, applied_is, current_is, turn_follows, IsWritten, keeps_effects, keeps_exit, stage_at}

-- what events of other tasks, or that say nothing of a job, leave of it

abbrev given_at : List Event → ℕ → Option LastJob
given_at log u = (life_of u log).given

-- how far the job of task `u` is, which one it is, and how the task has ended
pub record SameJob (first : List Event) (u : ℕ) (log : List Event) : Type 0 where
  pub stage : stage_at log u ≡ stage_at first u
  pub given : given_at log u ≡ given_at first u
  pub ending : (life_of u log).ending ≡ (life_of u first).ending

abbrev SaysNoJob : Event → Type 0
SaysNoJob e = (stage_in e ≡ None) × (given_in e ≡ None) × (ending_in e ≡ None)

job_other : (first : List Event) (u : ℕ) (log : List Event) (e : Event) → task_of e ≢ u → SameJob first u log → SameJob first u (log ++ e ∷ [])
job_other first u log e ne same = (let is = life_of-push_other u log e ne in record { stage = ap (λ (l : Life). l.stage) is ∙ same.stage; given = ap (λ (l : Life). l.given) is ∙ same.given; ending = ap (λ (l : Life). l.ending) is ∙ same.ending })

job_quiet : (first : List Event) (u : ℕ) (log : List Event) (e : Event) → SaysNoJob e → SameJob first u log → SameJob first u (log ++ e ∷ [])
job_quiet first u log e quiet same = elim (cases_eq (task_of e) u) [
  | inl one ↦ (let is = life_of-push_same u log e one in record {
    stage = ap (λ (l : Life). l.stage) is ∙ ap (λ (x : Option JobStage). later x (stage_at log u)) quiet.0 ∙ same.stage;
    given = ap (λ (l : Life). l.given) is ∙ ap (λ (x : Option LastJob). later x (given_at log u)) quiet.1 ∙ same.given;
    ending = ap (λ (l : Life). l.ending) is ∙ ap (λ (x : Option Ending). later x (life_of u log).ending) quiet.2 ∙ same.ending;
  })
  | inr ne ↦ job_other first u log e ne same
]

-- what a turn of task `t` writes before it gives jobs
written_job : (roots t u : ℕ) (first log : List Event) (e : Event) → t ≢ u → IsWritten roots t log e → SameJob first u log → SameJob first u (log ++ e ∷ [])
written_job roots t u first log (Free made by p detached) ne w same = job_quiet first u log (Free made by p detached) (refl, refl, refl) same
written_job roots t u first log (Child made o g p) ne w same = job_quiet first u log (Child made o g p) (refl, refl, refl) same
written_job roots t u first log (Open o g) ne w same = job_quiet first u log (Open o g) (refl, refl, refl) same
written_job roots t u first log (Skip o g) ne w same = job_quiet first u log (Skip o g) (refl, refl, refl) same
written_job roots t u first log (CancelTask v) ne w same = job_quiet first u log (CancelTask v) (refl, refl, refl) same
written_job roots t u first log (CancelGroup o g) ne w same = job_quiet first u log (CancelGroup o g) (refl, refl, refl) same
written_job roots t u first log (End v ending) ne w same = job_other first u log (End v ending) (λ is. ne (sym w ∙ is)) same
written_job roots t u first log (Wait v awaited) ne w same = job_other first u log (Wait v awaited) (λ is. ne (sym w ∙ is)) same
written_job roots t u first log (Next o g) ne w same = job_other first u log (Next o g) (λ is. ne (sym w ∙ is)) same
written_job roots t u first log (Close o g) ne w same = job_other first u log (Close o g) (λ is. ne (sym w ∙ is)) same
written_job roots t u first log _ ne w same = absurd w

abbrev pub IsNotOf : ℕ → JobFacts → Type 0
IsNotOf u j = j.task ≢ u

gives_job : (js : List JobFacts) (first : List Event) (u : ℕ) (log : List Event) → AllByRecursion (IsNotOf u) js → SameJob first u log → SameJob first u (log ++ gives js)
gives_job [] first u log all same = subst (SameJob first u) (sym (append-nil log)) same
gives_job (j ∷ js) first u log all same =
    let e : Event = Give (task j.task) j.number j.resume in
    subst (SameJob first u) (append_assoc log (e ∷ []) (gives js)) (gives_job js first u (log ++ e ∷ []) all.1 (job_other first u log e all.0 same))

with_others : (js : List JobFacts) (f : ℕ → Option JobFacts) (u : ℕ) → AllByRecursion (IsNotOf u) js → with_jobs js f u ≡ f u
with_others [] f u all = refl
with_others (j ∷ js) f u all =
    with_others js (λ w. if w == j.task then Some j else f w) u all.1 ∙ ap (λ (b : Bool). if b then Some j else f u) (ne_eqb u j.task (λ is. all.0 (sym is)))

-- no job of a task whose turn is under way is given
none_of : (js : List JobFacts) (u : ℕ) (log : List Event) → is_under_way (stage_at log u) ≡ true → AllByRecursion (Resting log) js → AllByRecursion (IsNotOf u) js
none_of [] u log under all = tt
none_of (j ∷ js) u log under all =
    ((λ is. false≢true (sym all.0 ∙ ap (λ (k : ℕ). is_under_way (stage_at log k)) is ∙ under)), none_of js u log under all.1)

-- the job of a task, as it was
pub record KeepsJob (s z : Standing) (u : ℕ) : Type 0 where
  pub same : SameJob s.log u z.log
  pub job : z.jobs u ≡ s.jobs u

module _ (script : ScriptView) (s : Standing) (e t n : ℕ) (effects : List EffectView) (exit : ExitView) (after : Option FrameView) (job : JobFacts) (env : Env) (frame : FrameView) (stands : TurnStands script s e t n effects exit job env frame) where
  -- the end of a turn
  abbrev pub end_there : TurnEnd
  end_there = turn_end script s.log s.held t n (begun_priority (stage_at s.log t)) effects exit (advanced script (left_as frame effects after) stands.runs.0 job.frames.outer exit)

  abbrev own : Priority
  own = begun_priority (stage_at s.log t)

  abbrev first : List Event
  first = s.log ++ Apply (task t) n ∷ []

  abbrev done : List Event
  done = log_after (root_count script) t own first effects

  abbrev written : List Event
  written = done ++ exit_events t done exit (advanced script (left_as frame effects after) stands.runs.0 job.frames.outer exit).step

  written_keeps : (u : ℕ) → t ≢ u → SameJob s.log u written
  written_keeps u ne =
      let roots : ℕ = root_count script in
      let adv : Advanced = advanced script (left_as frame effects after) stands.runs.0 job.frames.outer exit in
      let at_first : SameJob s.log u first = job_other s.log u s.log (Apply (task t) n) ne (record { stage = refl; given = refl; ending = refl }) in
      let keep = λ (l : List Event) (w : Event) (is_written : IsWritten roots t l w) (same : SameJob s.log u l). written_job roots t u s.log l w ne is_written same in
      let at_done : SameJob s.log u done = keeps_effects (SameJob s.log u) roots t own keep first effects at_first in
      keeps_exit (SameJob s.log u) roots t own keep done exit adv.step at_done

  -- it gives no job to another task whose turn is under way
  pub gives_others : AreCounted (root_count script) s.log s.held → (u : ℕ) → t ≢ u → is_under_way (stage_at s.log u) ≡ true → AllByRecursion (IsNotOf u) end_there.jobs
  gives_others counted u ne under =
      let adv : Advanced = advanced script (left_as frame effects after) stands.runs.0 job.frames.outer exit in
      let is = current_is (life_of t s.log) n job.resume stands.current in
      let follows = turn_follows script s.held t n own s.log effects exit adv is.0 is.1 counted in
      none_of end_there.jobs u written (ap is_under_way (written_keeps u ne).stage ∙ under) follows.1.resting

  -- a turn leaves the job of another task, where it gives that none
  pub turn_keeps_by : (u : ℕ) → t ≢ u → AllByRecursion (IsNotOf u) end_there.jobs → KeepsJob s (turn_applied script s t n effects exit after) u
  turn_keeps_by u ne none =
      subst (λ (z : Standing). KeepsJob s z u) (sym (applied_is script s t n job frame stands.runs.0 effects exit after stands.given stands.runs.1)) (record {
        same = gives_job end_there.jobs s.log u written none (written_keeps u ne);
        job = with_others end_there.jobs (taken t s.jobs) u none ∙ ap (λ (b : Bool). if b then None else s.jobs u) (ne_eqb u t (λ is. ne (sym is)));
      })

-- so it does where that is under way
pub turn_keeps_job : (script : ScriptView) (s : Standing) → AreCounted (root_count script) s.log s.held → (e t n : ℕ) (effects : List EffectView) (exit : ExitView) (after : Option FrameView) (job : JobFacts) (env : Env) (frame : FrameView)
    → TurnStands script s e t n effects exit job env frame → (u : ℕ) → t ≢ u → is_under_way (stage_at s.log u) ≡ true → KeepsJob s (turn_applied script s t n effects exit after) u
turn_keeps_job script s counted e t n effects exit after job env frame stands u ne under =
    turn_keeps_by script s e t n effects exit after job env frame stands u ne (gives_others script s e t n effects exit after job env frame stands counted u ne under)

-- and so does a root
pub root_keeps_job : (script : ScriptView) (s : Standing) (r u : ℕ) → r ≢ u → KeepsJob s (after_block script s (added r)) u
root_keeps_job script s r u ne =
    let e : Event = Root (task r) (root_priority script r) in
    record {
      same = subst (SameJob s.log u) (append_assoc s.log (e ∷ []) (gives (root_job script r ∷ [])))
          (gives_job (root_job script r ∷ []) s.log u (s.log ++ e ∷ []) (ne, tt) (job_other s.log u s.log e ne (record { stage = refl; given = refl; ending = refl })));
      job = with_others (root_job script r ∷ []) s.jobs u (ne, tt);
    }

-- a begin leaves the jobs of other tasks
pub begin_keeps_job : (s : Standing) (t n : ℕ) (env : Env) (u : ℕ) → t ≢ u → SameJob s.log u (s.log ++ Begin (task t) n env ∷ [])
begin_keeps_job s t n env u ne = job_other s.log u s.log (Begin (task t) n env) ne (record { stage = refl; given = refl; ending = refl })
