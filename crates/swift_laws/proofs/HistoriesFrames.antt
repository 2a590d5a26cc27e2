-- Frames of jobs and of tasks that wait: what the end of a turn keeps of them.
use Rattle.swift_laws.proofs.Prelude.{◌≡◌, ℕ, ◌+◌, List, [], ◌∷◌, ◌++◌, length, refl, sym, ◌∙◌, ap, Bool, true, false, inl, inr, subst, replicate, ◌==◌, Option, Some, None, if◌then◌else◌, slice_set, AllByRecursion, cases_eq, eqb-true, cases_Bool, none-some, same_Some, TaskId, Ending, Resume, Priority, close_of, ScriptView, root_count, EffectView, ExitView, Step, Ended, TaskView, Advanced, Event, Apply, JobStage, life_of, group_of, parent_of, waiters_of, task, JobFacts, WaitingTaskView, AfterTurn, woken, wake, wake_each, wake_closing, wake_owner, wake_parent, wake_all, followed, resume_of, exit_events, exit_resume, log_after, jobs_made, turn_end, with_jobs, taken}
use Rattle.swift_groups.specs.declared.answer.Close.{Close as Closing}
use Rattle.swift_groups.specs.declared.answer.Close.TheVariants as closing
use Rattle.swift_events.specs.declared.life.JobStage.TheVariants as stage
use Rattle.swift_laws.proofs.HistoriesCounted.{held_at}
use Rattle.swift_laws.proofs.HistoriesTurns.{all_append, held_more, none_set, some_set, other_set}

-- a property of a task and its frames
module _ (Q : ℕ → TaskView → Type 0) where
  abbrev pub JobHas : JobFacts → Type 0
  JobHas j = Q j.task j.frames

  abbrev pub HeldHave : List (Option WaitingTaskView) → Type 0
  HeldHave held = (u : ℕ) (h : WaitingTaskView) → held_at held u ≡ Some h → Q u h.frames

  abbrev FollowHas : AfterTurn → Type 0
  FollowHas f = HeldHave f.held × AllByRecursion JobHas f.jobs

  taken_have : (held : List (Option WaitingTaskView)) (u : ℕ) → HeldHave held → HeldHave (slice_set held u None)
  taken_have held u all t h at = elim (cases_eq u t) [
    | inl same ↦ absurd (none-some h (sym (none_set held u) ∙ ap (held_at (slice_set held u None)) same ∙ at))
    | inr other ↦ all t h (sym (other_set held u t None (λ q. other (sym q))) ∙ at)
  ]

  woken_has : (u : ℕ) (resume : Resume) (f : AfterTurn) (o : Option WaitingTaskView) → held_at f.held u ≡ o → FollowHas f → FollowHas (woken u resume f o)
  woken_has u resume f None is has = has
  woken_has u resume f (Some h) is has = (taken_have f.held u has.0, all_append JobHas f.jobs _ has.1 (has.0 u h is, tt))

  wake_has : (u : ℕ) (resume : Resume) (f : AfterTurn) → FollowHas f → FollowHas (wake u resume f)
  wake_has u resume f has = woken_has u resume f (held_at f.held u) refl has

  wake_each_has : (us : List TaskId) (resume : Resume) (f : AfterTurn) → FollowHas f → FollowHas (wake_each us resume f)
  wake_each_has [] resume f has = has
  wake_each_has (u ∷ us) resume f has = wake_each_has us resume (wake u.0 resume f) (wake_has u.0 resume f has)

  wake_closing_has : (o : ℕ) (c : Closing) (f : AfterTurn) → FollowHas f → FollowHas (wake_closing o c f)
  wake_closing_has o closing.Done f has = wake_has o _ f has
  wake_closing_has o closing.Wait f has = has

  either_has : (b : Bool) (f g : AfterTurn) → FollowHas f → FollowHas g → FollowHas (if b then f else g)
  either_has true f g p q = p
  either_has false f g p q = q

  wake_owner_has : (o g : ℕ) (e : Ending) (s : Option JobStage) (log : List Event) (f : AfterTurn) → FollowHas f → FollowHas (wake_owner o g e s log f)
  wake_owner_has o g e (Some (stage.Asks asked)) log f has = either_has (asked == g) (wake o (resume_of e) f) f (wake_has o (resume_of e) f has) has
  wake_owner_has o g e (Some (stage.Closes closed)) log f has =
      either_has (closed == g) (wake_closing o (close_of (group_of o g log)) f) f (wake_closing_has o (close_of (group_of o g log)) f has) has
  wake_owner_has o g e _ log f has = has

  wake_parent_has : (p : Option (ℕ × ℕ)) (e : Ending) (log : List Event) (f : AfterTurn) → FollowHas f → FollowHas (wake_parent p e log f)
  wake_parent_has None e log f has = has
  wake_parent_has (Some x) e log f has = wake_owner_has x.0 x.1 e (life_of x.0 log).stage log f has

  wake_all_has : (t : ℕ) (e : Ending) (log : List Event) (f : AfterTurn) → FollowHas f → FollowHas (wake_all t e log f)
  wake_all_has t e log f has = wake_parent_has (parent_of t log) e log (wake_each (waiters_of t log) (resume_of e) f) (wake_each_has (waiters_of t log) (resume_of e) f has)

  waits_has : (t : ℕ) (x : WaitingTaskView) (f : AfterTurn) → Q t x.frames → FollowHas f → FollowHas (record f { held = slice_set f.held t (Some x) })
  waits_has t x f own has = (
    λ u h at. elim (cases_eq t u) [
      | inl same ↦ subst (λ (k : ℕ). Q k h.frames) same (elim (some_set f.held t x) [
        | inl is ↦ subst (λ (y : WaitingTaskView). Q t y.frames) (same_Some x h (sym is ∙ ap (held_at (slice_set f.held t (Some x))) same ∙ at)) own
        | inr is ↦ has.0 t h (sym is ∙ ap (held_at (slice_set f.held t (Some x))) same ∙ at)
      ])
      | inr other ↦ has.0 u h (sym (other_set f.held t u (Some x) (λ q. other (sym q))) ∙ at)
    ],
    has.1,
  )

  followed_has : (t n : ℕ) (frames : TaskView) (o : Option Resume) (step : Step) (log : List Event) (f : AfterTurn) → Q t frames → FollowHas f → FollowHas (followed t n frames o step log f)
  followed_has t n frames (Some resume) step log f own has = (has.0, all_append JobHas f.jobs _ has.1 (own, tt))
  followed_has t n frames None (Ended e) log f own has = wake_all_has t e log f has
  followed_has t n frames None _ log f own has = waits_has t (record { number = n; frames = frames }) f own has

  pub turn_has : (script : ScriptView) (log : List Event) (held : List (Option WaitingTaskView)) (t n : ℕ) (own : Priority) (effects : List EffectView) (exit : ExitView) (after : Advanced)
      → HeldHave held → AllByRecursion JobHas (jobs_made script t own (log ++ Apply (task t) n ∷ []) effects) → Q t after.task
      → (let e = turn_end script log held t n own effects exit after in HeldHave e.held × AllByRecursion JobHas e.jobs)
  turn_has script log held t n own effects exit after all made here =
      let begun = log ++ Apply (task t) n ∷ [] in
      let done = log_after (root_count script) t own begun effects in
      let jobs = jobs_made script t own begun effects in
      let more = held ++ replicate (length jobs) None in
      let held_more' : HeldHave more = λ u h at. all u h (sym (held_more held (length jobs) u) ∙ at) in
      followed_has t (n + 1) after.task (exit_resume t done exit after.step) after.step (done ++ exit_events t done exit after.step) (record { held = more; jobs = jobs }) here (held_more', made)

  -- the jobs of tasks, once jobs were made and one was taken
  abbrev pub JobsHave : (ℕ → Option JobFacts) → Type 0
  JobsHave jobs = (u : ℕ) (j : JobFacts) → jobs u ≡ Some j → Q u j.frames

  pub taken_jobs_have : (t : ℕ) (jobs : ℕ → Option JobFacts) → JobsHave jobs → JobsHave (taken t jobs)
  taken_jobs_have t jobs all u j at = elim (cases_Bool (u == t)) [
    | inl same ↦ absurd (none-some j (sym (ap (λ (b : Bool). if b then None else jobs u) same) ∙ at))
    | inr other ↦ all u j (sym (ap (λ (b : Bool). if b then None else jobs u) other) ∙ at)
  ]

  pub with_jobs_have : (js : List JobFacts) (jobs : ℕ → Option JobFacts) → AllByRecursion JobHas js → JobsHave jobs → JobsHave (with_jobs js jobs)
  with_jobs_have [] jobs all before u j at = before u j at
  with_jobs_have (x ∷ js) jobs all before u j at =
      with_jobs_have js (λ v. if v == x.task then Some x else jobs v) all.1
      (λ v y is. elim (cases_Bool (v == x.task)) [
        | inl same ↦ subst (λ (k : ℕ). Q k y.frames) (sym (eqb-true v x.task same))
            (subst (λ (z : JobFacts). Q x.task z.frames) (same_Some x y (sym (ap (λ (b : Bool). if b then Some x else jobs v) same) ∙ is)) all.0)
        | inr other ↦ before v y (sym (ap (λ (b : Bool). if b then Some x else jobs v) other) ∙ is)
      ])
      u j at
