-- What the end of a turn writes, and which jobs are made then.
use Rattle.swift_laws.proofs.Prelude.{◌≡◌, inl, inr, ℕ, ℤ, Bool, true, false, List, [], ◌∷◌, ◌++◌, refl, sym, subst, ap, ◌∙◌, append_assoc, length, Option, Some, None, is_some, ◌==◌, nat_lt, slice_index_or, false≢true, append-nil, TaskId, FRAMES, Ending, Depth, Empty, Resume, Start, Go, Priority, next_of, close_of, ScriptView, FrameView, InvocationView, ExitView, calling, waiting, asking_next, yielding, returning, failing, Step, Ended, Await, TaskView, Advanced, advanced, resumed, called, Event, CancelGroup, Child, Wait, Next, Close, End, JobStage, task_of, life_of, origin_in, given_in, stage_in, ending_in, waits_at, group_of, parent_of, waiters_of, JobFacts, WaitingTaskView, AfterTurn, task, named_task, wait_events, wait_resume, next_events, next_resume, close_events, close_resume, end_events, step_resume, exit_events, exit_resume, resume_of, woken, wake, wake_each, wake_closing, wake_owner, wake_parent, wake_all, followed, HasEnded}
use Rattle.std.proofs.Common.{if◌then◌else◌}
use Rattle.swift_types.specs.declared.outcome.Ending.TheVariants.{Value, Fault}
use Rattle.swift_types.specs.declared.outcome.Fault.{Fault as AnyFault}
use Rattle.swift_types.specs.declared.outcome.Resume.TheVariants.{Value as GivenValue, Fault as Raise}
use Rattle.swift_groups.specs.declared.answer.NextResult.{NextResult as Answer}
use Rattle.swift_groups.specs.declared.answer.NextResult.TheVariants as answer
use Rattle.swift_groups.specs.declared.answer.Close.{Close as Closing}
use Rattle.swift_groups.specs.declared.answer.Close.TheVariants as closing
use Rattle.swift_interpreter.specs.Turn.{closing as closing_group}
use Rattle.swift_events.specs.declared.life.JobStage.TheVariants as stage
use Rattle.swift_laws.proofs.OpenLogs.{In, in_push, not_both, was_given, stage_at, given_stays, stage_same, stage_now, ended_stays, ended_came, ended_now, equal_of, IsFree, Sound, May, Leads, stays, leads_by, leads_on, sound_push, holds_at}
use Rattle.swift_laws.proofs.OpenSteps.{each_append, is_child, no_child, no_wait, Calm, may_calm, may_move, Active, active_push, Fresh, fresh_push, Goes, goes_free, AllGo}
use Rattle.swift_laws.proofs.OpenGroups.{closed_done, EachTask, each_waiter}

-- each task that has waited for this one may go on
abbrev pub WaitersGo : ℕ → List Event → Type 0
WaitersGo t log = (w a : TaskId) → In log (Wait w a) → a.0 ≡ t → Goes w.0 log

-- how an exit leaves its task, in the log that it has written: its next job may be made, or it has ended, or it waits
abbrev pub Requires : ℕ → List Event → Option Resume → Step → Type 0
Requires t log (Some resume) step = Goes t log
Requires t log None (Ended e) = WaitersGo t log
Requires t log None _ = Unit {0}

-- the jobs that are made for tasks that are woken

module _ (roots : ℕ) (log : List Event) where
  woken_go : (u : ℕ) (resume : Resume) (f : AfterTurn) (o : Option WaitingTaskView) → Goes u log → AllGo log f.jobs → AllGo log (woken u resume f o).jobs
  woken_go u resume f None goes all = all
  woken_go u resume f (Some h) goes all = each_append (λ j. Goes j.task log) f.jobs _ all (goes, tt)

  wake_go : (u : ℕ) (resume : Resume) (f : AfterTurn) → Goes u log → AllGo log f.jobs → AllGo log (wake u resume f).jobs
  wake_go u resume f goes all = woken_go u resume f (slice_index_or f.held u None) goes all

  wake_each_go : (us : List TaskId) (resume : Resume) (f : AfterTurn) → EachTask (λ (k : ℕ). Goes k log) us → AllGo log f.jobs → AllGo log (wake_each us resume f).jobs
  wake_each_go [] resume f each all = all
  wake_each_go (u ∷ us) resume f each all = wake_each_go us resume (wake u.0 resume f) each.1 (wake_go u.0 resume f each.0 all)

  wake_if : (b : Bool) (f g : AfterTurn) → (b ≡ true → AllGo log f.jobs) → AllGo log g.jobs → AllGo log (if b then f else g).jobs
  wake_if true f g p q = p refl
  wake_if false f g p q = q

  not_ended : Sound roots log → (o : ℕ) (at : JobStage) → stage_at o log ≡ Some at → waits_at (Some at) ≡ true → HasEnded o log → ⊥
  not_ended s o at is waits ended = not_both (waits_at (stage_at o log)) (ap waits_at is ∙ waits) (ap waits_at (s.rests o ended).1)

  given_at : Sound roots log → (o : ℕ) (at : JobStage) → stage_at o log ≡ Some at → was_given o log ≡ true
  given_at s o at is = s.staged o (ap is_some is)

  -- the owner of a group that it closes goes on where each child has ended
  pub goes_closing : Sound roots log → (o g : ℕ) → stage_at o log ≡ Some (stage.Closes g) → ((u owner : TaskId) (p : Priority) → owner.0 ≡ o → In log (Child u owner g p) → HasEnded u.0 log) → Goes o log
  goes_closing s o g is all = record {
    origin = s.born o (given_at s o (stage.Closes g) is);
    alive = not_ended s o (stage.Closes g) is refl;
    free = record {
      waits = λ w u of h. elim (s.waits w u h).1 [
        | inl ended ↦ ended
        | inr at ↦ absurd (false≢true (ap is_waits (sym is ∙ subst (λ (k : ℕ). stage_at k log ≡ Some (stage.Waits u)) of at)))
      ];
      children = λ u owner k p of h closed. elim ((s.children u owner k p h).2 closed) [
        | inl ended ↦ ended
        | inr at ↦
            let same : g ≡ k = ap closes_one (sym is ∙ subst (λ (n : ℕ). stage_at n log ≡ Some (stage.Closes k)) of at) in
            all u owner p of (subst (λ (n : ℕ). In log (Child u owner n p)) (sym same) h)
      ];
    };
  }
    where
      is_waits : Option JobStage → Bool
      is_waits (Some (stage.Waits u)) = true
      is_waits _ = false

      closes_one : Option JobStage → ℕ
      closes_one (Some (stage.Closes g)) = g
      closes_one _ = 0

  closing_go : Sound roots log → (o g : ℕ) (c : Closing) (f : AfterTurn) → close_of (group_of o g log) ≡ c → stage_at o log ≡ Some (stage.Closes g) → AllGo log f.jobs → AllGo log (wake_closing o c f).jobs
  closing_go s o g closing.Done f done is all = wake_go o Go f (goes_closing s o g is (λ u owner p of h. closed_done o g log done u owner p of h)) all
  closing_go s o g closing.Wait f done is all = all

  owner_go : Sound roots log → (o g : ℕ) (e : Ending) (st : Option JobStage) (f : AfterTurn) → stage_at o log ≡ st → AllGo log f.jobs → AllGo log (wake_owner o g e st log f).jobs
  owner_go s o g e (Some (stage.Asks asked)) f is all =
      wake_if (asked == g) (wake o (resume_of e) f) f (λ so. wake_go o (resume_of e) f (goes_free roots o log s (given_at s o (stage.Asks asked) is) (not_ended s o (stage.Asks asked) is refl) (ap holds_at is)) all) all
  owner_go s o g e (Some (stage.Closes closed)) f is all =
      wake_if (closed == g) (wake_closing o (close_of (group_of o g log)) f) f
      (λ so. closing_go s o g (close_of (group_of o g log)) f refl (is ∙ ap (λ (k : ℕ). Some (stage.Closes k)) (equal_of closed g so)) all) all
  owner_go s o g e st f is all = all

  parent_go : Sound roots log → (x : Option (ℕ × ℕ)) (e : Ending) (f : AfterTurn) → AllGo log f.jobs → AllGo log (wake_parent x e log f).jobs
  parent_go s None e f all = all
  parent_go s (Some x) e f all = owner_go s x.0 x.1 e (stage_at x.0 log) f refl all

  wake_all_go : Sound roots log → (t : ℕ) (e : Ending) (f : AfterTurn) → WaitersGo t log → AllGo log f.jobs → AllGo log (wake_all t e log f).jobs
  wake_all_go s t e f waiters all = parent_go s (parent_of t log) e _ (wake_each_go (waiters_of t log) (resume_of e) f (each_waiter (λ (k : ℕ). Goes k log) t log waiters) all)

  -- the jobs that are made as an exit is followed
  pub followed_go : Sound roots log → (t n : ℕ) (frames : TaskView) (resume : Option Resume) (step : Step) (f : AfterTurn) → Requires t log resume step → AllGo log f.jobs → AllGo log (followed t n frames resume step log f).jobs
  followed_go s t n frames (Some resume) step f goes all = each_append (λ j. Goes j.task log) f.jobs _ all (goes, tt)
  followed_go s t n frames None (Ended e) f waiters all = wake_all_go s t e f waiters all
  followed_go s t n frames None _ f h all = all

-- what an exit writes

pub record Wrote (roots : ℕ) (t : ℕ) (a b : List Event) (resume : Option Resume) (step : Step) : Type 0 where
  pub leads : Leads roots a b
  pub fresh : (j : JobFacts) → Fresh a j → Fresh b j
  pub requires : Requires t b resume step

module _ (roots : ℕ) (t : ℕ) (log : List Event) (sound : Sound roots log) (active : Active t log) where
  goes_now : Goes t log
  goes_now = goes_free roots t log sound active.given active.alive (ap holds_at active.applied)

  -- nothing is written
  none_wrote : (resume : Resume) (step : Step) → Wrote roots t log (log ++ []) (Some resume) step
  none_wrote resume step = subst (λ (l : List Event). Wrote roots t log l (Some resume) step) (sym (append-nil log)) (record {
    leads = stays roots log;
    fresh = λ j f. f;
    requires = goes_now;
  })

  -- one event is written
  event_wrote : (e : Event) (resume : Option Resume) (step : Step) → May roots log e → given_in e ≡ None → Requires t (log ++ e ∷ []) resume step → Wrote roots t log (log ++ e ∷ []) resume step
  event_wrote e resume step may none requires = record {
    leads = leads_by roots log e may;
    fresh = λ j f. fresh_push log e none j f;
    requires = requires;
  }

  may_now : (e : Event) → task_of e ≡ t → origin_in e ≡ None → given_in e ≡ None → ending_in e ≡ None → is_child e ≡ false → May roots log e
  may_now e of origin none ending other =
      may_move roots log e origin ending other (λ q. not_both (is_some (given_in e)) q (ap is_some none))
      (subst (λ (k : ℕ). was_given k (log ++ e ∷ []) ≡ true) (sym of) (given_stays t log e active.given))
      (subst (λ (k : ℕ). IsFree k log) (sym of) goes_now.free)
      (subst (λ (k : ℕ). HasEnded k log → ⊥) (sym of) active.alive)

  sound_now : (e : Event) → May roots log e → Sound roots (log ++ e ∷ [])
  sound_now e may = sound_push roots log e sound may

  -- a wait for a task
  wait_wrote : (awaited : TaskId) (o : Option Ending) → Wrote roots t log (log ++ wait_events t awaited o) (wait_resume o) Await
  wait_wrote awaited (Some e) = none_wrote (resume_of e) Await
  wait_wrote awaited None = event_wrote (Wait (task t) awaited) None Await (may_now (Wait (task t) awaited) refl refl refl refl refl) refl tt

  -- a result of a group
  next_wrote : (g : ℕ) (a : Answer) → Wrote roots t log (log ++ next_events t g a) (next_resume a) Await
  next_wrote g answer.Empty = none_wrote (Raise Empty) Await
  next_wrote g (answer.Result child ending) =
      let e : Event = Next (task t) g in
      let may = may_now e refl refl refl refl refl in
      event_wrote e (Some (resume_of ending)) Await may refl (goes_asking e may refl)
    where
      goes_asking : (e : Event) → May roots log e → e ≡ Next (task t) g → Goes t (log ++ e ∷ [])
      goes_asking e may is =
          let now : stage_at t (log ++ e ∷ []) ≡ Some (stage.Asks g) = stage_now t log e (ap task_of is) (ap (λ (x : Event). is_some (stage_in x)) is) ∙ ap stage_in is in
          goes_free roots t (log ++ e ∷ []) (sound_now e may) (given_stays t log e active.given)
          (λ ended. elim (ended_came t log e ended) [ inl old ↦ active.alive old | inr new ↦ false≢true (sym (ap (λ (x : Event). is_some (ending_in x)) is) ∙ new.1) ])
          (ap holds_at now)
  next_wrote g answer.Wait = event_wrote (Next (task t) g) None Await (may_now (Next (task t) g) refl refl refl refl refl) refl tt

  -- a group is closed
  close_one : (g : ℕ) (c : Closing) → (c ≡ closing.Done → (u owner : TaskId) (q : Priority) → owner.0 ≡ t → In log (Child u owner g q) → HasEnded u.0 log) → Wrote roots t log (log ++ Close (task t) g ∷ []) (close_resume c) Await
  close_one g closing.Wait done = event_wrote (Close (task t) g) None Await (may_now (Close (task t) g) refl refl refl refl refl) refl tt
  close_one g closing.Done done =
      let e : Event = Close (task t) g in
      let may = may_now e refl refl refl refl refl in
      event_wrote e (Some Go) Await may refl (goes_closing roots (log ++ e ∷ []) (sound_now e may) t g (stage_now t log e refl refl)
      (λ u owner q of i. elim (in_push log e (Child u owner g q) i) [ inl old ↦ ended_stays u.0 log e (done refl u owner q of old) | inr x ↦ no_child e u owner g q refl x ]))

  -- the task ends
  end_wrote : (ending : Ending) → Wrote roots t log (log ++ End (task t) ending ∷ []) None (Ended ending)
  end_wrote ending =
      let e : Event = End (task t) ending in
      let may : May roots log e = record {
        low = λ q. absurd (false≢true q);
        born = λ q. absurd (false≢true q);
        given = λ q. absurd (false≢true q);
        moves = λ q. absurd (false≢true q);
        alive = λ q. absurd (false≢true q);
        ends = λ q. record { still = refl; given = active.given; applied = active.applied };
        child = λ u o g p q. no_child e u o g p refl q;
      } in
      event_wrote e None (Ended ending) may refl (λ w a i of. waiter_goes ending may w a of i)
    where
      awaited_of : Option JobStage → ℕ
      awaited_of (Some (stage.Waits u)) = u.0
      awaited_of _ = 0

      waiter_goes : (ending : Ending) → May roots log (End (task t) ending) → (w a : TaskId) → a.0 ≡ t → In (log ++ End (task t) ending ∷ []) (Wait w a) → Goes w.0 (log ++ End (task t) ending ∷ [])
      waiter_goes ending may w a of i =
          let e : Event = End (task t) ending in
          let last : List Event = log ++ e ∷ [] in
          let after : Sound roots last = sound_now e may in
          let old : In log (Wait w a) = elim (in_push log e (Wait w a) i) [ inl x ↦ x | inr q ↦ no_wait e w a refl q ] in
          let was = sound.waits w a old in
          let before : stage_at w.0 log ≡ Some (stage.Waits a) = elim was.1 [ inl ended ↦ absurd (active.alive (subst (λ (k : ℕ). HasEnded k log) of ended)) | inr at ↦ at ] in
          let now : stage_at w.0 last ≡ Some (stage.Waits a) = stage_same w.0 log e refl ∙ before in
          let gone : HasEnded a.0 last = subst (λ (k : ℕ). HasEnded k last) (sym of) (ended_now t log e refl refl) in
          record {
            origin = after.born w.0 (given_stays w.0 log e was.0);
            alive = λ ended. not_both (waits_at (stage_at w.0 last)) (ap waits_at now) (ap waits_at (after.rests w.0 ended).1);
            free = record {
              waits = λ v u same h. elim (after.waits v u h).1 [
                | inl ended ↦ ended
                | inr at ↦
                    let other : a.0 ≡ u.0 = ap awaited_of (sym now ∙ subst (λ (k : ℕ). stage_at k last ≡ Some (stage.Waits u)) same at) in
                    subst (λ (k : ℕ). HasEnded k last) other gone
              ];
              children = λ u o g p same h closed. elim ((after.children u o g p h).2 closed) [
                | inl ended ↦ ended
                | inr at ↦ absurd (false≢true (ap is_closes (sym now ∙ subst (λ (k : ℕ). stage_at k last ≡ Some (stage.Closes g)) same at)))
              ];
            };
          }
        where
          is_closes : Option JobStage → Bool
          is_closes (Some (stage.Closes g)) = true
          is_closes _ = false

  -- what an exit writes, by what comes next
  abbrev StepWrote : Advanced → Type 0
  StepWrote a = Wrote roots t log (log ++ end_events t a.step) (step_resume a.step) a.step

  if_wrote : (b : Bool) (x y : Advanced) → StepWrote x → StepWrote y → StepWrote (if b then x else y)
  if_wrote true x y p q = p
  if_wrote false x y p q = q

  called_wrote : (script : ScriptView) (p : FrameView) (callers : List FrameView) (outer : List (ℕ × ℤ)) (i : InvocationView) → StepWrote (called script p callers outer i)
  called_wrote script p callers outer i = if_wrote (nat_lt (length (p ∷ callers)) FRAMES) _ _ (none_wrote Start _) (none_wrote (Raise Depth) _)

  -- a frame is left
  resumed_wrote : (script : ScriptView) (p : FrameView) (callers : List FrameView) (outer : List (ℕ × ℤ)) (resume : Resume) (ending : Ending) → StepWrote (resumed script p callers outer resume ending)
  resumed_wrote script p [] outer resume ending = end_wrote ending
  resumed_wrote script p (q ∷ callers) outer resume ending = none_wrote resume _

-- a group that is closed with a fault is cancelled first
module _ (roots : ℕ) (t : ℕ) (log : List Event) (sound : Sound roots log) (active : Active t log) where
  close_wrote : (g : ℕ) (f : Option AnyFault) (c : Closing) → close_of (group_of t g log) ≡ c → Wrote roots t log (log ++ close_events t g f) (close_resume c) Await
  close_wrote g None c is = close_one roots t log sound active g c (λ done u owner q of i. closed_done t g log (is ∙ done) u owner q of i)
  close_wrote g (Some f) c is =
      let e : Event = CancelGroup (task t) g in
      let calm : Calm e = record { given = refl; stage = refl; ending = refl } in
      let may = may_calm roots log e calm refl refl in
      let mid : List Event = log ++ e ∷ [] in
      let w = close_one roots t mid (sound_push roots log e sound may) (active_push t log e calm active) g c
      (λ done u owner q of i. elim (in_push log e (Child u owner g q) i) [ inl old ↦ ended_stays u.0 log e (closed_done t g log (is ∙ done) u owner q of old) | inr x ↦ no_child e u owner g q refl x ]) in
      let last : List Event = mid ++ Close (task t) g ∷ [] in
      subst (λ (l : List Event). Wrote roots t log l (close_resume c) Await) (append_assoc log (e ∷ []) (Close (task t) g ∷ [])) (record {
        leads = leads_on roots log mid last (leads_by roots log e may) w.leads;
        fresh = λ j x. w.fresh j (fresh_push log e refl j x);
        requires = w.requires;
      })

  -- the whole exit
  pub exit_wrote : (script : ScriptView) (p : FrameView) (callers : List FrameView) (outer : List (ℕ × ℤ)) (exit : ExitView)
      → Wrote roots t log (log ++ exit_events t log exit (advanced script p callers outer exit).step) (exit_resume t log exit (advanced script p callers outer exit).step) (advanced script p callers outer exit).step
  exit_wrote script p callers outer (calling i) = called_wrote roots t log sound active script p callers outer i
  exit_wrote script p callers outer (waiting name) = wait_wrote roots t log sound active (named_task t name log) (life_of (named_task t name log).0 log).ending
  exit_wrote script p callers outer (asking_next g) = next_wrote roots t log sound active g (next_of (group_of t g log))
  exit_wrote script p callers outer (closing_group g f) = close_wrote g f (close_of (group_of t g log)) refl
  exit_wrote script p callers outer yielding = none_wrote roots t log sound active Go _
  exit_wrote script p callers outer (returning v) = resumed_wrote roots t log sound active script p callers outer (GivenValue v) (Value v)
  exit_wrote script p callers outer (failing f) = resumed_wrote roots t log sound active script p callers outer (Raise f) (Fault f)
