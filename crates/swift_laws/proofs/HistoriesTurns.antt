-- The end of a turn, and each block of a history, keeps the turns of each task counted.
use Rattle.swift_laws.proofs.Prelude.{◌≡◌, ◌≢◌, ℕ, ◌+◌, ◌<◌, ◌≤◌, List, [], ◌∷◌, ◌++◌, length, zero, suc, refl, sym, ◌∙◌, ap, arith, Bool, true, false, inl, inr, subst, append_assoc, replicate, get_or-set_other, ◌⊎◌, ◌==◌, ◌&&◌, nat_lt, Option, Some, None, IfSome, if◌then◌else◌, slice_set, unwrap_or, AllByRecursion, cases_eq, false≢true, eqb-true, ltb-true, append-nil, TaskId, Ending, Resume, Priority, Background, close_of, Env, ScriptView, root_count, root_priority, FrameView, EffectView, spawning, detaching, opening, adding, cancelling_task, cancelling_group, ExitView, Step, Run, Ended, Await, TaskView, Advanced, CheckpointView, Event, Root, Apply, Child, Skip, Give, Life, Origin, LastJob, JobStage, task_of, is_made, tasks_of, later, life_of, origin_in, group_of, parent_of, waiters_of, life_of-push_same, unborn_without, tasks_of-push_made, is_current, was_given, same_resume, is_under_way, task, JobFacts, WaitingTaskView, AfterTurn, woken, wake, wake_each, wake_closing, wake_owner, wake_parent, wake_all, followed, resume_of, first_job, effect_events, effect_jobs, exit_events, exit_resume, is_left_out, log_after, jobs_made, gives, turn_end, root_job, root_events, Block, added, begun, ran, folded, Standing, Stands, AllStand, TurnStands, after_block, after_blocks, at_first, frames_applied, turn_applied}
use Rattle.swift_groups.specs.declared.answer.Close.{Close as Closing}
use Rattle.swift_groups.specs.declared.answer.Close.TheVariants as closing
use Rattle.swift_events.specs.declared.life.JobStage.TheVariants as stage
use Rattle.swift_laws.proofs.OpenLogs.{tasks_grow}
use Rattle.swift_laws.proofs.HistoriesWritten.{IsWritten, keeps_effect, keeps_effects, keeps_exit}
use Rattle.swift_laws.proofs.HistoriesCounted.{applied, held_at, IsCounted, Counts, AreCounted, HasNumber, Rests, JobFits, starts, idle_turn, idle_applied, idle_push, written_idle, written_within, counted_number, apply_push, rest_push, rests_push, fits_push, give_push, begin_push, some_held, unbegun, held_rests}

-- lists

pub all_map : {X : Type 0} {P Q : X → Type 0} → ((x : X) → P x → Q x) → (xs : List X) → AllByRecursion P xs → AllByRecursion Q xs
all_map f [] all = tt
all_map f (x ∷ xs) all = (f x all.0, all_map f xs all.1)

pub all_append : {X : Type 0} (P : X → Type 0) (xs ys : List X) → AllByRecursion P xs → AllByRecursion P ys → AllByRecursion P (xs ++ ys)
all_append P [] ys p q = q
all_append P (x ∷ xs) ys p q = (p.0, all_append P xs ys p.1 q)

pub both : (a b : Bool) → (a && b) ≡ true → (a ≡ true) × (b ≡ true)
both true b h = (refl, h)
both false b h = absurd (false≢true h)

pub none_in : (k u : ℕ) → held_at (replicate k None) u ≡ None
none_in (suc k) (suc u) = none_in k u
none_in _ _ = refl

pub held_more : (held : List (Option WaitingTaskView)) (k u : ℕ) → held_at (held ++ replicate k None) u ≡ held_at held u
held_more [] k u = none_in k u
held_more (x ∷ xs) k zero = refl
held_more (x ∷ xs) k (suc u) = held_more xs k u

pub none_set : (held : List (Option WaitingTaskView)) (u : ℕ) → held_at (slice_set held u None) u ≡ None
none_set (x ∷ xs) (suc u) = none_set xs u
none_set _ _ = refl

pub some_set : (held : List (Option WaitingTaskView)) (u : ℕ) (h : WaitingTaskView) → (held_at (slice_set held u (Some h)) u ≡ Some h) ⊎ (held_at (slice_set held u (Some h)) u ≡ held_at held u)
some_set [] u h = inr refl
some_set (x ∷ xs) zero h = inl refl
some_set (x ∷ xs) (suc u) h = some_set xs u h

pub other_set : (held : List (Option WaitingTaskView)) (u t : ℕ) (o : Option WaitingTaskView) → t ≢ u → held_at (slice_set held u o) t ≡ held_at held t
other_set held u t o ne = get_or-set_other held u t o None ne

-- what is held changes

counts_held : (log : List Event) (held held' : List (Option WaitingTaskView)) (t : ℕ) → held_at held' t ≡ held_at held t → Counts log held t → Counts log held' t
counts_held log held held' t same c = subst (λ (h : Option WaitingTaskView). IsCounted (life_of t log).origin (life_of t log).given (life_of t log).stage (applied t log) h) (sym same) c

pub counted_more : (roots : ℕ) (log : List Event) (held : List (Option WaitingTaskView)) (k : ℕ) → AreCounted roots log held → AreCounted roots log (held ++ replicate k None)
counted_more roots log held k are = record { each = λ t. counts_held log held (held ++ replicate k None) t (held_more held k t) (are.each t); beyond = are.beyond; numbered = are.numbered }

pub counted_taken : (roots : ℕ) (log : List Event) (held : List (Option WaitingTaskView)) (u : ℕ) → AreCounted roots log held → AreCounted roots log (slice_set held u None)
counted_taken roots log held u are = grind (arith, cases_eq, slice_set, none_set, counts_held, other_set)

pub fits_taken : (log : List Event) (held : List (Option WaitingTaskView)) (u : ℕ) (j : JobFacts) → JobFits log held j → JobFits log (slice_set held u None) j
fits_taken log held u j f = grind (arith, cases_eq, slice_set, none_set, other_set)

-- jobs of one end of a turn

-- no turn of the job's task is under way
abbrev pub Resting : List Event → JobFacts → Type 0
Resting log j = is_under_way (life_of j.task log).stage ≡ false

-- a job of another task than this one
abbrev pub IsOther : ℕ → JobFacts → Type 0
IsOther t j = j.task ≢ t

-- no two jobs are of one task
abbrev pub Apart : List JobFacts → Type 0
Apart [] = Unit {0}
Apart (j ∷ js) = AllByRecursion (IsOther j.task) js × Apart js

apart_push : (js : List JobFacts) (j : JobFacts) → Apart js → AllByRecursion (IsOther j.task) js → Apart (js ++ j ∷ [])
apart_push [] j apart all = (tt, tt)
apart_push (i ∷ js) j apart all = (all_append (IsOther i.task) js (j ∷ []) apart.0 ((λ same. all.0 (sym same)), tt), apart_push js j apart.1 all.1)

-- what follows from a turn

pub record FollowFits (roots : ℕ) (log : List Event) (f : AfterTurn) : Type 0 where
  pub counted : AreCounted roots log f.held
  pub jobs : AllByRecursion (JobFits log f.held) f.jobs
  pub resting : AllByRecursion (Resting log) f.jobs
  pub apart : Apart f.jobs

woken_fits : (roots : ℕ) (log : List Event) (u : ℕ) (resume : Resume) (f : AfterTurn) (o : Option WaitingTaskView) → held_at f.held u ≡ o → FollowFits roots log f → FollowFits roots log (woken u resume f o)
woken_fits roots log u resume f None is fits = fits
woken_fits roots log u resume f (Some h) is fits =
    let others : AllByRecursion (IsOther u) f.jobs =
    all_map (λ j fit. λ (same : j.task ≡ u). (let e : Some h ≡ None = sym is ∙ subst (λ (k : ℕ). held_at f.held k ≡ None) same fit.free in cc)) f.jobs fits.jobs in
    record {
      counted = counted_taken roots log f.held u fits.counted;
      jobs = all_append (JobFits log (slice_set f.held u None)) f.jobs _ (all_map (fits_taken log f.held u) f.jobs fits.jobs) (
        record {
          made = λ none. (let e : Some h ≡ None = sym is ∙ ((fits.counted.each u).unmade none).2 in cc);
          number = subst (λ (x : Option WaitingTaskView). IfSome x (λ y. y.number ≡ applied u log)) is (fits.counted.each u).waits;
          free = none_set f.held u;
        },
        tt,
      );
      resting = all_append (Resting log) f.jobs _ fits.resting (held_rests h is (fits.counted.each u), tt);
      apart = apart_push f.jobs _ fits.apart others;
    }

wake_fits : (roots : ℕ) (log : List Event) (u : ℕ) (resume : Resume) (f : AfterTurn) → FollowFits roots log f → FollowFits roots log (wake u resume f)
wake_fits roots log u resume f fits = woken_fits roots log u resume f (held_at f.held u) refl fits

wake_each_fits : (roots : ℕ) (log : List Event) (us : List TaskId) (resume : Resume) (f : AfterTurn) → FollowFits roots log f → FollowFits roots log (wake_each us resume f)
wake_each_fits roots log [] resume f fits = fits
wake_each_fits roots log (u ∷ us) resume f fits = wake_each_fits roots log us resume (wake u.0 resume f) (wake_fits roots log u.0 resume f fits)

wake_closing_fits : (roots : ℕ) (log : List Event) (o : ℕ) (c : Closing) (f : AfterTurn) → FollowFits roots log f → FollowFits roots log (wake_closing o c f)
wake_closing_fits roots log o closing.Done f fits = wake_fits roots log o _ f fits
wake_closing_fits roots log o closing.Wait f fits = fits

either_fits : (roots : ℕ) (log : List Event) (b : Bool) (f g : AfterTurn) → FollowFits roots log f → FollowFits roots log g → FollowFits roots log (if b then f else g)
either_fits roots log true f g p q = p
either_fits roots log false f g p q = q

wake_owner_fits : (roots : ℕ) (log : List Event) (o g : ℕ) (e : Ending) (s : Option JobStage) (f : AfterTurn) → FollowFits roots log f → FollowFits roots log (wake_owner o g e s log f)
wake_owner_fits roots log o g e (Some (stage.Asks asked)) f fits = either_fits roots log (asked == g) (wake o (resume_of e) f) f (wake_fits roots log o (resume_of e) f fits) fits
wake_owner_fits roots log o g e (Some (stage.Closes closed)) f fits =
    either_fits roots log (closed == g) (wake_closing o (close_of (group_of o g log)) f) f (wake_closing_fits roots log o (close_of (group_of o g log)) f fits) fits
wake_owner_fits roots log o g e _ f fits = fits

wake_parent_fits : (roots : ℕ) (log : List Event) (p : Option (ℕ × ℕ)) (e : Ending) (f : AfterTurn) → FollowFits roots log f → FollowFits roots log (wake_parent p e log f)
wake_parent_fits roots log None e f fits = fits
wake_parent_fits roots log (Some x) e f fits = wake_owner_fits roots log x.0 x.1 e (life_of x.0 log).stage f fits

wake_all_fits : (roots : ℕ) (log : List Event) (t : ℕ) (e : Ending) (f : AfterTurn) → FollowFits roots log f → FollowFits roots log (wake_all t e log f)
wake_all_fits roots log t e f fits = wake_parent_fits roots log (parent_of t log) e (wake_each (waiters_of t log) (resume_of e) f) (wake_each_fits roots log (waiters_of t log) (resume_of e) f fits)

-- a job of another task than the one whose turn it is
pub record MadeFits (log : List Event) (held : List (Option WaitingTaskView)) (t : ℕ) (j : JobFacts) : Type 0 where
  pub fits : JobFits log held j
  pub rest : Resting log j
  pub other : j.task ≢ t

waits_fits : (roots : ℕ) (log : List Event) (held : List (Option WaitingTaskView)) (jobs : List JobFacts) (t n : ℕ) (frames : TaskView) → AreCounted roots log held → Rests log held t n → AllByRecursion (MadeFits log held t) jobs → Apart jobs
    → FollowFits roots log (record { held = slice_set held t (Some (record { number = n + 1; frames = frames })); jobs = jobs })
waits_fits roots log held jobs t n frames are rests all apart =
    let h : WaitingTaskView = record { number = n + 1; frames = frames } in
    let held' = slice_set held t (Some h) in
    record {
      counted = record {
        each = λ u. elim (cases_eq t u) [
          | inl same ↦ subst (λ (k : ℕ). Counts log held' k) same
              (elim (some_set held t h) [
                | inl is ↦ subst (λ (x : Option WaitingTaskView). IsCounted (life_of t log).origin (life_of t log).given (life_of t log).stage (applied t log) x) (sym is) (some_held h rests.made rests.rest (sym rests.turns) (are.each t))
                | inr is ↦ counts_held log held held' t is (are.each t)
              ])
          | inr other ↦ counts_held log held held' u (other_set held t u (Some h) (λ q. other (sym q))) (are.each u)
        ];
        beyond = are.beyond;
        numbered = are.numbered;
      };
      jobs = all_map (λ j m. record { made = m.fits.made; number = m.fits.number; free = other_set held t j.task (Some h) m.other ∙ m.fits.free }) jobs all;
      resting = all_map (λ j m. m.rest) jobs all;
      apart = apart;
    }

followed_fits : (roots : ℕ) (log : List Event) (held : List (Option WaitingTaskView)) (jobs : List JobFacts) (t n : ℕ) (frames : TaskView) (o : Option Resume) (step : Step)
    → AreCounted roots log held → Rests log held t n → AllByRecursion (MadeFits log held t) jobs → Apart jobs → FollowFits roots log (followed t (n + 1) frames o step log (record { held = held; jobs = jobs }))
followed_fits roots log held jobs t n frames (Some resume) step are rests all apart = record {
  counted = are;
  jobs = all_append (JobFits log held) jobs _ (all_map (λ j m. m.fits) jobs all) (record { made = rests.made; number = sym rests.turns; free = rests.free }, tt);
  resting = all_append (Resting log) jobs _ (all_map (λ j m. m.rest) jobs all) (rests.rest, tt);
  apart = apart_push jobs _ apart (all_map (λ j m. m.other) jobs all);
}
followed_fits roots log held jobs t n frames None (Ended e) are rests all apart = wake_all_fits roots log t e _
    (record { counted = are; jobs = all_map (λ j m. m.fits) jobs all; resting = all_map (λ j m. m.rest) jobs all; apart = apart })
followed_fits roots log held jobs t n frames None (Run actor resume) are rests all apart = waits_fits roots log held jobs t n frames are rests all apart
followed_fits roots log held jobs t n frames None Await are rests all apart = waits_fits roots log held jobs t n frames are rests all apart

gives_counted : (roots : ℕ) (log : List Event) (held : List (Option WaitingTaskView)) (jobs : List JobFacts) → AreCounted roots log held → AllByRecursion (JobFits log held) jobs → AreCounted roots (log ++ gives jobs) held
gives_counted roots log held [] are all = subst (λ (l : List Event). AreCounted roots l held) (sym (append-nil log)) are
gives_counted roots log held (j ∷ js) are all =
    let e : Event = Give (task j.task) j.number j.resume in
    subst (λ (l : List Event). AreCounted roots l held) (append_assoc log (e ∷ []) (gives js))
    (gives_counted roots (log ++ e ∷ []) held js (give_push roots log held j all.0 are) (all_map (λ i f. fits_push log held i e refl f) js all.1))

pub gives_applied : (t : ℕ) (log : List Event) (jobs : List JobFacts) → applied t (log ++ gives jobs) ≡ applied t log
gives_applied t log [] = ap (applied t) (append-nil log)
gives_applied t log (j ∷ js) =
    let e : Event = Give (task j.task) j.number j.resume in
    ap (applied t) (sym (append_assoc log (e ∷ []) (gives js))) ∙ gives_applied t (log ++ e ∷ []) js ∙ idle_applied t log e refl

-- the jobs of the tasks that effects make

-- their tasks have numbers from this one on, and each its own
abbrev MadeFrom : ℕ → List JobFacts → Type 0
MadeFrom n js = AllByRecursion (λ (j : JobFacts). n ≤ j.task) js × Apart js

made_later : (n m : ℕ) (js : List JobFacts) → n ≤ m → MadeFrom m js → MadeFrom n js
made_later n m js le p = (all_map (λ (j : JobFacts) (at : m ≤ j.task). (let it : n ≤ j.task = omega (arith, le, at) in it)) js p.0, p.1)

made_next : (roots : ℕ) (log : List Event) (e : Event) (j : JobFacts) (js : List JobFacts) → is_made e ≡ true → j.task ≡ tasks_of roots log → MadeFrom (tasks_of roots (log ++ e ∷ [])) js → MadeFrom (tasks_of roots log) (j ∷ js)
made_next roots log e j js made at p =
    let more = tasks_of-push_made roots log e made in
    let here : tasks_of roots log ≤ j.task = omega (arith, at) in
    let others : AllByRecursion (IsOther j.task) js =
    all_map (λ (i : JobFacts) (le : tasks_of roots (log ++ e ∷ []) ≤ i.task). λ (same : i.task ≡ j.task). absurd (omega (arith, more, at, le, same))) js p.0 in
    ((here, (made_later (tasks_of roots log) (tasks_of roots (log ++ e ∷ [])) js (omega (arith, more)) p).0), (others, p.1))

module _ (script : ScriptView) (t : ℕ) (own : Priority) where
  made_or : (log : List Event) (skip child : Event) (j : JobFacts) (es : List EffectView) (b : Bool) → is_made child ≡ true → j.task ≡ tasks_of (root_count script) log
      → MadeFrom (tasks_of (root_count script) (log ++ skip ∷ [])) (jobs_made script t own (log ++ skip ∷ []) es)
      → MadeFrom (tasks_of (root_count script) (log ++ child ∷ [])) (jobs_made script t own (log ++ child ∷ []) es)
      → MadeFrom (tasks_of (root_count script) log) ((if b then [] else j ∷ []) ++ jobs_made script t own (log ++ (if b then skip ∷ [] else child ∷ [])) es)
  made_or log skip child j es true made at p q = made_later _ _ (jobs_made script t own (log ++ skip ∷ []) es) (tasks_grow (root_count script) log (skip ∷ [])) p
  made_or log skip child j es false made at p q = made_next (root_count script) log child j (jobs_made script t own (log ++ child ∷ []) es) made at q

  made_from : (log : List Event) (es : List EffectView) → MadeFrom (tasks_of (root_count script) log) (jobs_made script t own log es)
  made_from log [] = (tt, tt)
  made_from log (spawning i p bindings ∷ es) =
      made_next (root_count script) log _ (first_job script (tasks_of (root_count script) log) i.method i.args bindings) _ refl refl (made_from _ es)
  made_from log (detaching i p ∷ es) =
      made_next (root_count script) log _ (first_job script (tasks_of (root_count script) log) i.method i.args []) _ refl refl (made_from _ es)
  made_from log (opening ∷ es) = made_later _ _ _ (tasks_grow (root_count script) log _) (made_from (log ++ effect_events (root_count script) t own log opening) es)
  made_from log (adding g unless i p bindings ∷ es) =
      made_or log (Skip (task t) g) (Child (task (tasks_of (root_count script) log)) (task t) g (unwrap_or p Background))
      (first_job script (tasks_of (root_count script) log) i.method i.args bindings) es (is_left_out t g unless log) refl refl (made_from _ es) (made_from _ es)
  made_from log (cancelling_task name ∷ es) = made_later _ _ _ (tasks_grow (root_count script) log _) (made_from (log ++ effect_events (root_count script) t own log (cancelling_task name)) es)
  made_from log (cancelling_group g ∷ es) = made_later _ _ _ (tasks_grow (root_count script) log _) (made_from (log ++ effect_events (root_count script) t own log (cancelling_group g)) es)

module _ (script : ScriptView) (held : List (Option WaitingTaskView)) (t n : ℕ) (own : Priority) where
  -- what holds from the turn's being applied until its jobs are made
  abbrev pub Here : List Event → Type 0
  Here log = AreCounted (root_count script) log held × Rests log held t n

  pub here_push : (log : List Event) (e : Event) → IsWritten (root_count script) t log e → Here log → Here (log ++ e ∷ [])
  here_push log e w h =
      let idle = written_idle (root_count script) t log e w in
      (idle_push (root_count script) log held e idle (written_within (root_count script) t log e w) h.0, rests_push log held t n e idle h.1)

  fits_on : (log : List Event) (j : JobFacts) (e : Event) → IsWritten (root_count script) t log e → MadeFits log held t j → MadeFits (log ++ e ∷ []) held t j
  fits_on log j e w m =
      let idle = written_idle (root_count script) t log e w in
      record { fits = fits_push log held j e (idle_turn j.task e idle) m.fits; rest = rest_push j.task log e idle m.rest; other = m.other }

  made_one : (log : List Event) (e : Event) (j : JobFacts) (x : Origin) → origin_in e ≡ Some x → starts e ≡ false → task_of e ≡ j.task → j.task ≡ tasks_of (root_count script) log → j.number ≡ 0 → Here log → MadeFits (log ++ e ∷ []) held t j
  made_one log e j x made idle of at first h =
      let none : (life_of j.task log).origin ≡ None = h.0.beyond j.task (omega (arith, at)) in
      let before = (h.0.each j.task).unmade none in
      record {
        fits = record {
          made = subst (λ (l : Life). l.origin ≢ None) (sym (life_of-push_same j.task log e of))
              (subst (λ (o : Option Origin). later o (life_of j.task log).origin ≢ None) (sym made) (λ (q : Some x ≡ None). cc));
          number = first ∙ sym before.0 ∙ sym (idle_applied j.task log e (idle_turn j.task e idle));
          free = before.2;
        };
        rest = rest_push j.task log e idle (unbegun (h.0.each j.task) none);
        other = λ same. h.1.made (subst (λ (k : ℕ). (life_of k log).origin ≡ None) same none);
      }

  lift : (log : List Event) (es : List EffectView) (js : List JobFacts) → AllByRecursion (MadeFits log held t) js → AllByRecursion (MadeFits (log_after (root_count script) t own log es) held t) js
  lift log es js all = all_map (λ j m. keeps_effects (λ (l : List Event). MadeFits l held t j) (root_count script) t own (λ l e w p. fits_on l j e w p) log es m) js all

  added_first : (log : List Event) (skip child : Event) (j : JobFacts) (b : Bool) → MadeFits (log ++ child ∷ []) held t j → AllByRecursion (MadeFits (log ++ (if b then skip ∷ [] else child ∷ [])) held t) (if b then [] else j ∷ [])
  added_first log skip child j true m = tt
  added_first log skip child j false m = (m, tt)

  first_fits : (log : List Event) (e : EffectView) → Here log → AllByRecursion (MadeFits (log ++ effect_events (root_count script) t own log e) held t) (effect_jobs script t log e)
  first_fits log (spawning i p bindings) h = (made_one log _ _ _ refl refl refl refl refl h, tt)
  first_fits log (detaching i p) h = (made_one log _ _ _ refl refl refl refl refl h, tt)
  first_fits log (adding g unless i p bindings) h =
      added_first log (Skip (task t) g) (Child (task (tasks_of (root_count script) log)) (task t) g (unwrap_or p Background))
      (first_job script (tasks_of (root_count script) log) i.method i.args bindings) (is_left_out t g unless log) (made_one log _ _ _ refl refl refl refl refl h)
  first_fits log _ h = tt

  made_fit : (log : List Event) (es : List EffectView) → Here log → AllByRecursion (MadeFits (log_after (root_count script) t own log es) held t) (jobs_made script t own log es)
  made_fit log [] h = tt
  made_fit log (e ∷ es) h =
      let log' = log ++ effect_events (root_count script) t own log e in
      all_append (MadeFits (log_after (root_count script) t own log' es) held t) (effect_jobs script t log e) (jobs_made script t own log' es)
      (lift log' es (effect_jobs script t log e) (first_fits log e h))
      (made_fit log' es (keeps_effect Here (root_count script) t own here_push log e h))

  -- what follows from the turn
  pub turn_follows : (log : List Event) (effects : List EffectView) (exit : ExitView) (after : Advanced) → HasNumber (life_of t log).given n → is_under_way (life_of t log).stage ≡ true → AreCounted (root_count script) log held
      → (let done = log_after (root_count script) t own (log ++ Apply (task t) n ∷ []) effects in
      let written = done ++ exit_events t done exit after.step in
      let made = jobs_made script t own (log ++ Apply (task t) n ∷ []) effects in
      Here written × FollowFits (root_count script) written (followed t (n + 1) after.task (exit_resume t done exit after.step) after.step written (record { held = held ++ replicate (length made) None; jobs = made })))
  turn_follows log effects exit after has under are =
      let roots = root_count script in
      let begun = log ++ Apply (task t) n ∷ [] in
      let done = log_after roots t own begun effects in
      let written = done ++ exit_events t done exit after.step in
      let made = jobs_made script t own begun effects in
      let more = held ++ replicate (length made) None in
      let h0 : Here begun = apply_push roots log held t n has under are in
      let h1 : Here done = keeps_effects Here roots t own here_push begun effects h0 in
      let h2 : Here written = keeps_exit Here roots t own here_push done exit after.step h1 in
      let jobs : AllByRecursion (MadeFits written held t) made =
      all_map (λ j m. keeps_exit (λ (l : List Event). MadeFits l held t j) roots t own (λ l e w p. fits_on l j e w p) done exit after.step m) made (made_fit begun effects h0) in
      let jobs' : AllByRecursion (MadeFits written more t) made =
      all_map (λ j m. record { fits = record { made = m.fits.made; number = m.fits.number; free = held_more held (length made) j.task ∙ m.fits.free }; rest = m.rest; other = m.other }) made jobs in
      let rests : Rests written more t n = record { made = h2.1.made; rest = h2.1.rest; turns = h2.1.turns; free = held_more held (length made) t ∙ h2.1.free } in
      (h2, followed_fits roots written more made t n after.task (exit_resume t done exit after.step) after.step (counted_more roots written held (length made) h2.0) rests jobs' (made_from script t own begun effects).1)

  -- the whole end of a turn
  pub turn_counted : (log : List Event) (effects : List EffectView) (exit : ExitView) (after : Advanced) → HasNumber (life_of t log).given n → is_under_way (life_of t log).stage ≡ true → AreCounted (root_count script) log held
      → (let e = turn_end script log held t n own effects exit after in AreCounted (root_count script) e.log e.held × (applied t e.log ≡ n + 1))
  turn_counted log effects exit after has under are =
      let done = log_after (root_count script) t own (log ++ Apply (task t) n ∷ []) effects in
      let written = done ++ exit_events t done exit after.step in
      let f = turn_follows log effects exit after has under are in
      (gives_counted (root_count script) written _ _ f.1.counted f.1.jobs, gives_applied t written _ ∙ f.0.1.turns)

-- blocks

number_in : (g : Option LastJob) (n : ℕ) (resume : Resume) → was_given g n resume ≡ true → HasNumber g n
number_in None n resume is = absurd (false≢true is)
number_in (Some g) n resume is = eqb-true g.number n (both (g.number == n) (same_resume g.resume resume) is).0

-- the turn that is current is that of the last job, and under way
pub current_is : (l : Life) (n : ℕ) (resume : Resume) → is_current l n resume ≡ true → HasNumber l.given n × (is_under_way l.stage ≡ true)
current_is l n resume is = grind (arith, both, was_given, number_in, nat_lt, is_under_way)

-- what a turn of a job leaves
pub applied_is : (script : ScriptView) (s : Standing) (t n : ℕ) (j : JobFacts) (p : FrameView) (callers : List FrameView) (effects : List EffectView) (exit : ExitView) (after : Option FrameView)
    → s.jobs t ≡ Some j → j.frames.frames ≡ p ∷ callers
    → turn_applied script s t n effects exit after ≡ frames_applied script s t n (p ∷ callers) j.frames.outer effects exit after
applied_is script s t n j p callers effects exit after given is = grind arith

pub turn_keeps : (script : ScriptView) (s : Standing) (e t n : ℕ) (effects : List EffectView) (exit : ExitView) (after : Option FrameView) (job : JobFacts) (env : Env) (frame : FrameView)
    → TurnStands script s e t n effects exit job env frame → AreCounted (root_count script) s.log s.held
    → (let z = turn_applied script s t n effects exit after in AreCounted (root_count script) z.log z.held × (applied t z.log ≡ n + 1) × (applied t s.log ≡ n))
turn_keeps script s e t n effects exit after job env frame stands are = grind (arith, current_is, turn_counted, applied_is, counted_number)

root_keeps : (script : ScriptView) (s : Standing) (r : ℕ) → nat_lt r (root_count script) ≡ true → (life_of r s.log).origin ≡ None → AreCounted (root_count script) s.log s.held → AreCounted (root_count script) (s.log ++ root_events script r) s.held
root_keeps script s r less none are =
    let roots = root_count script in
    let e : Event = Root (task r) (root_priority script r) in
    let lt : r < roots = ltb-true r roots less in
    let before = (are.each r).unmade none in
    let first = idle_push roots s.log s.held e refl (inr (omega (arith, lt))) are in
    subst (λ (l : List Event). AreCounted roots l s.held) (append_assoc s.log (e ∷ []) _)
    (give_push roots (s.log ++ e ∷ []) s.held (root_job script r)
    (record {
      made = subst (λ (l : Life). l.origin ≢ None) (sym (life_of-push_same r s.log e refl)) (λ q. cc);
      number = sym before.0 ∙ sym (idle_applied r s.log e refl);
      free = before.2;
    }) first)

pub block_keeps : (script : ScriptView) (cps : List CheckpointView) (before : List Block) (b : Block) → Stands script cps before b
    → (let s = after_blocks script (at_first script) before in AreCounted (root_count script) s.log s.held → AreCounted (root_count script) (after_block script s b).log (after_block script s b).held)
block_keeps script cps before (added r) stands are = root_keeps script (after_blocks script (at_first script) before) r stands.0 stands.1 are
block_keeps script cps before (begun t n env) stands are =
    let s = after_blocks script (at_first script) before in
    begin_push (root_count script) s.log s.held t n env (current_is (life_of t s.log) n stands.0.resume stands.2).1 are
block_keeps script cps before (ran e r) stands are = (turn_keeps script (after_blocks script (at_first script) before) e r.task r.number r.effects r.exit r.after stands.job r.env r.frame stands.stands are).0
block_keeps script cps before (folded e f) stands are = (turn_keeps script (after_blocks script (at_first script) before) e f.task f.number f.effects f.exit f.after stands.0.job stands.0.env stands.0.frame stands.0.stands are).0

pub first_counted : (script : ScriptView) → AreCounted (root_count script) (at_first script).log (at_first script).held
first_counted script = record {
  each = λ t. subst (λ (l : Life). IsCounted l.origin l.given l.stage 0 (held_at (replicate (root_count script) None) t)) (sym (unborn_without t [] refl))
      (subst (λ (h : Option WaitingTaskView). IsCounted None None None 0 h) (sym (none_in (root_count script) t))
      (record { unmade = λ none. (refl, refl, refl); current = λ is. absurd (false≢true is); waits = tt }));
  beyond = λ t le. ap (λ (l : Life). l.origin) (unborn_without t [] refl);
  numbered = λ t. refl;
}

pub after_push : (script : ScriptView) (s : Standing) (bs : List Block) (b : Block) → after_blocks script s (bs ++ b ∷ []) ≡ after_block script (after_blocks script s bs) b
after_push script s [] b = refl
after_push script s (c ∷ bs) b = after_push script (after_block script s c) bs b

-- as blocks are added, the turns stay counted
pub all_keep : (script : ScriptView) (cps : List CheckpointView) (before bs : List Block) → AllStand script cps before bs → AreCounted (root_count script) (after_blocks script (at_first script) before).log (after_blocks script (at_first script) before).held
    → AreCounted (root_count script) (after_blocks script (at_first script) (before ++ bs)).log (after_blocks script (at_first script) (before ++ bs)).held
all_keep script cps before [] all are = subst (λ (xs : List Block). AreCounted (root_count script) (after_blocks script (at_first script) xs).log (after_blocks script (at_first script) xs).held) (sym (append-nil before)) are
all_keep script cps before (b ∷ bs) all are =
    subst (λ (xs : List Block). AreCounted (root_count script) (after_blocks script (at_first script) xs).log (after_blocks script (at_first script) xs).held) (append_assoc before (b ∷ []) bs)
    (all_keep script cps (before ++ b ∷ []) bs all.1
    (subst (λ (z : Standing). AreCounted (root_count script) z.log z.held) (sym (after_push script (at_first script) before b)) (block_keeps script cps before b all.0 are)))
