-- What is held while tasks go on: a task is held exactly where it waits and no job of it was made.
use Rattle.swift_tasks.proofs.Prelude.{◌≡◌, ℕ, zero, suc, ◌<◌, List, [], ◌∷◌, ◌++◌, length, get_or, refl, sym, ◌∙◌, ap, arith, Bool, true, false, inl, inr, append_assoc, get_or-set_same, get_or-set_other, length-set, Option, Some, None, is_some, if◌then◌else◌, ◌&&◌, ◌||◌, ◌==◌, not, slice_index_or, slice_set, cases_eq, false≢true, TaskId, Resume, Go, Ending, close_of, Step, Run, Ended, Await, TaskView, Event, JobStage, life_of, is_waiting, waiters_of, group_of, parent_of, JobFacts, WaitingTaskView, AfterTurn, resume_at, resume_of, woken, wake, wake_each, wake_closing, wake_owner, wake_parent, wake_all, followed, AreMade}
use Rattle.swift_groups.specs.declared.answer.Close.{Close as Closing}
use Rattle.swift_groups.specs.declared.answer.Close.TheVariants as closing
use Rattle.swift_events.specs.declared.life.JobStage.TheVariants as stage
use Rattle.swift_tasks.proofs.JobsGiven.{among, among-append, equal, unequal, made-append}

-- which of `n` tasks are held, by this log; each of them was made, as each of those of which a job was made
pub record IsKept (n : ℕ) (log : List Event) (f : AfterTurn) : Type 0 where
  pub size : length f.held ≡ n
  pub waits : (t : ℕ) → is_some (slice_index_or f.held t None) ≡ (not (among t f.jobs) && is_waiting (life_of t log))
  pub made : AreMade log f.jobs

-- each task that waits was made
pub record WaitersAreMade (log : List Event) : Type 0 where
  pub at : (t : ℕ) → is_waiting (life_of t log) ≡ true → is_some (life_of t log).origin ≡ true

second : (a b : Bool) → true ≡ (a && b) → b ≡ true
second true b h = sym h
second false b h = absurd (false≢true (sym h))

in_list : {A : Type 0} (xs : List (Option A)) (t : ℕ) (x : A) → get_or xs t None ≡ Some x → t < length xs
in_list [] t x is = absurd (false≢true (ap is_some is))
in_list (y ∷ ys) zero x is = omega arith
in_list (y ∷ ys) (suc t) x is = let lt = in_list ys t x is in omega (arith, lt)

abbrev job_of : ℕ → Resume → WaitingTaskView → JobFacts
job_of u resume h = record { task = u; number = h.number; resume = resume_at h.number resume; frames = h.frames }

or_false : (b : Bool) → (b || false) ≡ b
or_false true = refl
or_false false = refl

or_true : (b : Bool) → (b || true) ≡ true
or_true true = refl
or_true false = refl

among_last : (t : ℕ) (js : List JobFacts) (j : JobFacts) (b : Bool) → (t == j.task) ≡ b → among t (js ++ j ∷ []) ≡ (among t js || b)
among_last t js j b is = among-append t js (j ∷ []) ∙ ap (λ (c : Bool). among t js || c) (or_false (t == j.task) ∙ is)

woken_kept : (n : ℕ) (log : List Event) (u : ℕ) (resume : Resume) (f : AfterTurn) (o : Option WaitingTaskView) → WaitersAreMade log → slice_index_or f.held u None ≡ o → IsKept n log f → IsKept n log (woken u resume f o)
woken_kept n log u resume f None made is kept = kept
woken_kept n log u resume f (Some h) made is kept =
    let there : u < length f.held = in_list f.held u h is in
    let waits : is_waiting (life_of u log) ≡ true = second (not (among u f.jobs)) (is_waiting (life_of u log)) (ap is_some (sym is) ∙ kept.waits u) in
    record {
      size = length-set f.held u None ∙ kept.size;
      waits = λ t. elim (cases_eq t u) [
        | inl eq ↦ (let gone : is_some (slice_index_or (slice_set f.held u None) t None) ≡ false = ap (λ (k : ℕ). is_some (slice_index_or (slice_set f.held u None) k None)) eq ∙ ap is_some (get_or-set_same f.held u None None there) in
            gone ∙ sym (ap (λ (b : Bool). not b && is_waiting (life_of t log)) (among_last t f.jobs (job_of u resume h) true (equal t u eq) ∙ or_true (among t f.jobs))))
        | inr ne ↦ (let same : is_some (slice_index_or (slice_set f.held u None) t None) ≡ is_some (slice_index_or f.held t None) = ap is_some (get_or-set_other f.held u t None None ne) in
            same ∙ kept.waits t ∙ sym (ap (λ (b : Bool). not b && is_waiting (life_of t log)) (among_last t f.jobs (job_of u resume h) false (unequal t u ne) ∙ or_false (among t f.jobs))))
      ];
      made = made-append log f.jobs (job_of u resume h ∷ []) kept.made (made.at u waits, tt);
    }

pub wake_kept : (n : ℕ) (log : List Event) (u : ℕ) (resume : Resume) (f : AfterTurn) → WaitersAreMade log → IsKept n log f → IsKept n log (wake u resume f)
wake_kept n log u resume f made kept = woken_kept n log u resume f (slice_index_or f.held u None) made refl kept

wake_each_kept : (n : ℕ) (log : List Event) (us : List TaskId) (resume : Resume) (f : AfterTurn) → WaitersAreMade log → IsKept n log f → IsKept n log (wake_each us resume f)
wake_each_kept n log [] resume f made kept = kept
wake_each_kept n log (u ∷ us) resume f made kept = wake_each_kept n log us resume (wake u.0 resume f) made (wake_kept n log u.0 resume f made kept)

wake_closing_kept : (n : ℕ) (log : List Event) (o : ℕ) (c : Closing) (f : AfterTurn) → WaitersAreMade log → IsKept n log f → IsKept n log (wake_closing o c f)
wake_closing_kept n log o closing.Done f made kept = wake_kept n log o Go f made kept
wake_closing_kept n log o closing.Wait f made kept = kept

if_kept : (n : ℕ) (log : List Event) (f g : AfterTurn) (b : Bool) → IsKept n log f → IsKept n log g → IsKept n log (if b then f else g)
if_kept n log f g true p q = p
if_kept n log f g false p q = q

wake_owner_kept : (n : ℕ) (log : List Event) (o g : ℕ) (e : Ending) (s : Option JobStage) (f : AfterTurn) → WaitersAreMade log → IsKept n log f → IsKept n log (wake_owner o g e s log f)
wake_owner_kept n log o g e (Some (stage.Asks asked)) f made kept = if_kept n log (wake o (resume_of e) f) f (asked == g) (wake_kept n log o (resume_of e) f made kept) kept
wake_owner_kept n log o g e (Some (stage.Closes closed)) f made kept =
    if_kept n log (wake_closing o (close_of (group_of o g log)) f) f (closed == g) (wake_closing_kept n log o (close_of (group_of o g log)) f made kept) kept
wake_owner_kept n log o g e (Some stage.Given) f made kept = kept
wake_owner_kept n log o g e (Some (stage.Begun env)) f made kept = kept
wake_owner_kept n log o g e (Some stage.Applied) f made kept = kept
wake_owner_kept n log o g e (Some (stage.Waits awaited)) f made kept = kept
wake_owner_kept n log o g e None f made kept = kept

wake_parent_kept : (n : ℕ) (log : List Event) (x : Option (ℕ × ℕ)) (e : Ending) (f : AfterTurn) → WaitersAreMade log → IsKept n log f → IsKept n log (wake_parent x e log f)
wake_parent_kept n log None e f made kept = kept
wake_parent_kept n log (Some x) e f made kept = wake_owner_kept n log x.0 x.1 e (life_of x.0 log).stage f made kept

pub wake_all_kept : (n : ℕ) (log : List Event) (t : ℕ) (e : Ending) (f : AfterTurn) → WaitersAreMade log → IsKept n log f → IsKept n log (wake_all t e log f)
wake_all_kept n log t e f made kept =
    wake_parent_kept n log (parent_of t log) e (wake_each (waiters_of t log) (resume_of e) f) made (wake_each_kept n log (waiters_of t log) (resume_of e) f made kept)

-- Jobs that were made before do not matter.

abbrev pub behind : List JobFacts → AfterTurn → AfterTurn
behind before f = record f { jobs = before ++ f.jobs }

abbrev follows : List (Option WaitingTaskView) → List JobFacts → AfterTurn
follows held jobs = record { held = held; jobs = jobs }

woken_behind : (before : List JobFacts) (u : ℕ) (resume : Resume) (f : AfterTurn) (o : Option WaitingTaskView) → woken u resume (behind before f) o ≡ behind before (woken u resume f o)
woken_behind before u resume f None = refl
woken_behind before u resume f (Some h) = ap (follows (slice_set f.held u None)) (append_assoc before f.jobs (job_of u resume h ∷ []))

wake_behind : (before : List JobFacts) (u : ℕ) (resume : Resume) (f : AfterTurn) → wake u resume (behind before f) ≡ behind before (wake u resume f)
wake_behind before u resume f = woken_behind before u resume f (slice_index_or f.held u None)

wake_each_behind : (before : List JobFacts) (us : List TaskId) (resume : Resume) (f : AfterTurn) → wake_each us resume (behind before f) ≡ behind before (wake_each us resume f)
wake_each_behind before [] resume f = refl
wake_each_behind before (u ∷ us) resume f = ap (wake_each us resume) (wake_behind before u.0 resume f) ∙ wake_each_behind before us resume (wake u.0 resume f)

wake_closing_behind : (before : List JobFacts) (o : ℕ) (c : Closing) (f : AfterTurn) → wake_closing o c (behind before f) ≡ behind before (wake_closing o c f)
wake_closing_behind before o closing.Done f = wake_behind before o Go f
wake_closing_behind before o closing.Wait f = refl

if_behind : (before : List JobFacts) (f f' g : AfterTurn) (b : Bool) → f' ≡ behind before f → (if b then f' else behind before g) ≡ behind before (if b then f else g)
if_behind before f f' g true is = is
if_behind before f f' g false is = refl

wake_owner_behind : (before : List JobFacts) (o g : ℕ) (e : Ending) (s : Option JobStage) (log : List Event) (f : AfterTurn) → wake_owner o g e s log (behind before f) ≡ behind before (wake_owner o g e s log f)
wake_owner_behind before o g e (Some (stage.Asks asked)) log f = if_behind before (wake o (resume_of e) f) (wake o (resume_of e) (behind before f)) f (asked == g) (wake_behind before o (resume_of e) f)
wake_owner_behind before o g e (Some (stage.Closes closed)) log f =
    if_behind before (wake_closing o (close_of (group_of o g log)) f) (wake_closing o (close_of (group_of o g log)) (behind before f)) f (closed == g) (wake_closing_behind before o (close_of (group_of o g log)) f)
wake_owner_behind before o g e (Some stage.Given) log f = refl
wake_owner_behind before o g e (Some (stage.Begun env)) log f = refl
wake_owner_behind before o g e (Some stage.Applied) log f = refl
wake_owner_behind before o g e (Some (stage.Waits awaited)) log f = refl
wake_owner_behind before o g e None log f = refl

wake_parent_behind : (before : List JobFacts) (x : Option (ℕ × ℕ)) (e : Ending) (log : List Event) (f : AfterTurn) → wake_parent x e log (behind before f) ≡ behind before (wake_parent x e log f)
wake_parent_behind before None e log f = refl
wake_parent_behind before (Some x) e log f = wake_owner_behind before x.0 x.1 e (life_of x.0 log).stage log f

pub wake_all_behind : (before : List JobFacts) (t : ℕ) (e : Ending) (log : List Event) (f : AfterTurn) → wake_all t e log (behind before f) ≡ behind before (wake_all t e log f)
wake_all_behind before t e log f =
    ap (wake_parent (parent_of t log) e log) (wake_each_behind before (waiters_of t log) (resume_of e) f) ∙ wake_parent_behind before (parent_of t log) e log (wake_each (waiters_of t log) (resume_of e) f)

pub followed_behind : (before : List JobFacts) (t n : ℕ) (frames : TaskView) (resume : Option Resume) (step : Step) (log : List Event) (f : AfterTurn) → followed t n frames resume step log (behind before f) ≡ behind before (followed t n frames resume step log f)
followed_behind before t n frames (Some resume) step log f = ap (follows f.held) (append_assoc before f.jobs (record { task = t; number = n; resume = resume_at n resume; frames = frames } ∷ []))
followed_behind before t n frames None (Ended e) log f = wake_all_behind before t e log f
followed_behind before t n frames None (Run actor resume) log f = refl
followed_behind before t n frames None Await log f = refl
