-- The calls of a book are steps of its run.
use Rattle.swift_shared_book.proofs.Prelude.{◌≡◌, ℤ, ◌+◌, List, [], ◌∷◌, ◌++◌, refl, sym, subst, ap, ◌∙◌, Bool, true, false, Option, Some, None, if◌then◌else◌, is_none, ◌&&◌, false≢true, Env, ScriptView, executor_start, root_count, FrameView, Advanced, BodyView, HasFirst, IsTurnOf, advanced, left, JobView, IsEnv, RecordView, has_last_root, job_executor, WaitingTaskView, JobFacts, TurnEnd, root_events, task, turn_end, BookFault, BookView, end_of_frames, end_of_turn, job_facts, fits_begun, refused_unless, IsTurn, MayGive, end_of, knowing_begin, knowing_turn, with_begin, with_turn, Account, BookFacts, Ticket, fresh, AddedRootsKeep, AppliedTurnsKeep, BegunTurnsKeep, IsPlayed, before_of, facts_of}
use Rattle.std.proofs.lemmas.Option.{none-some}
use Rattle.swift_events.specs.declared.event.Event.{Event}
use Rattle.swift_events.specs.declared.life.JobStage.{JobStage}
use Rattle.swift_events.specs.declared.life.JobStage.TheVariants.{Begun}
use Rattle.swift_events.specs.Lives.{life_of}
use Rattle.swift_history.specs.Replay.{replay}
use Rattle.swift_history.specs.Checks.{counters, fits_turn, is_current}
use Rattle.swift_history.specs.Histories.{begun_priority, left_as}
use Rattle.swift_course.specs.Frames.{kept_frame}
use Rattle.swift_course.proofs.Applied.{turn_applied_is}
use Rattle.swift_course.proofs.Begins.{turn_begun}
use Rattle.swift_course.proofs.Frames.{frames_go_on}
use Rattle.swift_course.proofs.Roots.{root_added}

-- what stands where there is no refusal

if_none : (b : Bool) (x : BookFault) → (if b then None else Some x) ≡ None → b ≡ true
if_none true x is = refl
if_none false x is = absurd (none-some x (sym is))

first_of_both : (a b : Bool) → (a && b) ≡ true → a ≡ true
first_of_both true b is = refl
first_of_both false b is = absurd (false≢true is)

second_of_both : (a b : Bool) → (a && b) ≡ true → b ≡ true
second_of_both true b is = is
second_of_both false b is = absurd (false≢true is)

no_one : {A : Type 0} (o : Option A) → is_none o ≡ true → o ≡ None
no_one None is = refl
no_one (Some x) is = absurd (false≢true is)

none_before : (o : Option BookFault) (b : Bool) → refused_unless o b ≡ None → o ≡ None
none_before None b is = refl
none_before (Some x) b is = absurd (none-some x (sym is))

holds_then : (o : Option BookFault) (b : Bool) → refused_unless o b ≡ None → b ≡ true
holds_then None true is = refl
holds_then None false is = absurd (none-some _ (sym is))
holds_then (Some x) b is = absurd (none-some x (sym is))

-- a root

pub root_keeps : AddedRootsKeep
root_keeps v m b b' j makes may is job =
    let both = if_none _ _ may in
    let gives = root_added v (facts_of b) m makes (first_of_both _ _ both) (no_one (life_of m.roots b.log).origin (second_of_both _ _ both)) in
    subst (λ (x : BookView). MayGive v (facts_of b) (facts_of x) (record v { tickets = v.tickets ++ fresh (job_facts j) ∷ []; maker = Some (record m { roots = m.roots + 1 }) })) (sym is)
    (subst (λ (x : JobFacts). MayGive v (facts_of b) (record (facts_of b) { log = b.log ++ root_events b.script m.roots }) (record v { tickets = v.tickets ++ fresh x ∷ []; maker = Some (record m { roots = m.roots + 1 }) })) (sym job) gives)

-- a turn that begins

pub begin_keeps : BegunTurnsKeep
begin_keeps v a k rest env b b' j accounts tickets job on may env_is is =
    let there = has_last_root b.script b.log in
    let current : is_current (life_of j.task.0 b.log) j.number j.resume ≡ true = holds_then _ _ (none_before _ _ may) in
    let own : is_current (life_of k.job.task b.log) k.job.number k.job.resume ≡ true = subst (λ (x : JobFacts). is_current (life_of x.task b.log) x.number x.resume ≡ true) (sym job) current in
    let given : IsEnv (root_count b.script) (task k.job.task) b.log env = subst (λ (x : JobFacts). IsEnv (root_count b.script) (task x.task) b.log env) (sym job) env_is in
    let on_own : job_executor b.script (Some k.job) ≡ Some a.executor = subst (λ (x : JobFacts). job_executor b.script (Some x) ≡ Some a.executor) (sym job) on in
    let gives = turn_begun v (facts_of b) a k rest env accounts tickets on_own own given in
    subst (λ (x : BookView). MayGive v (facts_of b) (facts_of x) (knowing_begin b.log there k rest env v)) (sym is)
    (subst (λ (x : JobFacts). MayGive v (facts_of b) (with_begin (facts_of b) x env) (knowing_begin b.log there k rest env v)) job gives)

-- a turn that is applied

-- it is the same by the job's frames as by the record
ends_same : (b : BookView) (j : JobView BodyView) (r : RecordView) (fields fields' : List (List ℤ)) (fs : List FrameView)
    → HasFirst fs (λ f. (r.after ≡ kept_frame r.exit f) × IsTurnOf b.script r.frame j.body.task.outer fields j.resume r.env f (left fields' r.effects r.exit))
    → end_of (facts_of b) (before_of j r.frame fs) r ≡ end_of_frames b j r.effects r.exit fs
ends_same b j r fields fields' [] has = absurd has
ends_same b j r fields fields' (f ∷ callers) has =
    ap (λ (x : Advanced). turn_end b.script b.log b.held j.task.0 j.number (begun_priority (life_of j.task.0 b.log).stage) r.effects r.exit x)
    (ap (λ (o : Option FrameView). advanced b.script (left_as r.frame r.effects o) callers j.body.task.outer r.exit) has.0
    ∙ sym (frames_go_on b.script r.frame f callers j.body.task.outer fields fields' j.resume r.env r.effects r.exit has.1))

is_turn : (b : BookView) (a : Account) (k : Ticket) (j : JobView BodyView) (r : RecordView) → IsPlayed b.script a k j r → is_current (life_of j.task.0 b.log) j.number j.resume ≡ true
    → ((env : Env) → (life_of j.task.0 b.log).stage ≡ Some (Begun env) → fits_turn b.script j.task.0 b.log (counters j.task.0 b.log env.room) r.effects r.exit ≡ true) → IsTurn (facts_of b) a k r
is_turn b a k j r played current fits =
    let back = sym played.was in
    record {
      task_is = played.task_is ∙ ap (λ (x : JobFacts). x.task) back;
      number_is = played.number_is ∙ ap (λ (x : JobFacts). x.number) back;
      resume_is = played.resume_is ∙ ap (λ (x : JobFacts). x.resume) back;
      outer_is = played.outer_is ∙ ap (λ (x : JobFacts). x.frames.outer) back;
      begun = played.begun;
      runs = subst (λ (x : JobFacts). HasFirst x.frames.frames (λ p. p ≡ r.frame)) back refl;
      on = played.on;
      current = subst (λ (x : JobFacts). is_current (life_of x.task b.log) x.number x.resume ≡ true) back current;
      fits = subst (λ (x : JobFacts). (env : Env) → (life_of x.task b.log).stage ≡ Some (Begun env) → fits_turn b.script x.task b.log (counters x.task b.log env.room) r.effects r.exit ≡ true) back fits;
      lawful = played.lawful;
    }

pub apply_keeps : AppliedTurnsKeep
apply_keeps v a k rest b b' j r jobs jobs' accounts tickets played may ends script =
    let facts = facts_of b in
    let start = replay b.script (executor_start b.script a.executor) a.records in
    let current : is_current (life_of j.task.0 b.log) j.number j.resume ≡ true = holds_then _ _ (none_before _ _ may) in
    let fit : fits_begun b.script b.log j.task.0 j.body.script r.effects r.exit (life_of j.task.0 b.log).stage ≡ true = holds_then _ _ may in
    let fits : (env : Env) → (life_of j.task.0 b.log).stage ≡ Some (Begun env) → fits_turn b.script j.task.0 b.log (counters j.task.0 b.log env.room) r.effects r.exit ≡ true =
    (λ env has. first_of_both _ _ (subst (λ (o : Option JobStage). fits_begun b.script b.log j.task.0 j.body.script r.effects r.exit o ≡ true) has fit))
    in
    let same : end_of facts k.job r ≡ end_of_turn b j r.effects r.exit = ap (λ (x : JobFacts). end_of facts x r) played.was ∙ ends_same b j r start played.fields j.body.task.frames played.frame in
    let after : with_turn facts k.job r ≡ facts_of b' =
    ap (λ (e : TurnEnd). record facts { log = e.log; held = e.held }) same
    ∙ ap (λ (l : List Event). record facts { log = l; held = (end_of_turn b j r.effects r.exit).held }) (sym ends.log_is)
    ∙ ap (λ (h : List (Option WaitingTaskView)). record facts { log = b'.log; held = h }) (sym ends.held_is)
    ∙ ap (λ (s : ScriptView). record { script = s; log = b'.log; held = b'.held }) (sym script)
    in (
      subst (λ (x : BookFacts). MayGive v facts x (knowing_turn facts a k rest r v)) after (turn_applied_is v facts a k rest r accounts tickets (is_turn b a k j r played current fits)),
      ends.jobs_are ∙ ap (λ (e : TurnEnd). jobs ++ e.jobs) (sym same),
    )
