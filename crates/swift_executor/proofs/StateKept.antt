-- What an executor keeps at each of its calls.
use Rattle.swift_executor.proofs.Prelude.{◌≡◌, ◌≢◌, ℕ, ◌+◌, ℤ, Option, Some, None, IfSome, List, [], ◌∷◌, ◌++◌, length, map, Contains, refl, ap, sym, subst, ◌∙◌, inl, inr, arith, cases_eq, length-append, All-cons, All-head, All-nil, All-push, All-tail, All-weaker, Contains-append_left, Contains-append_right, Contains-push, All-permutation, Contains-permutation, IsPermutation-map, length_permutation, All, IsPermutation, TaskId, ScriptView, actor_executor, method_actor, FrameView, BodyView, HasFirst, IsTurnOf, left, JobView, JobFacts, job_facts, BookFault, IsRefusal, fault_of, Adds, CanRestore, IsClear, ReadyJobsView, ReadyJob, ready_job, BelongsTo, ChosenView, ExecStateView, HasPlayed, IsChosen, ExecInvariant, IsPicked, ChosenStageView, before_turn, begun, chosen_count, leaders, picked, played}
use Rattle.swift_tasks.specs.Refusals.{IsRefusal as BookRefusal}

-- what leads in one order leads in another
led_by : (ts ts' : List TaskId) (behind : List (JobView BodyView)) → IsPermutation ts ts' → All (λ j. Contains ts j.task) behind → All (λ j. Contains ts' j.task) behind
led_by ts ts' behind perm all = All-weaker (λ (j : JobView BodyView). Contains ts j.task) (λ (j : JobView BodyView). Contains ts' j.task) (λ j has. Contains-permutation ts ts' j.task perm has) behind all

led_more : (t : TaskId) (ts : List TaskId) (behind : List (JobView BodyView)) → All (λ j. Contains ts j.task) behind → All (λ j. Contains (t ∷ ts) j.task) behind
led_more t ts behind all = All-weaker (λ (j : JobView BodyView). Contains ts j.task) (λ (j : JobView BodyView). Contains (t ∷ ts) j.task) (λ j has. Contains-append_right (t ∷ []) ts j.task has) behind all

-- where the front is not clear of a task, one of its jobs is there
pub not_clear : (front : List (ReadyJob BodyView)) (t : TaskId) → (IsClear front t → ⊥) → Contains (map (λ x. x.job.task) front) t
not_clear [] t some = absurd (some (All-nil (λ (x : ReadyJob BodyView). x.job.task ≢ t)))
not_clear (x ∷ front) t some = elim (cases_eq x.job.task.0 t.0) [
  | inl e ↦ subst (λ (y : TaskId). Contains (x.job.task ∷ map (λ x. x.job.task) front) y) (ap (λ (n : ℕ). record { 0 = n }) e) (Contains-append_left (x.job.task ∷ []) (map (λ x. x.job.task) front) x.job.task (Contains-push [] x.job.task))
  | inr ne ↦ Contains-append_right (x.job.task ∷ []) (map (λ x. x.job.task) front) t
      (not_clear front t (λ clear. some (All-cons (λ (y : ReadyJob BodyView). y.job.task ≢ t) x front (λ e. ne (ap (λ (y : TaskId). y.0) e)) clear)))
]

-- of a frame that has had a turn, the one before is of the same actor
first_before : (script : ScriptView) (executor : ℕ) (frame : FrameView) (Q : FrameView → Type 0) (frames : List FrameView) → HasFirst frames (λ f. actor_executor script (method_actor script f.method) ≡ executor)
    → HasFirst frames (λ f. (f.method ≡ frame.method) × Q f) → actor_executor script (method_actor script frame.method) ≡ executor
first_before script executor frame Q [] top is = absurd top
first_before script executor frame Q (f ∷ frames) top is = ap (λ (m : ℕ). actor_executor script (method_actor script m)) (sym is.0) ∙ top

-- the chosen job as it was when it was chosen is one of the executor
pub belongs_back : (script : ScriptView) (executor : ℕ) (fields : List (List ℤ)) (stage : ChosenStageView) (j j' : JobView BodyView) → BelongsTo script executor j → HasPlayed script fields j stage → job_facts j' ≡ before_turn stage j
    → j'.body.script ≡ j.body.script → BelongsTo script executor j'
belongs_back script executor fields picked j j' is plays view same = record {
  script_is = same ∙ is.script_is;
  top = subst (λ (v : JobFacts). HasFirst v.frames.frames (λ f. actor_executor script (method_actor script f.method) ≡ executor)) (sym view) is.top;
}
belongs_back script executor fields (begun worker env) j j' is plays view same = record {
  script_is = same ∙ is.script_is;
  top = subst (λ (v : JobFacts). HasFirst v.frames.frames (λ f. actor_executor script (method_actor script f.method) ≡ executor)) (sym view) is.top;
}
belongs_back script executor fields (played worker env frame rows effects exit) j j' is plays view same = record {
  script_is = same ∙ is.script_is;
  top = subst (λ (v : JobFacts). HasFirst v.frames.frames (λ f. actor_executor script (method_actor script f.method) ≡ executor)) (sym view)
      (first_before script executor frame (λ f. IsTurnOf script frame j.body.task.outer fields j.resume env f (left rows effects exit)) j.body.task.frames is.top plays.1);
}

-- the chosen job is ready again
pub back_keeps : (s : ExecStateView) (c : ChosenView) (job : JobView BodyView) (ready' : ReadyJobsView BodyView) → ExecInvariant s → s.chosen ≡ Some c → BelongsTo s.script s.executor job → job.task ≡ c.job.task → IsPermutation (ready_job job c.arrival ∷ s.ready.front) ready'.front
    → ready' ≡ record s.ready { front = ready'.front } → ExecInvariant (record s { ready = ready'; chosen = None })
back_keeps s c job ready' is at belongs task perm same =
    let P : ReadyJob BodyView → Type 0 = λ x. BelongsTo s.script s.executor x.job in
    let behind : ready'.behind ≡ s.ready.behind = ap (λ (r : ReadyJobsView BodyView). r.behind) same in
    let arrived : ready'.arrived ≡ s.ready.arrived = ap (λ (r : ReadyJobsView BodyView). r.arrived) same in
    let len = length_permutation (ready_job job c.arrival ∷ s.ready.front) ready'.front perm in
    let one : chosen_count s.chosen ≡ 1 = ap chosen_count at in
    let many = is.counted in
    let same_behind = ap length behind in
    record {
      past = is.past;
      lawful = is.lawful;
      replayed = is.replayed;
      runs = is.runs;
      kept = is.kept;
      counted = omega (arith, len, one, many, same_behind, arrived);
      few = is.few;
      front = All-permutation P (ready_job job c.arrival ∷ s.ready.front) ready'.front perm (All-cons P (ready_job job c.arrival) s.ready.front belongs is.front);
      behind = subst (λ (js : List (JobView BodyView)). All (BelongsTo s.script s.executor) js) (sym behind) is.behind;
      led = subst (λ (js : List (JobView BodyView)). All (λ j. Contains (map (λ (x : ReadyJob BodyView). x.job.task) ready'.front) j.task) js) (sym behind)
          (led_by (job.task ∷ map (λ (x : ReadyJob BodyView). x.job.task) s.ready.front) (map (λ (x : ReadyJob BodyView). x.job.task) ready'.front) s.ready.behind (IsPermutation-map (λ (x : ReadyJob BodyView). x.job.task) (ready_job job c.arrival ∷ s.ready.front) ready'.front perm)
          (subst (λ (t : TaskId). All (λ j. Contains (t ∷ map (λ (x : ReadyJob BodyView). x.job.task) s.ready.front) j.task) s.ready.behind) (sym task) (subst (λ (o : Option ChosenView). All (λ j. Contains (leaders s.ready.front o) j.task) s.ready.behind) at is.led)));
      chosen = tt;
    }

-- only how far the chosen job is has changed, or its body has had its turn
pub stage_keeps : (s : ExecStateView) (c c' : ChosenView) → ExecInvariant s → s.chosen ≡ Some c → BelongsTo s.script s.executor c'.job → c'.job.task ≡ c.job.task → c'.arrival ≡ c.arrival → HasPlayed s.script s.fields c'.job c'.stage
    → ExecInvariant (record s { chosen = Some c' })
stage_keeps s c c' is at belongs task arrival plays =
    let was : IsChosen s c = subst (λ (x : Option ChosenView). IfSome x (IsChosen s)) at is.chosen in
    let one : chosen_count s.chosen ≡ 1 = ap chosen_count at in
    let many = is.counted in
    record {
      past = is.past;
      lawful = is.lawful;
      replayed = is.replayed;
      runs = is.runs;
      kept = is.kept;
      counted = omega (arith, one, many);
      few = is.few;
      front = is.front;
      behind = is.behind;
      led = subst (λ (t : TaskId). All (λ j. Contains (t ∷ map (λ (x : ReadyJob BodyView). x.job.task) s.ready.front) j.task) s.ready.behind) (sym task) (subst (λ (o : Option ChosenView). All (λ j. Contains (leaders s.ready.front o) j.task) s.ready.behind) at is.led);
      chosen = record {
        belongs = belongs;
        restorable = subst (λ (n : ℕ). CanRestore s.ready c'.job.task n) (sym arrival) (subst (λ (t : TaskId). CanRestore s.ready t c.arrival) (sym task) was.restorable);
        plays = plays;
      };
    }

-- a job was chosen
pub choose_keeps : (s : ExecStateView) (job : JobView BodyView) (arrival : ℕ) (ready' : ReadyJobsView BodyView) → ExecInvariant s → s.chosen ≡ None → IsPermutation s.ready.front (ready_job job arrival ∷ ready'.front)
    → ready'.behind ≡ s.ready.behind → ready'.arrived ≡ s.ready.arrived → CanRestore ready' job.task arrival
    → ExecInvariant (record s { ready = ready'; chosen = Some (record { job = job; arrival = arrival; stage = picked }) })
choose_keeps s job arrival ready' is at perm behind arrived can =
    let P : ReadyJob BodyView → Type 0 = λ x. BelongsTo s.script s.executor x.job in
    let all = All-permutation P s.ready.front (ready_job job arrival ∷ ready'.front) perm is.front in
    let len = length_permutation s.ready.front (ready_job job arrival ∷ ready'.front) perm in
    let none : chosen_count s.chosen ≡ 0 = ap chosen_count at in
    let many = is.counted in
    let same_behind = ap length behind in
    record {
      past = is.past;
      lawful = is.lawful;
      replayed = is.replayed;
      runs = is.runs;
      kept = is.kept;
      counted = omega (arith, len, none, many, same_behind, arrived);
      few = is.few;
      front = All-tail P (ready_job job arrival) ready'.front all;
      behind = subst (λ (js : List (JobView BodyView)). All (BelongsTo s.script s.executor) js) (sym behind) is.behind;
      led = subst (λ (js : List (JobView BodyView)). All (λ j. Contains (job.task ∷ map (λ (x : ReadyJob BodyView). x.job.task) ready'.front) j.task) js) (sym behind)
          (led_by (map (λ (x : ReadyJob BodyView). x.job.task) s.ready.front) (job.task ∷ map (λ (x : ReadyJob BodyView). x.job.task) ready'.front) s.ready.behind (IsPermutation-map (λ (x : ReadyJob BodyView). x.job.task) s.ready.front (ready_job job arrival ∷ ready'.front) perm)
          (subst (λ (o : Option ChosenView). All (λ j. Contains (leaders s.ready.front o) j.task) s.ready.behind) at is.led));
      chosen = record { belongs = All-head P (ready_job job arrival) ready'.front all; restorable = can; plays = tt };
    }

-- the jobs in front stand in another order, and no job is chosen
pub reorder_keeps : (s : ExecStateView) (ready' : ReadyJobsView BodyView) → ExecInvariant s → s.chosen ≡ None → IsPermutation s.ready.front ready'.front → ready'.behind ≡ s.ready.behind → ready'.arrived ≡ s.ready.arrived
    → ExecInvariant (record s { ready = ready' })
reorder_keeps s ready' is at perm behind arrived =
    let P : ReadyJob BodyView → Type 0 = λ x. BelongsTo s.script s.executor x.job in
    let len = length_permutation s.ready.front ready'.front perm in
    let many = is.counted in
    let same_behind = ap length behind in
    record {
      past = is.past;
      lawful = is.lawful;
      replayed = is.replayed;
      runs = is.runs;
      kept = is.kept;
      counted = omega (arith, len, many, same_behind, arrived);
      few = is.few;
      front = All-permutation P s.ready.front ready'.front perm is.front;
      behind = subst (λ (js : List (JobView BodyView)). All (BelongsTo s.script s.executor) js) (sym behind) is.behind;
      led = subst (λ (o : Option ChosenView). All (λ j. Contains (leaders ready'.front o) j.task) ready'.behind) (sym at)
          (subst (λ (js : List (JobView BodyView)). All (λ j. Contains (map (λ (x : ReadyJob BodyView). x.job.task) ready'.front) j.task) js) (sym behind)
          (led_by (map (λ (x : ReadyJob BodyView). x.job.task) s.ready.front) (map (λ (x : ReadyJob BodyView). x.job.task) ready'.front) s.ready.behind (IsPermutation-map (λ (x : ReadyJob BodyView). x.job.task) s.ready.front ready'.front perm)
          (subst (λ (o : Option ChosenView). All (λ j. Contains (leaders s.ready.front o) j.task) s.ready.behind) at is.led)));
      chosen = subst (λ (x : Option ChosenView). IfSome x (IsChosen (record s { ready = ready' }))) (sym at) tt;
    }

-- a job was accepted
pub accept_keeps : (s : ExecStateView) (job : JobView BodyView) (ready' : ReadyJobsView BodyView) → ExecInvariant s → s.chosen ≡ None → BelongsTo s.script s.executor job → Adds s.ready job ready' → ExecInvariant (record s { ready = ready' })
accept_keeps s job ready' is at belongs (inl h) =
    let P : ReadyJob BodyView → Type 0 = λ x. BelongsTo s.script s.executor x.job in
    let new = ready_job job s.ready.arrived in
    let len = length_permutation (new ∷ s.ready.front) ready'.front h.1 in
    let behind : ready'.behind ≡ s.ready.behind = ap (λ (r : ReadyJobsView BodyView). r.behind) h.2 in
    let arrived : ready'.arrived ≡ s.ready.arrived + 1 = ap (λ (r : ReadyJobsView BodyView). r.arrived) h.2 in
    let many = is.counted in
    let same_behind = ap length behind in
    record {
      past = is.past;
      lawful = is.lawful;
      replayed = is.replayed;
      runs = is.runs;
      kept = is.kept;
      counted = omega (arith, len, many, same_behind, arrived);
      few = is.few;
      front = All-permutation P (new ∷ s.ready.front) ready'.front h.1 (All-cons P new s.ready.front belongs is.front);
      behind = subst (λ (js : List (JobView BodyView)). All (BelongsTo s.script s.executor) js) (sym behind) is.behind;
      led = subst (λ (o : Option ChosenView). All (λ j. Contains (leaders ready'.front o) j.task) ready'.behind) (sym at)
          (subst (λ (js : List (JobView BodyView)). All (λ j. Contains (map (λ (x : ReadyJob BodyView). x.job.task) ready'.front) j.task) js) (sym behind)
          (led_by (job.task ∷ map (λ (x : ReadyJob BodyView). x.job.task) s.ready.front) (map (λ (x : ReadyJob BodyView). x.job.task) ready'.front) s.ready.behind (IsPermutation-map (λ (x : ReadyJob BodyView). x.job.task) (new ∷ s.ready.front) ready'.front h.1)
          (led_more job.task (map (λ (x : ReadyJob BodyView). x.job.task) s.ready.front) s.ready.behind (subst (λ (o : Option ChosenView). All (λ j. Contains (leaders s.ready.front o) j.task) s.ready.behind) at is.led))));
      chosen = subst (λ (x : Option ChosenView). IfSome x (IsChosen (record s { ready = ready' }))) (sym at) tt;
    }
accept_keeps s job ready' is at belongs (inr h) =
    let front : ready'.front ≡ s.ready.front = ap (λ (r : ReadyJobsView BodyView). r.front) h.1 in
    let behind : ready'.behind ≡ s.ready.behind ++ job ∷ [] = ap (λ (r : ReadyJobsView BodyView). r.behind) h.1 in
    let arrived : ready'.arrived ≡ s.ready.arrived = ap (λ (r : ReadyJobsView BodyView). r.arrived) h.1 in
    let len = length-append s.ready.behind (job ∷ []) in
    let many = is.counted in
    let same_behind = ap length behind in
    let same_front = ap length front in
    record {
      past = is.past;
      lawful = is.lawful;
      replayed = is.replayed;
      runs = is.runs;
      kept = is.kept;
      counted = omega (arith, len, many, same_behind, same_front, arrived);
      few = is.few;
      front = subst (λ (xs : List (ReadyJob BodyView)). All (λ x. BelongsTo s.script s.executor x.job) xs) (sym front) is.front;
      behind = subst (λ (js : List (JobView BodyView)). All (BelongsTo s.script s.executor) js) (sym behind) (All-push (BelongsTo s.script s.executor) s.ready.behind job is.behind belongs);
      led = subst (λ (o : Option ChosenView). All (λ j. Contains (leaders ready'.front o) j.task) ready'.behind) (sym at)
          (subst (λ (xs : List (ReadyJob BodyView)). All (λ j. Contains (map (λ (x : ReadyJob BodyView). x.job.task) xs) j.task) ready'.behind) (sym front)
          (subst (λ (js : List (JobView BodyView)). All (λ j. Contains (map (λ (x : ReadyJob BodyView). x.job.task) s.ready.front) j.task) js) (sym behind)
          (All-push (λ (j : JobView BodyView). Contains (map (λ (x : ReadyJob BodyView). x.job.task) s.ready.front) j.task) s.ready.behind job (subst (λ (o : Option ChosenView). All (λ j. Contains (leaders s.ready.front o) j.task) s.ready.behind) at is.led)
          (not_clear s.ready.front job.task h.0))));
      chosen = subst (λ (x : Option ChosenView). IfSome x (IsChosen (record s { ready = ready' }))) (sym at) tt;
    }

-- its turn has not begun
pub stage_picked : (stage : ChosenStageView) → IsPicked stage → stage ≡ picked
stage_picked picked is = refl
stage_picked (begun worker env) is = absurd is
stage_picked (played worker env frame fields effects exit) is = absurd is

-- where the book refuses, the executor does
pub refused_so : (o : Option BookFault) (cause : BookFault) → BookRefusal o cause → IsRefusal o (fault_of cause)
refused_so None cause is = ap fault_of is
refused_so (Some r) cause is = ap fault_of is

-- it is of the task that it was
pub same_task : (stage : ChosenStageView) (j : JobView BodyView) → (before_turn stage j).task ≡ j.task.0
same_task picked j = refl
same_task (begun worker env) j = refl
same_task (played worker env frame rows effects exit) j = refl

-- the levels of all tasks were given when there were so many events
same_chosen : (s : ExecStateView) (n : ℕ) (chosen : Option ChosenView) → IfSome chosen (IsChosen s) → IfSome chosen (IsChosen (record s { ready = record s.ready { counted = n } }))
same_chosen s n None is = tt
same_chosen s n (Some c) is = record {
  belongs = is.belongs;
  restorable = record { room = is.restorable.room; below = is.restorable.below; apart = is.restorable.apart; clear = is.restorable.clear };
  plays = is.plays;
}

pub counted_keeps : (s : ExecStateView) (n : ℕ) → ExecInvariant s → ExecInvariant (record s { ready = record s.ready { counted = n } })
counted_keeps s n is = record {
  past = is.past;
  lawful = is.lawful;
  replayed = is.replayed;
  runs = is.runs;
  kept = is.kept;
  counted = is.counted;
  few = is.few;
  front = is.front;
  behind = is.behind;
  led = is.led;
  chosen = same_chosen s n s.chosen is.chosen;
}
