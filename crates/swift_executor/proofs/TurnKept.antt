-- What an executor keeps when a turn is journalled.
use Rattle.swift_executor.proofs.Prelude.{◌≡◌, ◌≢◌, ℕ, suc, ◌+◌, ◌-◌, ◌<◌, ℤ, Bool, IsTrue, if◌then◌else◌, Option, Some, None, IfSome, List, [], ◌∷◌, ◌++◌, length, take, map, get_or, Contains, refl, ap, sym, subst, ◌∙◌, inl, inr, arith, cases_eq, eq-eqb, ne_eqb, length-append, length-map, map-append, take_at, All-contains, All-cons, All-head, All-nil, All-tail, All-weaker, Contains-append_cases, Contains-push_cases, All-permutation, Contains-permutation, IsPermutation-map, IsPermutation-middle, length_permutation, All, Vec, TaskId, FOLD, Resume, holds, Env, ScriptView, actor_executor, executor_start, method_actor, FrameView, effect_views, frame_view, EffectView, ExitView, calling, asking_next, closing, yielding, returning, failing, TurnStateView, BodyView, HasFirst, IsTurnOf, kept_turn, left, state_at, JobView, CheckpointRoomView, CheckpointView, FoldedView, folded_of, folds, RecordView, lawful-append, replay-append, AreLawful, IsAfter, IsLawfulRecord, InvariantsStay, LawfulGrows, RunOn, StandsFor, fields_after, replay, Forwards, ReadyJobsView, ReadyJob, ready_job, Applied, HasFoldRoom, Settles, WritesRecord, chosen_view, stage_of, ChosenStage, Picked, Begun, BookView, JobFacts, exit_view, BelongsTo, ChosenView, ExecStateView, HasPast, HasPlayed, IsChosen, ExecInvariant, IsPlayed, Journals, checkpoint_with, chosen_count, frame_after, journal_with, leaders, played, record_by}
use Rattle.std.specs.declared.alloc.Global.{Global}
use Rattle.swift_interpreter.specs.Turn.{waiting, Played}
use Rattle.swift_executor.specs.declared.chosen.PlayedTurn.{PlayedTurn as Kept}
use Rattle.swift_executor.specs.declared.chosen.ChosenStage.TheVariants.{Played as PlayedStage}

-- the frame that a turn leaves stands for what is still to do
stands : (p : ScriptView) (g : FrameView) (rows : List (List ℤ)) (effects : List EffectView) (s : TurnStateView) → state_at p g rows effects s.room ≡ s → state_at p g s.fields s.effects s.room ≡ s
stands p g rows effects s is =
    ap (λ (fs : List (List ℤ)). state_at p g fs s.effects s.room) (sym (ap (λ (x : TurnStateView). x.fields) is))
    ∙ ap (λ (es : List EffectView). state_at p g rows es s.room) (sym (ap (λ (x : TurnStateView). x.effects) is))
    ∙ is

after_turn : (p : ScriptView) (m : ℕ) (s : TurnStateView) (exit : ExitView) (g : FrameView) (others : List FrameView) → StandsFor p m s (Some g) → IsAfter p m s exit (frame_after exit (g ∷ others))
after_turn p m s (calling c) g others is = is
after_turn p m s (waiting t) g others is = is
after_turn p m s (asking_next n) g others is = is
after_turn p m s (closing n fault) g others is = is
after_turn p m s yielding g others is = is
after_turn p m s (returning v) g others is = refl
after_turn p m s (failing fault) g others is = refl

-- the record of a turn that was played is lawful, gives the fields after it, and is of an actor of the executor
pub record IsRecorded (script : ScriptView) (executor : ℕ) (fields rows : List (List ℤ)) (r : RecordView) : Type 0 where
  pub lawful : IsLawfulRecord script fields r
  pub fields_are : rows ≡ fields_after script fields r
  pub on : actor_executor script (method_actor script r.frame.method) ≡ executor

recorded_at : (script : ScriptView) (executor : ℕ) (fields rows : List (List ℤ)) (task : TaskId) (number worker : ℕ) (outer : List (ℕ × ℤ)) (resume : Resume) (env : Env) (frame : FrameView) (effects : List EffectView) (exit : ExitView) (frames : List FrameView)
    → HasFirst frames (λ f. actor_executor script (method_actor script f.method) ≡ executor) → HasFirst frames (λ f. (f.method ≡ frame.method) × IsTurnOf script frame outer fields resume env f (left rows effects exit))
    → IsRecorded script executor fields rows (record { task = task.0; number = number; worker = worker; frame = frame; outer = outer; resume = resume; env = env; exit = exit; effects = effects; after = frame_after exit frames })
recorded_at script executor fields rows task number worker outer resume env frame effects exit [] top plays = absurd top
recorded_at script executor fields rows task number worker outer resume env frame effects exit (g ∷ others) top plays =
    let k = kept_turn script frame outer fields resume env in
    let is : record { state = state_at script g rows effects k.state.room; exit = exit } ≡ k = plays.1.1 in
    let state : state_at script g rows effects k.state.room ≡ k.state = ap (λ (x : Played). x.state) is in
    record {
      lawful = record {
        exit = ap (λ (x : Played). x.exit) is;
        effects = ap (λ (x : TurnStateView). x.effects) state;
        after = after_turn script frame.method k.state exit g others (plays.0, stands script g rows effects k.state state);
      };
      fields_are = ap (λ (x : TurnStateView). x.fields) state;
      on = ap (λ (m : ℕ). actor_executor script (method_actor script m)) (sym plays.0) ∙ top;
    }

pub recorded : (script : ScriptView) (executor : ℕ) (fields rows : List (List ℤ)) (j : JobView BodyView) (worker : ℕ) (env : Env) (frame : FrameView) (effects : List EffectView) (exit : ExitView)
    → BelongsTo script executor j → HasPlayed script fields j (played worker env frame rows effects exit) → IsRecorded script executor fields rows (record_by j worker env frame effects exit)
recorded script executor fields rows j worker env frame effects exit belongs plays =
    recorded_at script executor fields rows j.task j.number worker j.body.task.outer j.resume env frame effects exit j.body.task.frames belongs.top plays.1

RunOn-push : (script : ScriptView) (executor : ℕ) (rs : List RecordView) (r : RecordView) → RunOn script executor rs → actor_executor script (method_actor script r.frame.method) ≡ executor → RunOn script executor (rs ++ r ∷ [])
RunOn-push script executor [] r are is = (is, tt)
RunOn-push script executor (x ∷ rs) r are is = (are.0, RunOn-push script executor rs r are.1 is)

RunOn-append : (script : ScriptView) (executor : ℕ) (rs more : List RecordView) → RunOn script executor rs → RunOn script executor more → RunOn script executor (rs ++ more)
RunOn-append script executor [] more are rest = rest
RunOn-append script executor (x ∷ rs) more are rest = (are.0, RunOn-append script executor rs more are.1 rest)

-- another task than the first one
others : (t : TaskId) (ts : List TaskId) (u : TaskId) → u ≢ t → Contains (t ∷ ts) u → Contains ts u
others t ts u ne has = elim (Contains-append_cases (t ∷ []) ts u has) [
  | inl first ↦ elim (Contains-push_cases [] t u first) [
    | inl none ↦ absurd (All-contains (λ _. ⊥) [] u (All-nil (λ _. ⊥)) none)
    | inr is ↦ absurd (ne (sym is))
  ]
  | inr rest ↦ rest
]

-- what the ready jobs keep where one from behind may come to the front
pub record Moved (script : ScriptView) (executor : ℕ) (task : TaskId) (old new : ReadyJobsView BodyView) : Type 0 where
  pub front : All (λ x. BelongsTo script executor x.job) new.front
  pub behind : All (BelongsTo script executor) new.behind
  pub many : new.arrived + length old.front ≡ old.arrived + length new.front
  pub led : All (λ j. Contains (map (λ (x : ReadyJob BodyView). x.job.task) new.front) j.task) new.behind

moved : (script : ScriptView) (executor : ℕ) (old new : ReadyJobsView BodyView) (task : TaskId) → All (λ x. BelongsTo script executor x.job) old.front → All (BelongsTo script executor) old.behind → All (λ j. Contains (task ∷ map (λ (x : ReadyJob BodyView). x.job.task) old.front) j.task) old.behind → Forwards old task new → Moved script executor task old new
moved script executor old new task front behind led (inl h) = record {
  front = subst (λ (r : ReadyJobsView BodyView). All (λ x. BelongsTo script executor x.job) r.front) (sym h.1) front;
  behind = subst (λ (r : ReadyJobsView BodyView). All (BelongsTo script executor) r.behind) (sym h.1) behind;
  many = ap (λ (r : ReadyJobsView BodyView). r.arrived + length old.front) h.1 ∙ sym (ap (λ (r : ReadyJobsView BodyView). old.arrived + length r.front) h.1);
  led = subst (λ (r : ReadyJobsView BodyView). All (λ j. Contains (map (λ (x : ReadyJob BodyView). x.job.task) r.front) j.task) r.behind) (sym h.1)
      (λ k d lt. others task (map (λ (x : ReadyJob BodyView). x.job.task) old.front) (get_or old.behind k d).task (h.0 k d lt) (led k d lt));
}
moved script executor old new task front behind led (inr h) =
    let before = h.0 in
    let after = h.1 in
    let job = h.2 in
    let P : ReadyJob BodyView → Type 0 = λ x. BelongsTo script executor x.job in
    let x = ready_job job old.arrived in
    let all = All-permutation (BelongsTo script executor) (before ++ job ∷ after) (job ∷ (before ++ after)) (IsPermutation-middle before job after) (subst (λ (js : List (JobView BodyView)). All (BelongsTo script executor) js) h.3 behind) in
    let one = All-head (BelongsTo script executor) job (before ++ after) all in
    let rest = All-tail (BelongsTo script executor) job (before ++ after) all in
    let perm = h.6 in
    let len = length_permutation (x ∷ old.front) new.front perm in
    let arrived : new.arrived ≡ old.arrived + 1 = ap (λ (r : ReadyJobsView BodyView). r.arrived) h.7 in
    record {
      front = All-permutation P (x ∷ old.front) new.front perm (All-cons P x old.front one front);
      behind = subst (λ (js : List (JobView BodyView)). All (BelongsTo script executor) js) (sym (ap (λ (r : ReadyJobsView BodyView). r.behind) h.7)) rest;
      many = omega (arith, len, arrived);
      led =
          let ts = map (λ (x : ReadyJob BodyView). x.job.task) in
          let Q : JobView BodyView → Type 0 = λ j. Contains (task ∷ ts old.front) j.task in
          let all_led = All-permutation Q (before ++ job ∷ after) (job ∷ (before ++ after)) (IsPermutation-middle before job after) (subst (λ (js : List (JobView BodyView)). All Q js) h.3 led) in
          let rest_led = All-tail Q job (before ++ after) all_led in
          subst (λ (js : List (JobView BodyView)). All (λ j. Contains (ts new.front) j.task) js) (sym (ap (λ (r : ReadyJobsView BodyView). r.behind) h.7))
          (All-weaker Q (λ (j : JobView BodyView). Contains (ts new.front) j.task)
          (λ j has. Contains-permutation (job.task ∷ ts old.front) (ts new.front) j.task (IsPermutation-map (λ (x : ReadyJob BodyView). x.job.task) (x ∷ old.front) new.front perm) (subst (λ (t : TaskId). Contains (t ∷ ts old.front) j.task) (sym h.5) has))
          (before ++ after) rest_led);
    }

-- the turns of a journal that is folded are lawful after those of the checkpoint
past_grown : (script : ScriptView) (executor : ℕ) (c : CheckpointView) (journal : List RecordView) (rows : List (List ℤ)) → HasPast script executor c → AreLawful script c.fields journal → RunOn script executor journal → rows ≡ replay script c.fields journal
    → HasPast script executor (folds c journal rows)
past_grown script executor c journal rows past lawful runs after =
    let start = executor_start script executor in
    record {
      records = past.records ++ journal;
      folded = ap (λ (ts : List FoldedView). ts ++ map folded_of journal) past.folded ∙ sym (map-append folded_of past.records journal);
      lawful = lawful-append script start past.records journal past.lawful (subst (λ (fs : List (List ℤ)). AreLawful script fs journal) past.replayed lawful);
      runs = RunOn-append script executor past.records journal past.runs runs;
      replayed = after ∙ ap (λ (fs : List (List ℤ)). replay script fs journal) past.replayed ∙ sym (replay-append script start past.records journal);
    }

-- a journal that is not full yet, or is folded
pub turn_keeps : (s : ExecStateView) (c : ChosenView) (ready' : ReadyJobsView BodyView) (r : RecordView) (rows : List (List ℤ)) → ((script : ScriptView) (fields : List (List ℤ)) (rs : List RecordView) (r : RecordView) → LawfulGrows script fields rs r) → InvariantsStay
    → ExecInvariant s → s.chosen ≡ Some c → Forwards s.ready c.job.task ready' → IsRecorded s.script s.executor s.fields rows r
    → ExecInvariant (record s { ready = ready'; chosen = None; journal = journal_with s.journal r; checkpoint = checkpoint_with s.checkpoint s.journal r rows; fields = rows })
turn_keeps s c ready' r rows grows stays is at forwards rec =
    let j' = s.journal ++ r ∷ [] in
    let law = grows s.script s.checkpoint.fields s.journal r in
    let here = subst (λ (fs : List (List ℤ)). IsLawfulRecord s.script fs r) is.replayed rec.lawful in
    let lawful : AreLawful s.script s.checkpoint.fields j' = law.lawful is.lawful here in
    let replayed : rows ≡ replay s.script s.checkpoint.fields j' = rec.fields_are ∙ ap (λ (fs : List (List ℤ)). fields_after s.script fs r) is.replayed ∙ sym law.replayed in
    let runs = RunOn-push s.script s.executor s.journal r is.runs rec.on in
    let ready = moved s.script s.executor s.ready ready' c.job.task is.front is.behind (subst (λ (o : Option ChosenView). All (λ j. Contains (leaders s.ready.front o) j.task) s.ready.behind) at is.led) forwards in
    let one : chosen_count s.chosen ≡ 1 = ap chosen_count at in
    let many = is.counted in
    let more = ready.many in
    let few = is.few in
    let len = length-append s.journal (r ∷ []) in
    elim (cases_eq (suc (length s.journal)) FOLD) [
      | inl full ↦
          let folded = length-append s.checkpoint.folded (map folded_of j') in
          let size = length-map j' folded_of in
          subst (λ (b : Bool). ExecInvariant (record s { ready = ready'; chosen = None; journal = if b then [] else j'; checkpoint = if b then folds s.checkpoint j' rows else s.checkpoint; fields = rows })) (sym (eq-eqb (suc (length s.journal)) FOLD full))
          (record {
            past = past_grown s.script s.executor s.checkpoint j' rows is.past lawful runs replayed;
            lawful = tt;
            replayed = refl;
            runs = tt;
            kept = λ t has start. subst (λ (fs : List (List ℤ)). IsTrue (holds (Some t) fs)) (sym replayed) (stays s.script s.executor s.checkpoint.fields j' t runs has (is.kept t has start));
            counted = omega (arith, one, many, more, len, folded, size);
            few = omega arith;
            front = ready.front;
            behind = ready.behind;
            led = ready.led;
            chosen = tt;
          })
      | inr more_room ↦
          subst (λ (b : Bool). ExecInvariant (record s { ready = ready'; chosen = None; journal = if b then [] else j'; checkpoint = if b then folds s.checkpoint j' rows else s.checkpoint; fields = rows })) (sym (ne_eqb (suc (length s.journal)) FOLD more_room))
          (record {
            past = is.past;
            lawful = lawful;
            replayed = replayed;
            runs = runs;
            kept = is.kept;
            counted = omega (arith, one, many, more, len);
            few = omega (arith, few, len, more_room);
            front = ready.front;
            behind = ready.behind;
            led = ready.led;
            chosen = tt;
          })
    ]

-- what is left of a journal and a checkpoint that are settled
pub settled : (copy : Option (Vec (Vec ℤ Global) Global)) (room room' : CheckpointRoomView) (journal : List RecordView) (r : RecordView) (j' : List RecordView) (rows : List (List ℤ)) → length journal < FOLD → HasFoldRoom copy room (journal ++ r ∷ []) rows
    → Settles copy (journal ++ r ∷ []) j' room room' → (j' ≡ journal_with journal r) × (room'.view ≡ checkpoint_with room.view journal r rows)
settled None room room' journal r j' rows few has is =
    let len = length-append journal (r ∷ []) in
    let no = ne_eqb (suc (length journal)) FOLD (λ e. omega (arith, has, len, e)) in (
      is.0 ∙ sym (ap (λ (b : Bool). if b then [] else (journal ++ r ∷ [])) no),
      is.1 ∙ sym (ap (λ (b : Bool). if b then folds room.view (journal ++ r ∷ []) rows else room.view) no),
    )
settled (Some copy) room room' journal r j' rows few has is =
    let len = length-append journal (r ∷ []) in
    let full = has.0 in
    let yes = eq-eqb (suc (length journal)) FOLD (omega (arith, full, len, few)) in (
      is.0 ∙ sym (ap (λ (b : Bool). if b then [] else (journal ++ r ∷ [])) yes),
      is.1 ∙ ap (λ (fs : List (List ℤ)). folds room.view (journal ++ r ∷ []) fs) has.1 ∙ sym (ap (λ (b : Bool). if b then folds room.view (journal ++ r ∷ []) rows else room.view) yes),
    )

-- the executor after a turn that was journalled
pub record Done (book book' : BookView) (jobs jobs' : List JobFacts) (s new : ExecStateView) (c : ChosenView) : Type 0 where
  pub keeps : ExecInvariant new
  pub journals : Journals book book' jobs jobs' s new c

pub journalled : (book book' : BookView) (jobs jobs' : List JobFacts) (s : ExecStateView) (p : Kept) (job : JobView BodyView) (arrival : ℕ) (stage : ChosenStage) (j1 j' : List RecordView) (copy : Option (Vec (Vec ℤ Global) Global)) (room room' : CheckpointRoomView) (ready' : ReadyJobsView BodyView)
    → ((script : ScriptView) (fields : List (List ℤ)) (rs : List RecordView) (r : RecordView) → LawfulGrows script fields rs r) → InvariantsStay
    → ExecInvariant s → s.chosen ≡ Some (chosen_view p arrival stage job) → IsPlayed (stage_of p stage) → WritesRecord p stage job s.journal j1 → room.view ≡ s.checkpoint → HasFoldRoom copy room j1 p.fields.after
    → Settles copy j1 j' room room' → Forwards s.ready job.task ready' → Applied book book' job (effect_views p.effects.items) (exit_view p.exit) jobs jobs'
    → Done book book' jobs jobs' s (record s { ready = ready'; chosen = None; journal = j'; checkpoint = room'.view; fields = p.fields.after }) (chosen_view p arrival stage job)
journalled book book' jobs jobs' s p job arrival Picked j1 j' copy room room' ready' grows stays is at was wrote view has settles forwards applied = absurd was
journalled book book' jobs jobs' s p job arrival (Begun worker env) j1 j' copy room room' ready' grows stays is at was wrote view has settles forwards applied = absurd was
journalled book book' jobs jobs' s p job arrival (PlayedStage worker env) j1 j' copy room room' ready' grows stays is at was wrote view has settles forwards applied =
    let frame = frame_view p.frame in
    let effects = effect_views p.effects.items in
    let exit = exit_view p.exit in
    let rows = p.fields.after in
    let r = record_by job worker env frame effects exit in
    let c : ChosenView = record { job = job; arrival = arrival; stage = played worker env frame rows effects exit } in
    let chosen : IsChosen s c = subst (λ (o : Option ChosenView). IfSome o (IsChosen s)) at is.chosen in
    let has' = subst (λ (j : List RecordView). HasFoldRoom copy room j rows) wrote has in
    let settles' = subst (λ (j : List RecordView). Settles copy j j' room room') wrote settles in
    let done = settled copy room room' s.journal r j' rows is.few has' settles' in
    let checkpoint : room'.view ≡ checkpoint_with s.checkpoint s.journal r rows = done.1 ∙ ap (λ (v : CheckpointView). checkpoint_with v s.journal r rows) view in
    let rec = recorded s.script s.executor s.fields rows job worker env frame effects exit chosen.belongs chosen.plays in
    let keeps = turn_keeps s c ready' r rows grows stays is at forwards rec in
    let same : record s { ready = ready'; chosen = None; journal = j'; checkpoint = room'.view; fields = rows }
    ≡ record s { ready = ready'; chosen = None; journal = journal_with s.journal r; checkpoint = checkpoint_with s.checkpoint s.journal r rows; fields = rows } =
    ap (λ (j : List RecordView). record s { ready = ready'; chosen = None; journal = j; checkpoint = room'.view; fields = rows }) done.0
    ∙ ap (λ (v : CheckpointView). record s { ready = ready'; chosen = None; journal = journal_with s.journal r; checkpoint = v; fields = rows }) checkpoint in
    record {
      keeps = subst (λ (v : ExecStateView). ExecInvariant v) (sym same) keeps;
      journals = record {
        worker = worker;
        env = env;
        frame = frame;
        fields = rows;
        effects = effects;
        exit = exit;
        was = refl;
        script_is = applied.script_is;
        ends = applied.ends;
        forwards = forwards;
        same = same;
      };
    }

-- a record that was written and taken back
pub retracted : (p : Kept) (stage : ChosenStage) (job : JobView BodyView) (old new : List RecordView) → IsPlayed (stage_of p stage) → WritesRecord p stage job old new → take (length new - 1) new ≡ old
retracted p Picked job old new was wrote = absurd was
retracted p (Begun worker env) job old new was wrote = absurd was
retracted p (PlayedStage worker env) job old new was wrote =
    let r = record_by job worker env (frame_view p.frame) (effect_views p.effects.items) (exit_view p.exit) in
    let len = length-append old (r ∷ []) in
    ap (λ (xs : List RecordView). take (length xs - 1) xs) wrote ∙ take_at old (r ∷ []) (length (old ++ r ∷ []) - 1) (omega (arith, len))
