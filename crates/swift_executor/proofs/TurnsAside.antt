-- Turns that are set aside, brought back, and undone.
use Rattle.swift_executor.proofs.Prelude.{◌≡◌, ◌≢◌, ℕ, suc, ◌+◌, ◌-◌, ◌<◌, ◌≤◌, ℤ, Bool, if◌then◌else◌, Option, Some, None, IfSome, List, [], ◌∷◌, ◌++◌, length, take, drop, map, get_or, Contains, refl, ap, sym, subst, ◌∙◌, inl, arith, ne_eqb, same_Some, length-append, length-map, All, All-cons, All-head, All-map, All-nil, All-tail, All-weaker, All-permutation, Contains-permutation, IsPermutation, IsPermutation-cons, IsPermutation-map, IsPermutation-trans, length_permutation, TaskId, FOLD, ScriptView, effect_views, frame_view, exit_view, BodyView, JobView, JobFacts, job_facts, folds, RecordView, InvariantsStay, LawfulGrows, CanRestore, ReadyJob, ready_job, StageIsPlayed, WritesRecord, chosen_at, chosen_of, chosen_view, stage_of, Chosen, ChosenStage, Picked, Begun, PlayedTurn, FieldsAre, BelongsTo, ChosenView, ExecStateView, HasChosen, IsChosen, ExecInvariant, IsPlayed, PutsBack, before_turn, leaders, picked, played, record_by}
use Rattle.std.proofs.lemmas.List.{drop-set, drop-set-add, get_or-drop, length-drop, length-set, take-set, take-set-le, take_more}
use Rattle.std.specs.Prelude.{slice_set}
use Rattle.swift_executor.specs.declared.aside.Aside.{Aside}
use Rattle.swift_executor.specs.declared.chosen.ChosenStage.TheVariants.{Played as PlayedStage}
use Rattle.swift_executor.specs.AsideInside.{IsAside, IsFree, IsShuffled, IsWritten, PlayAside, PlaysAside, SetsAside, WasAside, played_on, seen_ready}
use Rattle.swift_interpreter.specs.Saved.{restored}
use Rattle.swift_executor.proofs.TurnKept.{recorded, retracted, turn_keeps}

-- how a played stage is seen
pub played_view : (p : PlayedTurn) (stage : ChosenStage) → StageIsPlayed stage → IsPlayed (stage_of p stage)
played_view p Picked is = absurd is
played_view p (Begun worker env) is = absurd is
played_view p (PlayedStage worker env) is = tt

pub written_some : (p : PlayedTurn) (stage : ChosenStage) (job : JobView BodyView) (old new : List RecordView) → StageIsPlayed stage → WritesRecord p stage job old new → length new ≡ length old + 1
written_some p Picked job old new is wrote = absurd is
written_some p (Begun worker env) job old new is wrote = absurd is
written_some p (PlayedStage worker env) job old new is wrote =
    ap length wrote ∙ length-append old (record_by job worker env (frame_view p.frame) (effect_views p.effects.items) (exit_view p.exit) ∷ [])

-- what an executor keeps where a turn is set aside
pub aside_keeps : (s : ExecStateView) (p : PlayedTurn) (job : JobView BodyView) (arrival : ℕ) (stage : ChosenStage) (j1 : List RecordView)
    → ((script : ScriptView) (fields : List (List ℤ)) (rs : List RecordView) (r : RecordView) → LawfulGrows script fields rs r) → InvariantsStay
    → ExecInvariant s → s.chosen ≡ Some (chosen_view p arrival stage job) → StageIsPlayed stage → IsWritten s.ready.behind p stage s.journal j1 job
    → ExecInvariant (record s { chosen = None; journal = j1; fields = p.fields.after })
aside_keeps s p job arrival Picked j1 grows stays is at was wrote = absurd was
aside_keeps s p job arrival (Begun worker env) j1 grows stays is at was wrote = absurd was
aside_keeps s p job arrival (PlayedStage worker env) j1 grows stays is at was wrote =
    let frame = frame_view p.frame in
    let effects = effect_views p.effects.items in
    let exit = exit_view p.exit in
    let rows = p.fields.after in
    let r = record_by job worker env frame effects exit in
    let c : ChosenView = record { job = job; arrival = arrival; stage = played worker env frame rows effects exit } in
    let chosen : IsChosen s c = subst (λ (o : Option ChosenView). IfSome o (IsChosen s)) at is.chosen in
    let rec = recorded s.script s.executor s.fields rows job worker env frame effects exit chosen.belongs chosen.plays in
    let keeps = turn_keeps s c s.ready r rows grows stays is at (inl (wrote.alone, refl)) rec in
    let many = written_some p (PlayedStage worker env) job s.journal j1 was wrote.written in
    let few = wrote.few in
    let no = ne_eqb (suc (length s.journal)) FOLD (λ e. omega (arith, many, few, e)) in
    let j' = s.journal ++ r ∷ [] in
    subst (λ (j : List RecordView). ExecInvariant (record s { chosen = None; journal = j; fields = rows })) (sym wrote.written)
    (subst (λ (b : Bool). ExecInvariant (record s { ready = s.ready; chosen = None; journal = if b then [] else j'; checkpoint = if b then folds s.checkpoint j' rows else s.checkpoint; fields = rows })) no keeps)

-- What is aside then.
module _ (s0 : ExecStateView) (p : PlayedTurn) (ch : Chosen) (z : Aside) (saved : List (ℕ × List ℤ)) (job : JobView BodyView) (j1 : List RecordView)
    (at : ch.job ≡ Some job) (is : StageIsPlayed ch.stage) (back : restored saved p.fields.after ≡ p.fields.before) (wrote : IsWritten s0.ready.behind p ch.stage s0.journal j1 job) (noted : z.written.value ≡ j1) where
  abbrev now_aside : Aside
  now_aside = record z { chosen = ch; frame = p.frame; effects = p.effects; exit = p.exit; saved = saved }

  abbrev aside_is : IsAside (record s0 { chosen = chosen_of p ch; fields = p.fields.before }) now_aside
  aside_is = record {
    after = p.fields.after;
    job = job;
    place = at;
    chosen_is = ap (chosen_at p ch.arrival ch.stage) at;
    played = is;
    back = back;
    written = subst (λ (j : List RecordView). WritesRecord p ch.stage job s0.journal j) (sym noted) wrote.written;
    few = subst (λ (j : List RecordView). length j < FOLD) (sym noted) wrote.few;
    alone = wrote.alone;
  }

  pub sets_aside : SetsAside (record s0 { chosen = chosen_of p ch; fields = p.fields.before }) (record s0 { chosen = None; journal = j1; fields = p.fields.after }) now_aside
  sets_aside = record { is = aside_is; new_is = ap (λ (j : List RecordView). record s0 { chosen = None; journal = j; fields = p.fields.after }) (sym noted) }

-- what is left in its place
pub left_free : (s : ExecStateView) (p : PlayedTurn) (ch : Chosen) (f : FieldsAre) (j : List RecordView) (rows : List (List ℤ)) → ch.job ≡ None → f.before ≡ rows
    → record s { chosen = chosen_of p ch; journal = j; fields = f.before } ≡ record s { chosen = None; journal = j; fields = rows }
left_free s p ch f j rows none fields =
    ap (λ (o : Option (JobView BodyView)). record s { chosen = chosen_at p ch.arrival ch.stage o; journal = j; fields = f.before }) none
    ∙ ap (λ (fs : List (List ℤ)). record s { chosen = None; journal = j; fields = fs }) fields

-- What holds of the jobs in front as they are seen holds of others that are seen the same.
unmapped : (Q : JobFacts × ℕ → Type 0) (xs : List (ReadyJob BodyView)) → All Q (map seen_ready xs) → All (λ x. Q (seen_ready x)) xs
unmapped Q [] all = All-nil (λ (x : ReadyJob BodyView). Q (seen_ready x))
unmapped Q (x ∷ xs) all = All-cons (λ (y : ReadyJob BodyView). Q (seen_ready y)) x xs (All-head Q (seen_ready x) (map seen_ready xs) all) (unmapped Q xs (All-tail Q (seen_ready x) (map seen_ready xs) all))

abbrev task_seen : JobFacts × ℕ → TaskId
task_seen x = record { 0 = x.0.task }

abbrev tasks_of : List (ReadyJob BodyView) → List TaskId
tasks_of xs = map (λ x. x.job.task) xs

tasks_seen : (xs : List (ReadyJob BodyView)) → map task_seen (map seen_ready xs) ≡ tasks_of xs
tasks_seen [] = refl
tasks_seen (x ∷ xs) = ap (λ (ts : List TaskId). x.job.task ∷ ts) (tasks_seen xs)

module _ (xs ys : List (ReadyJob BodyView)) (perm : IsPermutation (map seen_ready xs) (map seen_ready ys)) where
  moved_all : (Q : JobFacts × ℕ → Type 0) → All (λ x. Q (seen_ready x)) xs → All (λ x. Q (seen_ready x)) ys
  moved_all Q all = unmapped Q ys (All-permutation Q (map seen_ready xs) (map seen_ready ys) perm (All-map Q seen_ready xs all))

  lengths : length ys ≡ length xs
  lengths = sym (length-map ys seen_ready) ∙ length_permutation (map seen_ready xs) (map seen_ready ys) perm ∙ length-map xs seen_ready

  tasks_moved : IsPermutation (tasks_of xs) (tasks_of ys)
  tasks_moved =
      subst (λ (ts : List TaskId). IsPermutation ts (tasks_of ys)) (tasks_seen xs)
      (subst (λ (ts : List TaskId). IsPermutation (map task_seen (map seen_ready xs)) ts) (tasks_seen ys) (IsPermutation-map task_seen (map seen_ready xs) (map seen_ready ys) perm))

  moved_leaders : (o : Option ChosenView) → IsPermutation (leaders xs o) (leaders ys o)
  moved_leaders None = tasks_moved
  moved_leaders (Some c) = IsPermutation-cons c.job.task (tasks_of xs) (tasks_of ys) tasks_moved

-- Only jobs in front have become others.
module _ (s : ExecStateView) (front : List (ReadyJob BodyView)) (perm : IsPermutation (map seen_ready s.ready.front) (map seen_ready front)) where
  abbrev shuffled : ExecStateView
  shuffled = record s { ready = record s.ready { front = front } }

  can_restore : (t : TaskId) (n : ℕ) → CanRestore s.ready t n → CanRestore shuffled.ready t n
  can_restore t n can =
      let len = lengths s.ready.front front perm in
      let room = can.room in
      record {
        room = omega (arith, len, room);
        below = can.below;
        apart = moved_all s.ready.front front perm (λ x. x.1 ≢ n) can.apart;
        clear = moved_all s.ready.front front perm (λ x. task_seen x ≢ t) can.clear;
      }

  chosen_moved : (o : Option ChosenView) → IfSome o (IsChosen s) → IfSome o (IsChosen shuffled)
  chosen_moved None is = tt
  chosen_moved (Some c) is = record { belongs = is.belongs; restorable = can_restore c.job.task c.arrival is.restorable; plays = is.plays }

  pub shuffled_keeps : ExecInvariant s → All (λ x. BelongsTo s.script s.executor x.job) front → ExecInvariant shuffled
  shuffled_keeps is belongs =
      let len = lengths s.ready.front front perm in
      let many = is.counted in
      record {
        past = is.past;
        lawful = is.lawful;
        replayed = is.replayed;
        runs = is.runs;
        kept = is.kept;
        counted = omega (arith, len, many);
        few = is.few;
        front = belongs;
        behind = is.behind;
        led = All-weaker (λ (j : JobView BodyView). Contains (leaders s.ready.front s.chosen) j.task) (λ (j : JobView BodyView). Contains (leaders front s.chosen) j.task)
            (λ j has. Contains-permutation (leaders s.ready.front s.chosen) (leaders front s.chosen) j.task (moved_leaders s.ready.front front perm s.chosen) has) s.ready.behind is.led;
        chosen = chosen_moved s.chosen is.chosen;
      }

abbrev fields_are : List (List ℤ) → List (List ℤ) → FieldsAre
fields_are before after = record { before = before; after = after }

-- A turn that is aside is brought back.
module _ (s : ExecStateView) (a : Aside) (v : ExecStateView) (w : WasAside s a v) where
  abbrev brought : ExecStateView
  brought = record s { ready = record s.ready { front = v.ready.front } }

  pub was_none : v.chosen ≡ None
  was_none = ap (λ (x : ExecStateView). x.chosen) w.shuffled.same

  pub was_written : 0 < length v.journal
  was_written =
      let at = ap (λ (x : ExecStateView). length x.journal) w.shuffled.same in
      let many = written_some (played_on a (fields_are s.fields w.is.after)) a.chosen.stage w.is.job s.journal a.written.value w.is.played w.is.written in
      omega (arith, at, many)

  pub brought_keeps : ExecInvariant brought
  brought_keeps = shuffled_keeps s v.ready.front w.shuffled.front w.keeps w.shuffled.belongs

  pub brought_shuffled : IsShuffled s brought
  brought_shuffled = record { front = w.shuffled.front; belongs = w.shuffled.belongs; same = refl }

  pub brought_to : (a1 : Aside) (p p1 : PlayedTurn) (ch1 : Chosen) (j' : List RecordView) (f' : FieldsAre) → v.fields ≡ p.fields.before → ch1 ≡ a.chosen → p1 ≡ record p { frame = a.frame; effects = a.effects; exit = a.exit } → a1.saved ≡ a.saved
      → j' ≡ take (length v.journal - 1) v.journal → f' ≡ fields_are (restored a1.saved p1.fields.before) p1.fields.before
      → record v { chosen = chosen_of (record p1 { fields = f' }) ch1; journal = j'; fields = f'.before } ≡ brought
  brought_to a1 p p1 ch1 j' f' own ch p_is saved j_def f_def =
      let is = w.is in
      let same = w.shuffled.same in
      let fs = fields_are s.fields is.after in
      let fields : p.fields.before ≡ is.after = sym own ∙ ap (λ (x : ExecStateView). x.fields) same in
      let journal : v.journal ≡ a.written.value = ap (λ (x : ExecStateView). x.journal) same in
      let f_is : f' ≡ fs =
      f_def ∙ ap (λ (x : PlayedTurn). fields_are (restored a1.saved x.fields.before) x.fields.before) p_is
      ∙ ap (λ (x : List (ℕ × List ℤ)). fields_are (restored x p.fields.before) p.fields.before) saved
      ∙ ap (λ (rows : List (List ℤ)). fields_are (restored a.saved rows) rows) fields
      ∙ ap (λ (rows : List (List ℤ)). fields_are rows is.after) is.back
      in
      let j_is : j' ≡ s.journal = j_def ∙ ap (λ (xs : List RecordView). take (length xs - 1) xs) journal ∙ retracted (played_on a fs) a.chosen.stage is.job s.journal a.written.value (played_view (played_on a fs) a.chosen.stage is.played) is.written in
      let c_is : chosen_of (record p1 { fields = f' }) ch1 ≡ s.chosen =
      ap (chosen_of (record p1 { fields = f' })) ch
      ∙ ap (λ (x : PlayedTurn). chosen_of (record x { fields = f' }) a.chosen) p_is
      ∙ ap (λ (f : FieldsAre). chosen_of (played_on a f) a.chosen) f_is
      ∙ ap (chosen_at (played_on a fs) a.chosen.arrival a.chosen.stage) is.place
      ∙ sym is.chosen_is
      in
      ap (λ (o : Option ChosenView). record v { chosen = o; journal = j'; fields = f'.before }) c_is
      ∙ ap (λ (j : List RecordView). record v { chosen = s.chosen; journal = j; fields = f'.before }) j_is
      ∙ ap (λ (f : FieldsAre). record v { chosen = s.chosen; journal = s.journal; fields = f.before }) f_is
      ∙ ap (λ (x : ExecStateView). record x { chosen = s.chosen; journal = s.journal; fields = s.fields }) same

-- a turn that was played from here is aside
pub was_aside : (worker : ℕ) (s next : ExecStateView) (a : Aside) (p : PlaysAside worker s a next) (now : ExecStateView) → IsShuffled next now → WasAside p.played a now
was_aside worker s next a p now is = record { keeps = p.keeps; is = p.sets.is; shuffled = subst (λ (v : ExecStateView). IsShuffled v now) p.sets.new_is is }

-- It was brought back, and then its job is ready again.
module _ (worker : ℕ) (s next : ExecStateView) (a : Aside) (p : PlaysAside worker s a next) (mid : ExecStateView) (is : IsShuffled p.played mid) where
  abbrev was_chosen : ChosenView
  was_chosen = record {
    job = p.plays.plays.job;
    arrival = p.chosen.arrival;
    stage = played p.plays.plays.worker p.plays.plays.env p.plays.plays.frame p.plays.plays.fields p.plays.plays.effects p.plays.plays.exit;
  }

  at_chosen : mid.chosen ≡ Some was_chosen
  at_chosen = ap (λ (x : ExecStateView). x.chosen) is.same ∙ ap (λ (x : ExecStateView). x.chosen) p.plays.plays.same

  pub has_chosen : HasChosen mid (λ _. Unit {0})
  has_chosen = (was_chosen, at_chosen, tt)

  pub undone : (new : ExecStateView) → HasChosen mid (PutsBack mid new) → ExecInvariant new → IsShuffled s new
  undone new h inv =
      let q = p.plays.plays in
      let job = p.chooses.job in
      let arrival = p.chooses.arrival in
      let back = h.2 in
      let one : ChosenView = record { job = job; arrival = arrival; stage = picked } in
      let first : p.chosen ≡ one = same_Some p.chosen one (sym p.plays.at ∙ ap (λ (x : ExecStateView). x.chosen) p.chooses.same) in
      let here : h.0 ≡ was_chosen = same_Some h.0 was_chosen (sym h.1 ∙ at_chosen) in
      let facts : job_facts back.job ≡ job_facts job = back.same_job ∙ ap (λ (x : ChosenView). before_turn x.stage x.job) here ∙ q.same_job ∙ ap (λ (x : ChosenView). job_facts x.job) first in
      let arrived : h.0.arrival ≡ arrival = ap (λ (x : ChosenView). x.arrival) here ∙ ap (λ (x : ChosenView). x.arrival) first in
      let seen : seen_ready (ready_job back.job h.0.arrival) ≡ seen_ready (ready_job job arrival) = ap (λ (f : JobFacts). (f, h.0.arrival)) facts ∙ ap (λ (n : ℕ). (job_facts job, n)) arrived in
      let x = seen_ready (ready_job job arrival) in
      let seen_in : List (ReadyJob BodyView) → List (JobFacts × ℕ) = map seen_ready in
      let front : p.played.ready.front ≡ p.picked.ready.front = ap (λ (v : ExecStateView). v.ready.front) q.same in
      let out = IsPermutation-map seen_ready s.ready.front (ready_job job arrival ∷ p.picked.ready.front) p.chooses.rest in
      let beside : IsPermutation (seen_in p.picked.ready.front) (seen_in mid.ready.front) = subst (λ (xs : List (ReadyJob BodyView)). IsPermutation (seen_in xs) (seen_in mid.ready.front)) front is.front in
      let again : IsPermutation (x ∷ seen_in mid.ready.front) (seen_in new.ready.front) =
      subst (λ (y : JobFacts × ℕ). IsPermutation (y ∷ seen_in mid.ready.front) (seen_in new.ready.front)) seen (IsPermutation-map seen_ready (ready_job back.job h.0.arrival ∷ mid.ready.front) new.ready.front back.front)
      in
      let same : new ≡ record s { ready = record s.ready { front = new.ready.front } } =
      back.same
      ∙ ap (λ (v : ExecStateView). record v { ready = record v.ready { front = new.ready.front }; chosen = None }) is.same
      ∙ ap (λ (v : ExecStateView). record v { ready = record v.ready { front = new.ready.front }; chosen = None }) q.same
      ∙ ap (λ (v : ExecStateView). record v { ready = record v.ready { front = new.ready.front }; chosen = None }) p.chooses.same
      ∙ ap (λ (o : Option ChosenView). record s { ready = record s.ready { front = new.ready.front }; chosen = o }) (sym p.free)
      in
      record {
        front = IsPermutation-trans (seen_in s.ready.front) (x ∷ seen_in p.picked.ready.front) (seen_in new.ready.front) out
            (IsPermutation-trans (x ∷ seen_in p.picked.ready.front) (x ∷ seen_in mid.ready.front) (seen_in new.ready.front) (IsPermutation-cons x (seen_in p.picked.ready.front) (seen_in mid.ready.front) beside) again);
        belongs = subst (λ (v : ExecStateView). All (λ x. BelongsTo v.script v.executor x.job) new.ready.front) same inv.front;
        same = same;
      }

-- of turns aside the newest one, and what is left without it
abbrev pub HasNewest : ℕ → ExecStateView → List Aside → Aside → ExecStateView → Type 0
HasNewest worker s xs a new = (last : ExecStateView) × PlayAside worker last (a ∷ []) new × ((new' : ExecStateView) → IsShuffled last new' → PlayAside worker s xs new')

pub newest_aside : (worker : ℕ) (s : ExecStateView) (xs : List Aside) (a : Aside) (new : ExecStateView) → PlayAside worker s (xs ++ a ∷ []) new → HasNewest worker s xs a new
newest_aside worker s [] a new h = (s, h, λ new' is. is)
newest_aside worker s (x ∷ xs) a new h =
    let r = newest_aside worker h.0 xs a new h.2 in
    (r.0, r.1, λ new' is. (h.0, h.1, r.2 new' is))

-- The newest ones of the turns aside in places `start` to `many` are undone, so many of them.
module _ (start many done : ℕ) (ys : List Aside) (d : Aside) (more : start + done < many) (within : many ≤ length ys) where
  place_is : many - 1 - done ≡ start + (many - start - (done + 1))
  place_is = omega (arith, more)

  next_is : many - start - done ≡ many - start - (done + 1) + 1
  next_is = omega (arith, more)

  inside : many - start - (done + 1) < length (drop start ys)
  inside =
      let len = length-drop start ys in
      omega (arith, more, within, len)

  pub taken_more : take (many - start - done) (drop start ys) ≡ take (many - start - (done + 1)) (drop start ys) ++ get_or ys (many - 1 - done) d ∷ []
  taken_more =
      ap (λ (k : ℕ). take k (drop start ys)) next_is ∙ take_more (drop start ys) (many - start - (done + 1)) d inside
      ∙ ap (λ (a : Aside). take (many - start - (done + 1)) (drop start ys) ++ a ∷ []) (get_or-drop start ys (many - start - (done + 1)) d ∙ ap (λ (k : ℕ). get_or ys k d) (sym place_is))

  pub taken_less : (a : Aside) → take (many - start - (done + 1)) (drop start (slice_set ys (many - 1 - done) a)) ≡ take (many - start - (done + 1)) (drop start ys)
  taken_less a =
      ap (λ (k : ℕ). take (many - start - (done + 1)) (drop start (slice_set ys k a))) place_is
      ∙ ap (λ (zs : List Aside). take (many - start - (done + 1)) zs) (drop-set-add start ys (many - start - (done + 1)) a)
      ∙ take-set (drop start ys) (many - start - (done + 1)) a

  pub dropped_more : (a : Aside) → drop (many - (done + 1)) (slice_set ys (many - 1 - done) a) ≡ a ∷ drop (many - done) ys
  dropped_more a =
      let here : many - (done + 1) ≡ many - 1 - done = omega (arith, more) in
      let next : many - 1 - done + 1 ≡ many - done = omega (arith, more) in
      ap (λ (k : ℕ). drop k (slice_set ys (many - 1 - done) a)) here ∙ drop-set ys (many - 1 - done) a (omega (arith, more, within)) ∙ ap (λ (k : ℕ). a ∷ drop k ys) next

pub record IsUndoing (s0 s1 : ExecStateView) (xs ys : List Aside) (start many done : ℕ) : Type 0 where
  pub one : (worker : ℕ) × (s : ExecStateView) × PlayAside worker s (take (many - start - done) (drop start ys)) s1
  pub each : (worker : ℕ) (s : ExecStateView) → PlayAside worker s (take (many - start) (drop start xs)) s0 → PlayAside worker s (take (many - start - done) (drop start ys)) s1
  pub len : length ys ≡ length xs
  pub before : take start ys ≡ take start xs
  pub free : All IsFree (drop many xs) → All IsFree (drop (many - done) ys)

pub undoing_none : (s0 : ExecStateView) (xs : List Aside) (start many : ℕ) → ((worker : ℕ) × (s : ExecStateView) × PlayAside worker s (take (many - start) (drop start xs)) s0) → IsUndoing s0 s0 xs xs start many 0
undoing_none s0 xs start many h =
    let e : many - start ≡ many - start - 0 = omega arith in
    let f : many ≡ many - 0 = omega arith in
    record {
      one = (h.0, h.1, subst (λ (k : ℕ). PlayAside h.0 h.1 (take k (drop start xs)) s0) e h.2);
      each = λ worker s is. subst (λ (k : ℕ). PlayAside worker s (take k (drop start xs)) s0) e is;
      len = refl;
      before = refl;
      free = λ are. subst (λ (k : ℕ). All IsFree (drop k xs)) f are;
    }

module _ (s0 s1 : ExecStateView) (xs ys : List Aside) (start many done : ℕ) (d : Aside) (u : IsUndoing s0 s1 xs ys start many done) (more : start + done < many) (within : many ≤ length ys) where
  newest_of : (worker : ℕ) (s : ExecStateView) → PlayAside worker s (take (many - start - done) (drop start ys)) s1 → HasNewest worker s (take (many - start - (done + 1)) (drop start ys)) (get_or ys (many - 1 - done) d) s1
  newest_of worker s is =
      newest_aside worker s (take (many - start - (done + 1)) (drop start ys)) (get_or ys (many - 1 - done) d) s1
      (subst (λ (zs : List Aside). PlayAside worker s zs s1) (taken_more start many done ys d more within) is)

  pub undoing_one : (worker : ℕ) × (s : ExecStateView) × PlayAside worker s (get_or ys (many - 1 - done) d ∷ []) s1
  undoing_one =
      let r = newest_of u.one.0 u.one.1 u.one.2 in
      (u.one.0, r.0, r.1)

  goes_on : (a : Aside) (s2 : ExecStateView) → ((worker : ℕ) (s : ExecStateView) → PlayAside worker s (get_or ys (many - 1 - done) d ∷ []) s1 → IsShuffled s s2)
      → (worker : ℕ) (s : ExecStateView) → PlayAside worker s (take (many - start - done) (drop start ys)) s1 → PlayAside worker s (take (many - start - (done + 1)) (drop start (slice_set ys (many - 1 - done) a))) s2
  goes_on a s2 does worker s is =
      let r = newest_of worker s is in
      subst (λ (zs : List Aside). PlayAside worker s zs s2) (sym (taken_less start many done ys d more within a)) (r.2 s2 (does worker r.0 r.1))

  pub undoing_more : (a : Aside) (s2 : ExecStateView) → ((worker : ℕ) (s : ExecStateView) → PlayAside worker s (get_or ys (many - 1 - done) d ∷ []) s1 → IsShuffled s s2) → IsFree a
      → IsUndoing s0 s2 xs (slice_set ys (many - 1 - done) a) start many (done + 1)
  undoing_more a s2 does free = record {
    one = (u.one.0, u.one.1, goes_on a s2 does u.one.0 u.one.1 u.one.2);
    each = λ worker s is. goes_on a s2 does worker s (u.each worker s is);
    len = length-set ys (many - 1 - done) a ∙ u.len;
    before = take-set-le start ys (many - 1 - done) a (omega (arith, more)) ∙ u.before;
    free = λ are. subst (λ (zs : List Aside). All IsFree zs) (sym (dropped_more start many done ys d more within a)) (All-cons IsFree a (drop (many - done) ys) free (u.free are));
  }

-- all of them were
pub undoing_all : (s0 s1 : ExecStateView) (xs ys : List Aside) (start many done : ℕ) → IsUndoing s0 s1 xs ys start many done → done ≡ many - start → (worker : ℕ) (s : ExecStateView) → PlayAside worker s (take (many - start) (drop start xs)) s0 → IsShuffled s s1
undoing_all s0 s1 xs ys start many done u last worker s is =
    let none : many - start - done ≡ 0 = omega (arith, last) in
    subst (λ (k : ℕ). PlayAside worker s (take k (drop start ys)) s1) none (u.each worker s is)

pub undoing_free : (s0 s1 : ExecStateView) (xs ys : List Aside) (start many done : ℕ) → IsUndoing s0 s1 xs ys start many done → done ≡ many - start → start ≤ many → All IsFree (drop many xs) → All IsFree (drop start ys)
undoing_free s0 s1 xs ys start many done u last within are =
    let here : many - done ≡ start = omega (arith, last, within) in
    subst (λ (k : ℕ). All IsFree (drop k ys)) here (u.free are)
