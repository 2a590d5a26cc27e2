-- A silent turn, and a block of another task after it or before it.
use Rattle.swift_reordering.proofs.Prelude.{◌≡◌, ◌≢◌, ℕ, ℤ, List, [], ◌∷◌, ◌++◌, map, refl, sym, ◌∙◌, ap, ap₂, subst, subst₂, Bool, true, false, inl, inr, Option, Some, None, is_some, ◌==◌, ◌&&◌, ◌||◌, ◌-◌, ◌^◌, nat_lt, min, sum_by, if◌then◌else◌, AllByRecursion, cons_option, range_with_len, cases_eq, false≢true, Env, TASKS, MADE, Priority, Resume, ScriptView, root_count, FrameView, EffectView, ExitView, calling, waiting, asking_next, closing, yielding, returning, failing, Played, TurnStateView, Advanced, advanced, RecordView, CheckpointView, replay, IsAfter, StandsFor, IsLawfulRecord, Event, Begin, Life, LastJob, Given, Begun, tasks_of, life_of, room_held, room_in, links_of, is_cancelled, life_of-push_same, IsPriority, log_grows, IsEnv, reserved_of, room_of, Counters, is_begun, is_current, is_under_way, was_given, counters, fits_exit, fits_turn, JobFacts, TurnEnd, task, root_job, turn_end, Block, added, begun, ran, folded, Standing, at_first, after_block, after_blocks, with_jobs, taken, begun_priority, left_as, turn_applied, fields_of, records_of, record_in, TurnStands, Stands, AllStand, IsOrderly, job_executor, AreCounted, unbegun, after_push, all_keep, applied_is, first_counted, AreInPlace, digest_of, IsNotFolded, LeadAlike, job_plan, held_plans, option_map, histories_new, same_priority, all_push, fields_push, records_push, front_none, stage_at, IsSilentTurn, SilentTurnsCommute, goes_on_alone, IsApart, IsUnnamed, ends_task, IsOfOther}
use Rattle.std.proofs.Math.Path.{fun_ext}
use Rattle.swift_events.specs.Room.{lives_of}
use Rattle.swift_reordering.proofs.Holding.{hold_always}
use Rattle.swift_reordering.proofs.Apart.{block_apart, record_spares, turn_shown}
use Rattle.swift_reordering.proofs.Sights.{waited, AreSeen, seen_on, seen_tasks, seen_origin, seen_links, seen_cancelled}
use Rattle.swift_reordering.proofs.SeenFits.{seen_fits, seen_counters}
use Rattle.swift_reordering.proofs.SeenEnds.{EndSeen, TurnShown, all_shown, seen_end}
use Rattle.swift_reordering.proofs.Priorities.{priority_later}
use Rattle.swift_reordering.proofs.Others.{IsNotOf, KeepsJob, begin_keeps_job, gives_others, root_keeps_job, turn_keeps_by}
use Rattle.swift_reordering.proofs.Keeping.{block_keeps_job}
use Rattle.swift_reordering.proofs.SilentSteps.{GoesOnAlone, WayOut, goes, over, goes_alone, is_over, life_by, InvariantsHold, AfterAlone, silent_after, silent_fields, no_effects, played, alone_apart, alone_seen, alone_life, alone_job, alone_jobs}
use Rattle.swift_reordering.proofs.Rooms.{total, sum_total}
use Rattle.swift_reordering.proofs.Beside.{besides, besides_sight, other_current, other_life, one_digest}

-- the room of turns, where the job of one task is not seen, and has reserved as much

seen_reserved : (ends : Bool) (t roots : ℕ) (a b : List Event) → AreSeen (besides ends t) a b → room_held (life_of t a) ≡ room_held (life_of t b) → reserved_of roots a ≡ reserved_of roots b
unfolding lives_of
seen_reserved ends t roots a b same held =
    let each : (u : ℕ) → room_held (life_of u a) ≡ room_held (life_of u b) = λ u. elim (cases_eq u t) [
      | inl one ↦ ap (λ (v : ℕ). room_held (life_of v a)) one ∙ held ∙ ap (λ (v : ℕ). room_held (life_of v b)) (sym one)
      | inr ne ↦ ap room_held (other_life ends t a b same u ne)
    ] in
    ap (λ (n : ℕ). sum_by room_held (map (λ u. life_of u a) (range_with_len 0 n))) (seen_tasks (besides ends t) (besides_sight ends t) a b same roots)
    ∙ sum_total a (tasks_of roots b) ∙ ap (λ (w : ℕ → ℕ). total w (tasks_of roots b)) (fun_ext each) ∙ sym (sum_total b (tasks_of roots b))

seen_room : (ends : Bool) (t roots u : ℕ) (a b : List Event) → AreSeen (besides ends t) a b → room_held (life_of t a) ≡ room_held (life_of t b) → room_of roots u a ≡ room_of roots u b
seen_room ends t roots u a b same held =
    let own : room_held (life_of u a) ≡ room_held (life_of u b) = elim (cases_eq u t) [
      | inl one ↦ ap (λ (v : ℕ). room_held (life_of v a)) one ∙ held ∙ ap (λ (v : ℕ). room_held (life_of v b)) (sym one)
      | inr ne ↦ ap room_held (other_life ends t a b same u ne)
    ] in
    let tasks = seen_tasks (besides ends t) (besides_sight ends t) a b same roots in
    let reserved = seen_reserved ends t roots a b same held in
    ap₂ (λ (n k : ℕ). min MADE (TASKS - n - (k - room_held (life_of u a)))) tasks reserved ∙ ap (λ (k : ℕ). min MADE (TASKS - tasks_of roots b - (reserved_of roots b - k))) own

-- two standings that are one but for the job of a task that waits for nothing, or that has ended in one
pub record AreBeside (ends : Bool) (t : ℕ) (z s : Standing) : Type 0 where
  pub near : AreSeen (besides ends t) z.log s.log
  pub room : room_held (life_of t z.log) ≡ room_held (life_of t s.log)
  pub held : z.held ≡ s.held
  pub jobs : (u : ℕ) → u ≢ t → z.jobs u ≡ s.jobs u

module _ (script : ScriptView) (ends : Bool) (t : ℕ) (s z : Standing) (beside : AreBeside ends t z s) where
  turn_beside : AreInPlace s.log → AreInPlace z.log → (executor u n : ℕ) (effects : List EffectView) (exit : ExitView) (job : JobFacts) (env : Env) (frame : FrameView) → u ≢ t → TurnStands script s executor u n effects exit job env frame
      → TurnStands script z executor u n effects exit job env frame
  turn_beside now_s now_z executor u n effects exit job env frame ne stands =
      let life = other_life ends t z.log s.log beside.near u ne in
      record {
        given = beside.jobs u ne ∙ stands.given;
        number = stands.number;
        current = other_current ends t z.log s.log beside.near now_z now_s u n job.resume ne ∙ stands.current;
        has_begun = ap (λ (l : Life). l.stage) life ∙ stands.has_begun;
        fits = seen_fits (besides ends t) (besides_sight ends t) z.log s.log beside.near script u effects (counters u z.log env.room) exit
            ∙ ap (λ (c : Counters). fits_turn script u s.log c effects exit) (seen_counters (besides ends t) (besides_sight ends t) z.log s.log beside.near script u env.room) ∙ stands.fits;
        runs = stands.runs;
        on = stands.on;
      }

  -- and leaves the two beside each other, and the job of the task where it is
  turn_leaves : AreInPlace s.log → AreInPlace z.log → (executor u n : ℕ) (effects : List EffectView) (exit : ExitView) (after : Option FrameView) (job : JobFacts) (env : Env) (frame : FrameView) → u ≢ t → TurnStands script s executor u n effects exit job env frame
      → TurnShown (besides_sight ends t).hides (root_count script) u n (begun_priority (stage_at z.log u)) z.log effects exit → AreCounted (root_count script) s.log s.held → is_under_way (stage_at s.log t) ≡ true → AreInPlace (turn_applied script z u n effects exit after).log → AreInPlace (turn_applied script s u n effects exit after).log
      → AreSeen (besides ends t) (turn_applied script z u n effects exit after).log (turn_applied script s u n effects exit after).log
      × ((turn_applied script z u n effects exit after).held ≡ (turn_applied script s u n effects exit after).held)
      × ((v : ℕ) → v ≢ t → (turn_applied script z u n effects exit after).jobs v ≡ (turn_applied script s u n effects exit after).jobs v)
      × KeepsJob z (turn_applied script z u n effects exit after) t
  unfolding turn_beside
  turn_leaves now_s now_z executor u n effects exit after job env frame ne stands shown counted under new_z new_s =
      let callers : List FrameView = stands.runs.0 in
      let adv : Advanced = advanced script (left_as frame effects after) callers job.frames.outer exit in
      let is_s = applied_is script s u n job frame callers effects exit after stands.given stands.runs.1 in
      let is_z = applied_is script z u n job frame callers effects exit after (beside.jobs u ne ∙ stands.given) stands.runs.1 in
      let own_s : Priority = begun_priority (stage_at s.log u) in
      let own_z : Priority = begun_priority (stage_at z.log u) in
      let own : own_z ≡ own_s = ap (λ (l : Life). begun_priority l.stage) (other_life ends t z.log s.log beside.near u ne) in
      let end_s : List (Option _) → TurnEnd = λ held. turn_end script s.log held u n own_s effects exit adv in
      let same : end_s z.held ≡ end_s s.held = ap end_s beside.held in
      let x : TurnEnd = turn_end script z.log z.held u n own_z effects exit adv in
      let e : EndSeen (besides ends t) (besides_sight ends t) z.log s.log x (end_s z.held) =
      seen_end (besides ends t) (besides_sight ends t) z.log s.log beside.near script z.held u n own_z own_s effects exit adv (inl own) shown (subst (λ (a : Standing). AreInPlace a.log) is_z new_z)
      (subst (λ (a : TurnEnd). AreInPlace a.log) (sym same) (subst (λ (a : Standing). AreInPlace a.log) is_s new_s)) in
      let jobs : x.jobs ≡ (end_s s.held).jobs = e.jobs ∙ ap (λ (a : TurnEnd). a.jobs) same in
      let none : AllByRecursion (IsNotOf t) x.jobs = subst (AllByRecursion (IsNotOf t)) (sym jobs) (gives_others script s executor u n effects exit after job env frame stands counted t ne under) in
      let keeps : KeepsJob z (turn_applied script z u n effects exit after) t =
      turn_keeps_by script z executor u n effects exit after job env frame (turn_beside now_s now_z executor u n effects exit job env frame ne stands) t ne none in
      let three : AreSeen (besides ends t) (turn_applied script z u n effects exit after).log (turn_applied script s u n effects exit after).log
      × ((turn_applied script z u n effects exit after).held ≡ (turn_applied script s u n effects exit after).held)
      × ((v : ℕ) → v ≢ t → (turn_applied script z u n effects exit after).jobs v ≡ (turn_applied script s u n effects exit after).jobs v) =
      subst₂ (λ (a b : Standing). AreSeen (besides ends t) a.log b.log × (a.held ≡ b.held) × ((v : ℕ) → v ≢ t → a.jobs v ≡ b.jobs v)) (sym is_z) (sym is_s) (
        subst (λ (a : TurnEnd). AreSeen (besides ends t) x.log a.log) same e.joint.near,
        e.held ∙ ap (λ (a : TurnEnd). a.held) same,
        λ v other. with_same x.jobs (taken u z.jobs) (taken u s.jobs) v (taken_same v other)
            ∙ ap (λ (js : List JobFacts). with_jobs js (taken u s.jobs) v) jobs,
      ) in
      (three.0, three.1, three.2, keeps)
    where
      taken_same : (v : ℕ) → v ≢ t → taken u z.jobs v ≡ taken u s.jobs v
      taken_same v other = ap (λ (o : Option JobFacts). if v == u then None else o) (beside.jobs v other)

      if_same : (b : Bool) (j : JobFacts) (o p : Option JobFacts) → o ≡ p → (if b then Some j else o) ≡ (if b then Some j else p)
      if_same true j o p same = refl
      if_same false j o p same = same

      with_same : (js : List JobFacts) (f g : ℕ → Option JobFacts) (v : ℕ) → f v ≡ g v → with_jobs js f v ≡ with_jobs js g v
      with_same [] f g v same = same
      with_same (j ∷ js) f g v same = with_same js (λ w. if w == j.task then Some j else f w) (λ w. if w == j.task then Some j else g w) v (if_same (v == j.task) j (f v) (g v) same)

-- a block of another task

module _ (script : ScriptView) (cps : List CheckpointView) (ends : Bool) (t : ℕ) (before others : List Block) (beside : AreBeside ends t (after_blocks script (at_first script) others) (after_blocks script (at_first script) before))
    (fields : (k : ℕ) → fields_of script cps k others ≡ fields_of script cps k before) (stand : AllStand script cps [] before) (also : AllStand script cps [] others)
    (under : is_under_way (stage_at (after_blocks script (at_first script) before).log t) ≡ true)
    (unnamed : ends ≡ true → IsUnnamed script t) (apart : ends ≡ true → IsApart t (digest_of (after_blocks script (at_first script) others).log)) where
  abbrev s : Standing
  s = after_blocks script (at_first script) before

  abbrev z : Standing
  z = after_blocks script (at_first script) others

  -- it stands in both, and leaves them beside each other
  pub record LeavesBeside (b : Block) : Type 0 where
    pub stands : Stands script cps others b
    pub near : AreSeen (besides ends t) (after_blocks script (at_first script) (others ++ b ∷ [])).log (after_blocks script (at_first script) (before ++ b ∷ [])).log
    pub held : (after_blocks script (at_first script) (others ++ b ∷ [])).held ≡ (after_blocks script (at_first script) (before ++ b ∷ [])).held
    pub jobs : (v : ℕ) → v ≢ t → (after_blocks script (at_first script) (others ++ b ∷ [])).jobs v ≡ (after_blocks script (at_first script) (before ++ b ∷ [])).jobs v
    pub keeps : KeepsJob z (after_blocks script (at_first script) (others ++ b ∷ [])) t

  abbrev Beside : Standing → Standing → Type 0
  Beside x y = AreSeen (besides ends t) x.log y.log × (x.held ≡ y.held) × ((v : ℕ) → v ≢ t → x.jobs v ≡ y.jobs v) × KeepsJob z x t

  leaves : (b : Block) → Stands script cps others b → Beside (after_block script z b) (after_block script s b) → LeavesBeside b
  leaves b stands is =
      let both : Beside (after_blocks script (at_first script) (others ++ b ∷ [])) (after_blocks script (at_first script) (before ++ b ∷ [])) =
      subst₂ Beside (sym (after_push script (at_first script) others b)) (sym (after_push script (at_first script) before b)) is in
      record { stands = stands; near = both.0; held = both.1; jobs = both.2; keeps = both.3 }

  now_s : AreInPlace s.log
  now_s = histories_new script cps before stand

  now_z : AreInPlace z.log
  now_z = histories_new script cps others also

  counted : AreCounted (root_count script) s.log s.held
  counted = all_keep script cps [] before stand (first_counted script)

  -- what a turn names shows how it has ended
  shown : (k : ℕ) (q : RecordView) (job : JobFacts) → Stands script cps others (ran k q) → TurnStands script z k q.task q.number q.effects q.exit job q.env q.frame
      → TurnShown (besides_sight ends t).hides (root_count script) q.task q.number (begun_priority (stage_at z.log q.task)) z.log q.effects q.exit
  shown k q job stands turn = by_end ends unnamed apart where
    by_end : (b : Bool) → (b ≡ true → IsUnnamed script t) → (b ≡ true → IsApart t (digest_of z.log)) → TurnShown (besides_sight b t).hides (root_count script) q.task q.number (begun_priority (stage_at z.log q.task)) z.log q.effects q.exit
    by_end false named none = all_shown (besides_sight false t).hides (λ u. refl) (root_count script) q.task q.number (begun_priority (stage_at z.log q.task)) z.log q.effects q.exit
    by_end true named none =
        let spares = record_spares script cps others k q t (named refl) stands in
        turn_shown t script z k q.task q.number q.effects q.exit job q.env q.frame turn (named refl).root spares.0 spares.1 (none refl)

  pub block_beside : (b : Block) → Stands script cps before b → IsOfOther t b → LeavesBeside b
  block_beside (folded e f) stands of_other = absurd of_other
  block_beside (added r) stands of_other =
      let origin = seen_origin (besides ends t) (besides_sight ends t) z.log s.log beside.near r in
      leaves (added r) (stands.0, origin ∙ stands.1) (
        seen_on (besides ends t) (besides_sight ends t) z.log s.log _ _ beside.near refl,
        beside.held,
        λ v other. ap (λ (o : Option JobFacts). if v == r then Some (root_job script r) else o) (beside.jobs v other),
        root_keeps_job script z r t (λ is. (let none = unbegun (counted.each t) (ap (λ (u : ℕ). (life_of u s.log).origin) (sym is) ∙ stands.1) in false≢true (sym none ∙ under))),
      )
  block_beside (begun u m env) stands of_other =
      let is_env : IsEnv (root_count script) (task u) z.log env = record {
        priority = same_priority (links_of s.log) (links_of z.log) (seen_links (besides ends t) (besides_sight ends t) s.log z.log (sym beside.near)) (seen_links (besides ends t) (besides_sight ends t) z.log s.log beside.near) (task u) env.priority stands.3.priority;
        cancelled = stands.3.cancelled ∙ sym (seen_cancelled (besides ends t) (besides_sight ends t) z.log s.log beside.near u);
        room = stands.3.room ∙ sym (seen_room ends t (root_count script) u z.log s.log beside.near beside.room);
      } in
      leaves (begun u m env) (stands.0, beside.jobs u of_other ∙ stands.1, other_current ends t z.log s.log beside.near now_z now_s u m stands.0.resume of_other ∙ stands.2, is_env)
      (seen_on (besides ends t) (besides_sight ends t) z.log s.log (Begin (task u) m env ∷ []) (Begin (task u) m env ∷ []) beside.near refl, beside.held, beside.jobs, record { same = begin_keeps_job z u m env t of_other; job = refl })
  block_beside (ran k q) stands of_other =
      let turn = turn_beside script ends t s z beside now_s now_z k q.task q.number q.effects q.exit stands.job q.env q.frame of_other stands.stands in
      let stands_z : Stands script cps others (ran k q) = record {
        job = stands.job;
        stands = turn;
        resume = stands.resume;
        outer = stands.outer;
        lawful = subst (λ (f : List (List ℤ)). IsLawfulRecord script f q) (sym (fields k)) stands.lawful;
      } in
      let new_z = subst (λ (a : Standing). AreInPlace a.log) (after_push script (at_first script) others (ran k q)) (histories_new script cps (others ++ ran k q ∷ []) (all_push script cps others [] (ran k q) also stands_z)) in
      let new_s = subst (λ (a : Standing). AreInPlace a.log) (after_push script (at_first script) before (ran k q)) (histories_new script cps (before ++ ran k q ∷ []) (all_push script cps before [] (ran k q) stand stands)) in
      leaves (ran k q) stands_z (turn_leaves script ends t s z beside now_s now_z k q.task q.number q.effects q.exit q.after stands.job q.env q.frame of_other stands.stands (shown k q stands.job stands_z turn) counted under new_z new_s)

-- after the silent turn, and before it

current_too : (a b : Life) (n : ℕ) (x : Resume) → a.given ≡ b.given → is_under_way a.stage ≡ is_under_way b.stage → is_current a n x ≡ is_current b n x
current_too a b n x given under = ap₂ (λ (g : Option LastJob) (y : Bool). was_given g n x && (nat_lt n (2 ^ 32 - 1) && y)) given under

fits_alone : (script : ScriptView) (t u : ℕ) (a b : List Event) (c d : Counters) (callers : List FrameView) (exit : ExitView) → (goes_on_alone callers exit || ends_task callers exit) ≡ true → fits_exit script t a c exit ≡ fits_exit script u b d exit
fits_alone script t u a b c d callers (waiting x) is = absurd (false≢true is)
fits_alone script t u a b c d callers (asking_next g) is = absurd (false≢true is)
fits_alone script t u a b c d callers (closing g f) is = absurd (false≢true is)
fits_alone script t u a b c d callers _ is = refl

not_folded_of : (t : ℕ) (b : Block) → IsOfOther t b → IsNotFolded b
not_folded_of t (folded e f) is = absurd is
not_folded_of t _ is = tt

-- what is left of a life where its task goes on, or has ended

no_room : (n : ℕ) (w : WayOut) (l : Life) → room_held (life_by n w l) ≡ 0
no_room n (goes v resume) l = refl
no_room n (over x) l = refl

not_begun : (n : ℕ) (w : WayOut) (l : Life) → is_begun (life_by n w l).stage ≡ false
not_begun n (goes v resume) l = refl
not_begun n (over x) l = refl

same_given : (n : ℕ) (w : WayOut) (l m : Life) → m.given ≡ l.given → (life_by n w m).given ≡ (life_by n w l).given
same_given n (goes v resume) l m same = refl
same_given n (over x) l m same = same

same_stage : (n : ℕ) (w : WayOut) (l m : Life) → (life_by n w m).stage ≡ (life_by n w l).stage
same_stage n (goes v resume) l m = refl
same_stage n (over x) l m = refl

same_end : (n : ℕ) (w : WayOut) (l m : Life) → m.ending ≡ l.ending → (life_by n w m).ending ≡ (life_by n w l).ending
same_end n (goes v resume) l m same = same
same_end n (over x) l m same = refl

stands_fields : (script : ScriptView) (m : ℕ) (st : TurnStateView) (f g : List (List ℤ)) (i j : ℕ) (after : Option FrameView) → StandsFor script m (record st { fields = f; room = i }) after → StandsFor script m (record st { fields = g; room = j }) after
stands_fields script m st f g i j None is = is
stands_fields script m st f g i j (Some p) is = (is.0, ap (λ (x : TurnStateView). record x { fields = g; room = j }) is.1)

after_fields : (script : ScriptView) (m : ℕ) (st : TurnStateView) (f g : List (List ℤ)) (i j : ℕ) (exit : ExitView) (after : Option FrameView) → IsAfter script m (record st { fields = f; room = i }) exit after → IsAfter script m (record st { fields = g; room = j }) exit after
after_fields script m st f g i j (returning v) after is = is
after_fields script m st f g i j (failing x) after is = is
after_fields script m st f g i j (calling c) after is = stands_fields script m st f g i j after is
after_fields script m st f g i j (waiting x) after is = stands_fields script m st f g i j after is
after_fields script m st f g i j (asking_next x) after is = stands_fields script m st f g i j after is
after_fields script m st f g i j (closing x y) after is = stands_fields script m st f g i j after is
after_fields script m st f g i j yielding after is = stands_fields script m st f g i j after is

module _ (script : ScriptView) (cps : List CheckpointView) (before : List Block) (t n : ℕ) (env : Env) (e : ℕ) (r : RecordView) (silent : IsSilentTurn script cps before t n env e r) (stand : AllStand script cps [] before)
    (hold : (bs : List Block) → AllStand script cps [] bs → InvariantsHold script cps bs e) (b : Block) (stands_b : Stands script cps before b) (of_other : IsOfOther t b) where
  abbrev at : List Block → Standing
  at bs = after_blocks script (at_first script) bs

  abbrev after : List Block
  after = (before ++ begun t n env ∷ []) ++ ran e r ∷ []

  abbrev hb : List Block
  hb = before ++ b ∷ []

  under : is_under_way (stage_at (at before).log t) ≡ true
  under = ap is_under_way silent.given

  kept : KeepsJob (at before) (at hb) t
  kept = block_keeps_job script cps before b t stand stands_b of_other under

  given_b : stage_at (at hb).log t ≡ Some Given
  given_b = kept.same.stage ∙ silent.given

  hb_stand : AllStand script cps [] hb
  hb_stand = all_push script cps before [] b stand stands_b

  pub late : (other : Env) × IsEnv (root_count script) (task t) (at hb).log other
  late =
      let grown = log_grows script cps before (b ∷ []) (stands_b, tt) in
      let q = priority_later (at before).log grown.0 (task t) env.priority silent.begins.3.priority in (
        record { priority = q.0; cancelled = is_cancelled t (at hb).log; room = room_of (root_count script) t (at hb).log },
        record { priority = subst (λ (l : List Event). IsPriority (links_of l) (task t) q.0) (sym grown.1) q.1; cancelled = refl; room = refl },
      )

  abbrev later_env : Env
  later_env = late.0

  abbrev c : Block
  c = begun t n later_env

  abbrev later_turn : RecordView
  later_turn = record r { env = later_env }

  begins_later : Stands script cps hb c
  begins_later = (silent.begins.0, kept.job ∙ silent.begins.1, current_too (life_of t (at hb).log) (life_of t (at before).log) n silent.begins.0.resume kept.same.given (ap is_under_way kept.same.stage) ∙ silent.begins.2, late.1)

  abbrev mid : Standing
  mid = at (before ++ begun t n env ∷ [])

  abbrev mid_b : Standing
  mid_b = at (hb ++ c ∷ [])

  to_mid : mid ≡ after_block script (at before) (begun t n env)
  to_mid = after_push script (at_first script) before (begun t n env)

  to_mid_b : mid_b ≡ after_block script (at hb) c
  to_mid_b = after_push script (at_first script) hb c

  life_mid : life_of t mid.log ≡ record (life_of t (at before).log) { stage = Some (Begun env) }
  life_mid = ap (λ (a : Standing). life_of t a.log) to_mid ∙ life_of-push_same t (at before).log (Begin (task t) n env) refl

  life_mid_b : life_of t mid_b.log ≡ record (life_of t (at hb).log) { stage = Some (Begun later_env) }
  life_mid_b = ap (λ (a : Standing). life_of t a.log) to_mid_b ∙ life_of-push_same t (at hb).log (Begin (task t) n later_env) refl

  mid_b_stand : AllStand script cps [] (hb ++ c ∷ [])
  mid_b_stand = all_push script cps hb [] c hb_stand begins_later

  abbrev turn_later : TurnStands script mid_b e r.task r.number r.effects r.exit silent.runs.job later_env r.frame
  turn_later =
      let jobs : mid_b.jobs r.task ≡ mid.jobs r.task =
      ap mid_b.jobs silent.own ∙ ap (λ (a : Standing). a.jobs t) to_mid_b ∙ kept.job ∙ ap (λ (a : Standing). a.jobs t) (sym to_mid) ∙ ap mid.jobs (sym silent.own) in
      let life : is_current (life_of r.task mid_b.log) r.number silent.runs.job.resume ≡ is_current (life_of r.task mid.log) r.number silent.runs.job.resume =
      ap (λ (u : ℕ). is_current (life_of u mid_b.log) r.number silent.runs.job.resume) silent.own
      ∙ current_too (life_of t mid_b.log) (life_of t mid.log) r.number silent.runs.job.resume (ap (λ (l : Life). l.given) life_mid_b ∙ kept.same.given ∙ ap (λ (l : Life). l.given) (sym life_mid))
      (ap (λ (l : Life). is_under_way l.stage) life_mid_b ∙ ap (λ (l : Life). is_under_way l.stage) (sym life_mid))
      ∙ ap (λ (u : ℕ). is_current (life_of u mid.log) r.number silent.runs.job.resume) (sym silent.own) in
      let none = no_effects script cps before t n env e r silent (hold before stand) in
      record {
        given = jobs ∙ silent.runs.stands.given;
        number = silent.runs.stands.number;
        current = life ∙ silent.runs.stands.current;
        has_begun = ap (stage_at mid_b.log) silent.own ∙ ap (λ (l : Life). l.stage) life_mid_b;
        fits = ap (λ (es : List EffectView). fits_turn script r.task mid_b.log (counters r.task mid_b.log later_env.room) es r.exit) none
            ∙ fits_alone script r.task r.task mid_b.log mid.log (counters r.task mid_b.log later_env.room) (counters r.task mid.log r.env.room) silent.runs.stands.runs.0 r.exit silent.alone
            ∙ ap (λ (es : List EffectView). fits_turn script r.task mid.log (counters r.task mid.log r.env.room) es r.exit) (sym none) ∙ silent.runs.stands.fits;
        runs = silent.runs.stands.runs;
        on = silent.runs.stands.on;
      }

  abbrev runs_later : Stands script cps (hb ++ c ∷ []) (ran e later_turn)
  runs_later =
      let f : List (List ℤ) = fields_of script cps e (before ++ begun t n env ∷ []) in
      let g : List (List ℤ) = fields_of script cps e (hb ++ c ∷ []) in
      let p = played script cps before t n env e r silent (hold before stand) g later_env (hold (hb ++ c ∷ []) mid_b_stand) in
      let lawful = silent.runs.lawful in
      record {
        job = silent.runs.job;
        stands = turn_later;
        resume = silent.runs.resume;
        outer = silent.runs.outer;
        lawful = record {
          exit = lawful.exit ∙ ap (λ (k : Played). k.exit) p.one ∙ ap (λ (k : Played). k.exit) (sym p.two);
          effects = lawful.effects ∙ ap (λ (k : Played). k.state.effects) p.one ∙ ap (λ (k : Played). k.state.effects) (sym p.two);
          after = subst (λ (k : Played). IsAfter script r.frame.method k.state r.exit r.after) (sym p.two)
              (after_fields script r.frame.method p.state f g r.env.room later_env.room r.exit r.after (subst (λ (k : Played). IsAfter script r.frame.method k.state r.exit r.after) p.one lawful.after));
        };
      }

  -- the silent turn stands after the block, and the task is apart there where it ends
  apart_b : ends_task silent.runs.stands.runs.0 r.exit ≡ true → IsApart t (digest_of (at hb).log)
  apart_b is = block_apart script cps before b t (silent.unnamed is) stands_b (not_folded_of t b of_other) (silent.apart is)

  abbrev silent_later : IsSilentTurn script cps hb t n later_env e later_turn
  silent_later = record { begins = begins_later; runs = runs_later; given = given_b; own = silent.own; number = silent.number; quiet = silent.quiet; alone = silent.alone; unnamed = silent.unnamed; apart = apart_b }

  pub later_silent : IsSilentTurn script cps hb t n later_env e later_turn
  later_silent = silent_later

  -- and the block stands after the turn; both ways lead alike

  after_stand : AllStand script cps [] after
  after_stand = all_push script cps (before ++ begun t n env ∷ []) [] (ran e r) (all_push script cps before [] (begun t n env) stand silent.begins) silent.runs

  abbrev view_is : GoesOnAlone script (left_as r.frame r.effects r.after) silent.runs.stands.runs.0 silent.runs.job.frames.outer r.exit
  view_is = goes_alone script (left_as r.frame r.effects r.after) silent.runs.stands.runs.0 silent.runs.job.frames.outer r.exit silent.alone

  -- whether the task ends
  abbrev ended : Bool
  ended = is_over view_is.way

  alone_one : AfterAlone (at before) (at after) t n env view_is.way
  alone_one = silent_after script cps before t n env e r silent (hold before stand)

  life_one : life_of t (at after).log ≡ life_by n view_is.way (life_of t (at before).log)
  life_one = alone_life (at before) (at after) t n env view_is.way alone_one

  pub beside : AreBeside ended t (at after) (at before)
  beside = record {
    near = alone_seen (at before) (at after) t n env view_is.way alone_one (ap waited silent.given) (λ is. silent.apart (sym view_is.over_is ∙ is));
    room = ap room_held life_one ∙ no_room n view_is.way (life_of t (at before).log) ∙ ap room_in (sym silent.given);
    held = alone_one.held;
    jobs = alone_jobs (at before) (at after) t n env view_is.way alone_one;
  }

  fields_after : (k : ℕ) → fields_of script cps k after ≡ fields_of script cps k before
  fields_after = silent_fields script cps before t n env e r silent (hold before stand)

  over_unnamed : ended ≡ true → IsUnnamed script t
  over_unnamed is = silent.unnamed (sym view_is.over_is ∙ is)

  apart_after : ended ≡ true → IsApart t (digest_of (at after).log)
  apart_after is = alone_apart (at before) (at after) t n env view_is.way alone_one (silent.apart (sym view_is.over_is ∙ is))

  block_after : LeavesBeside script cps ended t before after beside fields_after stand after_stand under over_unnamed apart_after b
  block_after = block_beside script cps ended t before after beside fields_after stand after_stand under over_unnamed apart_after b stands_b of_other

  pub stands_after : Stands script cps after b
  stands_after = block_after.stands

  orderly_by : (x : Block) → IsOfOther t x → IsOrderly script before x → IsOrderly script after x
  orderly_by (added u) other is = λ v low. ap is_some (seen_origin (besides ended t) (besides_sight ended t) (at after).log (at before).log beside.near v) ∙ is v low
  orderly_by (begun u m x) other is = (
    λ v low. ap is_some (seen_origin (besides ended t) (besides_sight ended t) (at after).log (at before).log beside.near v) ∙ is.0 v low,
    λ v same. elim (cases_eq v t) [
      | inl one ↦
          ap (λ (w : ℕ). is_begun (stage_at (at after).log w)) one ∙ ap (λ (l : Life). is_begun l.stage) life_one ∙ not_begun n view_is.way (life_of t (at before).log)
      | inr ne ↦
          ap (λ (l : Life). is_begun l.stage) (other_life ended t (at after).log (at before).log beside.near v ne)
          ∙ is.1 v (ap (job_executor script) (sym (beside.jobs v ne)) ∙ same ∙ ap (job_executor script) (beside.jobs u other))
    ],
  )
  orderly_by (ran k q) other is = tt
  orderly_by (folded k q) other is = tt

  pub orderly_after : IsOrderly script before b → IsOrderly script after b
  orderly_after is = orderly_by b of_other is

  abbrev first_then : List Block
  first_then = after ++ b ∷ []

  abbrev then_first : List Block
  then_first = (hb ++ c ∷ []) ++ ran e later_turn ∷ []

  alone_two : AfterAlone (at hb) (at then_first) t n later_env view_is.way
  alone_two = silent_after script cps hb t n later_env e later_turn silent_later (hold hb hb_stand)

  life_two : life_of t (at then_first).log ≡ life_by n view_is.way (life_of t (at hb).log)
  life_two = alone_life (at hb) (at then_first) t n later_env view_is.way alone_two

  both_seen : AreSeen (besides ended t) (at then_first).log (at first_then).log
  both_seen = alone_seen (at hb) (at then_first) t n later_env view_is.way alone_two (ap waited given_b) (λ is. apart_b (sym view_is.over_is ∙ is)) ∙ sym block_after.near

  both_lives : life_of t (at then_first).log ≡ life_of t (at first_then).log
  both_lives =
      let a : Life = life_of t (at then_first).log in
      let d : Life = life_of t (at first_then).log in
      let first : Life = life_of t (at before).log in
      let second : Life = life_of t (at hb).log in
      let keeps = block_after.keeps.same in
      let origin : a.origin ≡ d.origin = seen_origin (besides ended t) (besides_sight ended t) (at then_first).log (at first_then).log both_seen t in
      let given : a.given ≡ d.given = ap (λ (l : Life). l.given) life_two ∙ same_given n view_is.way first second kept.same.given ∙ ap (λ (l : Life). l.given) (sym life_one) ∙ sym keeps.given in
      let stage : a.stage ≡ d.stage = ap (λ (l : Life). l.stage) life_two ∙ same_stage n view_is.way first second ∙ ap (λ (l : Life). l.stage) (sym life_one) ∙ sym keeps.stage in
      let ending : a.ending ≡ d.ending = ap (λ (l : Life). l.ending) life_two ∙ same_end n view_is.way first second kept.same.ending ∙ ap (λ (l : Life). l.ending) (sym life_one) ∙ sym keeps.ending in
      λ k. record { origin = origin k; given = given k; stage = stage k; ending = ending k }

  both_jobs : (u : ℕ) → (at then_first).jobs u ≡ (at first_then).jobs u
  both_jobs u = elim (cases_eq u t) [
    | inl same ↦
        ap (at then_first).jobs same ∙ alone_job (at hb) (at then_first) t n later_env view_is.way alone_two
        ∙ sym (block_after.keeps.job ∙ alone_job (at before) (at after) t n env view_is.way alone_one) ∙ ap (at first_then).jobs (sym same)
    | inr ne ↦ alone_jobs (at hb) (at then_first) t n later_env view_is.way alone_two u ne ∙ sym (block_after.jobs u ne)
  ]

  both_fields : (k : ℕ) → fields_of script cps k then_first ≡ fields_of script cps k first_then
  both_fields k =
      silent_fields script cps hb t n later_env e later_turn silent_later (hold hb hb_stand) k ∙ fields_push script cps k before b
      ∙ ap (λ (f : List (List ℤ)). replay script f (cons_option (record_in k b) [])) (sym (fields_after k)) ∙ sym (fields_push script cps k after b)

  none_if : (x : Bool) → cons_option (if x then Some later_turn else None) [] ≡ [] → cons_option (if x then Some r else None) [] ≡ []
  none_if true is = absurd (cc is)
  none_if false is = refl

  both_unused : (k : ℕ) → records_of k then_first ≡ [] → records_of k first_then ≡ []
  both_unused k none =
      let last = front_none script cps (records_of k (hb ++ c ∷ [])) (cons_option (record_in k (ran e later_turn)) []) (sym (records_push script cps k (hb ++ c ∷ []) (ran e later_turn)) ∙ none) in
      let begin = front_none script cps (records_of k hb) (cons_option (record_in k c) []) (sym (records_push script cps k hb c) ∙ last.0) in
      let block = front_none script cps (records_of k before) (cons_option (record_in k b) []) (sym (records_push script cps k before b) ∙ begin.0) in
      let mid_none : records_of k (before ++ begun t n env ∷ []) ≡ [] = records_push script cps k before (begun t n env) ∙ ap (λ (xs : List RecordView). xs ++ []) block.0 in
      let after_none : records_of k after ≡ [] = records_push script cps k (before ++ begun t n env ∷ []) (ran e r) ∙ ap₂ (λ (xs ys : List RecordView). xs ++ ys) mid_none (none_if (e == k) last.1) in
      records_push script cps k after b ∙ ap₂ (λ (xs ys : List RecordView). xs ++ ys) after_none block.1

  pub both_lead : LeadAlike script cps then_first first_then
  both_lead = record {
    standing = record {
      digest = one_digest ended t (at then_first).log (at first_then).log both_seen (histories_new script cps then_first (all_push script cps (hb ++ c ∷ []) [] (ran e later_turn) mid_b_stand runs_later))
          (histories_new script cps first_then (all_push script cps after [] b after_stand stands_after)) both_lives;
      held = ap (held_plans script) (alone_two.held ∙ sym block_after.held);
      jobs = λ u. ap (option_map (job_plan script)) (both_jobs u);
    };
    fields = both_fields;
    unused = both_unused;
  }

  none_back : (x : Bool) → cons_option (if x then Some r else None) [] ≡ [] → cons_option (if x then Some later_turn else None) [] ≡ []
  none_back true is = absurd (cc is)
  none_back false is = refl

  back_unused : (k : ℕ) → records_of k first_then ≡ [] → records_of k then_first ≡ []
  back_unused k none =
      let last = front_none script cps (records_of k after) (cons_option (record_in k b) []) (sym (records_push script cps k after b) ∙ none) in
      let turn = front_none script cps (records_of k (before ++ begun t n env ∷ [])) (cons_option (record_in k (ran e r)) []) (sym (records_push script cps k (before ++ begun t n env ∷ []) (ran e r)) ∙ last.0) in
      let begin = front_none script cps (records_of k before) (cons_option (record_in k (begun t n env)) []) (sym (records_push script cps k before (begun t n env)) ∙ turn.0) in
      let hb_none : records_of k hb ≡ [] = records_push script cps k before b ∙ ap₂ (λ (xs ys : List RecordView). xs ++ ys) begin.0 last.1 in
      let mid_none : records_of k (hb ++ c ∷ []) ≡ [] = records_push script cps k hb c ∙ ap (λ (xs : List RecordView). xs ++ []) hb_none in
      records_push script cps k (hb ++ c ∷ []) (ran e later_turn) ∙ ap₂ (λ (xs ys : List RecordView). xs ++ ys) mid_none (none_back (e == k) turn.1)

  pub both_back : LeadAlike script cps first_then then_first
  both_back = record {
    standing = record { digest = sym both_lead.standing.digest; held = sym both_lead.standing.held; jobs = λ u. sym (both_lead.standing.jobs u) };
    fields = λ k. sym (both_lead.fields k);
    unused = back_unused;
  }

pub silent_commutes : SilentTurnsCommute
silent_commutes script cps before t n env e r b stand silent first stands_b of_other =
    let hold = hold_always script cps e first in
    record {
      other = (late script cps before t n env e r silent stand hold b stands_b of_other).0;
      later = later_silent script cps before t n env e r silent stand hold b stands_b of_other;
      jobs = (beside script cps before t n env e r silent stand hold b stands_b of_other).jobs;
      orderly = orderly_after script cps before t n env e r silent stand hold b stands_b of_other;
      first = stands_after script cps before t n env e r silent stand hold b stands_b of_other;
      lead = both_lead script cps before t n env e r silent stand hold b stands_b of_other;
      back = both_back script cps before t n env e r silent stand hold b stands_b of_other;
    }
