-- A history goes on in one in which begins of turns that look away have been left out for later.
use Rattle.swift_reordering.proofs.Prelude.{◌≡◌, ◌≢◌, ◌⊎◌, ℕ, ℤ, ◌+◌, ◌*◌, ◌<◌, ◌≤◌, List, [], ◌∷◌, ◌++◌, refl, sym, ◌∙◌, ap, ap₂, subst, subst₂, Bool, true, false, inl, inr, append_assoc, append-nil, arith, Option, Some, None, Contains, ◌==◌, is_some, if◌then◌else◌, cons_option, cases_Bool, cases_eq, false≢true, filter_map-append, TASKS, MADE, Env, ScriptView, root_count, executor_count, FrameView, Played, RecordView, replay, CheckpointView, Event, Begin, Life, JobStage, Given, Begun, tasks_of, life_of, is_cancelled, links_of, IsEnv, room_of, is_begun, is_under_way, JobFacts, task, root_job, root_events, Block, added, begun, ran, folded, Standing, at_first, after_block, after_blocks, with_jobs, record_in, fields_of, RecordStands, Stands, IsOrderly, job_executor, IsPriority, ActorsHaveExecutors, all_begun, keeps_block, after_push, current_is, has_origin, origin_stays, AreInPlace, IsNotFolded, histories_new, same_priority, fields_push, AreNear, AreClose, blurred_stage, stage_at, frame_looks_away, frames_look_away, job_looks_away, turn_looks_away, RunsNext, BeginLate, done_in, done_by, no_env, IsFusedStep, HasExit, unborn_without}
use Rattle.swift_reordering.proofs.Near.{near_on, near_begin, near_origin, near_tasks, near_stage, near_cancelled, near_links, near_current}
use Rattle.swift_reordering.proofs.NearEnds.{AreJoint, joint_first, joint_on}
use Rattle.swift_reordering.proofs.Turning.{LooksAwayIn, MayPlayIn, AppliedClose, in_own, applied_close, record_stands_too, same_play, takes_none}
use Rattle.swift_reordering.proofs.Walks.{IsCourse, along, course_push}
use Rattle.swift_reordering.proofs.Flags.{begin_keeps_flag, block_keeps_flag, job_stays, root_keeps_flag}
use Rattle.swift_reordering.proofs.Seats.{HasBegun, OnlyStay, turn_stays, root_stays, begin_other, begin_same, all_apart}
use Rattle.swift_reordering.proofs.Rooms.{room_free}
use Rattle.swift_reordering.proofs.Priorities.{priority_later}

-- where a turn has begun, each root is there

abbrev AllRoots : ScriptView → Standing → Type 0
AllRoots script s = (r : ℕ) → r < root_count script → is_some (life_of r s.log).origin ≡ true

abbrev RootsWhereBegun : ScriptView → Standing → Type 0
RootsWhereBegun script s = (u : ℕ) → HasBegun s.log u → AllRoots script s

module _ (script : ScriptView) (cps : List CheckpointView) where
  abbrev pub at : List Block → Standing
  at bs = after_blocks script (at_first script) bs

  pub roots_stay : (before : List Block) (b : Block) → Stands script cps before b → AllRoots script (at before) → AllRoots script (after_block script (at before) b)
  roots_stay before b stands all r lt =
      keeps_block (λ (l : List Event). has_origin r l ≡ true) (λ l e _ is. origin_stays r l e is) script cps before b (λ t n env _ is. origin_stays r (at before).log (Begin (task t) n env) is) stands (all r lt)

  roots_next : (before : List Block) (b : Block) → Stands script cps before b → IsOrderly script before b → RootsWhereBegun script (at before) → RootsWhereBegun script (after_block script (at before) b)
  roots_next before (added r) stands orderly roots u has = roots_stay before (added r) stands (roots u (ap is_begun (sym (root_stays script (at before) r u has).stage) ∙ has))
  roots_next before (begun t n env) stands orderly roots u has = roots_stay before (begun t n env) stands orderly.0
  roots_next before (ran e r) stands orderly roots u has =
      roots_stay before (ran e r) stands (roots u (ap is_begun (sym (turn_stays script (at before) e r.task r.number r.effects r.exit r.after stands.job r.env r.frame stands.stands u has).1.stage) ∙ has))
  roots_next before (folded e f) stands orderly roots u has =
      roots_stay before (folded e f) stands (roots u (ap is_begun (sym (turn_stays script (at before) e f.task f.number f.effects f.exit f.after stands.0.job stands.0.env stands.0.frame stands.0.stands u has).1.stage) ∙ has))

  all_roots : (bs : List Block) → IsCourse script cps bs → RootsWhereBegun script (at bs)
  all_roots bs course =
      along script cps (λ (xs : List Block). RootsWhereBegun script (at xs))
      (λ before b course stands orderly roots. subst (RootsWhereBegun script) (sym (after_push script (at_first script) before b)) (roots_next before b stands orderly roots))
      (λ u has. absurd (false≢true (sym (ap (λ (l : Life). is_begun l.stage) (unborn_without u [] refl)) ∙ has)))
      bs course

  -- the lists grow

  pub late_append : (xs before ys : List Block) → BeginLate script before xs → BeginLate script (before ++ xs) ys → BeginLate script before (xs ++ ys)
  late_append [] before ys late more = subst (λ (bs : List Block). BeginLate script bs ys) (append-nil before) more
  late_append (added r ∷ xs) before ys late more = late_append xs (before ++ added r ∷ []) ys late (subst (λ (bs : List Block). BeginLate script bs ys) (sym (append_assoc before (added r ∷ []) xs)) more)
  late_append (ran e r ∷ xs) before ys late more = late_append xs (before ++ ran e r ∷ []) ys late (subst (λ (bs : List Block). BeginLate script bs ys) (sym (append_assoc before (ran e r ∷ []) xs)) more)
  late_append (folded e f ∷ xs) before ys late more = late_append xs (before ++ folded e f ∷ []) ys late (subst (λ (bs : List Block). BeginLate script bs ys) (sym (append_assoc before (folded e f ∷ []) xs)) more)
  late_append (begun t n env ∷ xs) before ys late more = (
    λ away. runs_more xs (late.0 away),
    late_append xs (before ++ begun t n env ∷ []) ys late.1 (subst (λ (bs : List Block). BeginLate script bs ys) (sym (append_assoc before (begun t n env ∷ []) xs)) more),
  ) where
    runs_more : (xs : List Block) → RunsNext t xs → RunsNext t (xs ++ ys)
    runs_more (ran e r ∷ xs) is = is
    runs_more _ is = absurd is

  pub step_late : (before step : List Block) → IsFusedStep script before step → BeginLate script before step
  step_late before (added r ∷ []) is = tt
  step_late before (begun t n env ∷ []) is = (λ away. absurd (false≢true (sym is ∙ away)), tt)
  step_late before (ran e r ∷ []) is = tt
  step_late before (begun t n env ∷ ran e r ∷ []) is = (λ _. is.1, tt)
  step_late before step is = absurd is

  done_push : (bs : List Block) (b : Block) → done_by (bs ++ b ∷ []) ≡ done_by bs ++ cons_option (done_in b) []
  done_push bs b = filter_map-append done_in bs (b ∷ [])

  pub at_push : (bs : List Block) (b : Block) → at (bs ++ b ∷ []) ≡ after_block script (at bs) b
  at_push bs b = after_push script (at_first script) bs b

  -- the fields stay where a block is no recorded turn
  pub fields_quiet : (bs : List Block) (b : Block) (e : ℕ) → record_in e b ≡ None → fields_of script cps e (bs ++ b ∷ []) ≡ fields_of script cps e bs
  fields_quiet bs b e none = fields_push script cps e bs b ∙ ap (λ (o : Option RecordView). replay script (fields_of script cps e bs) (cons_option o [])) none

  -- few tasks: turns have room for 16 more
  abbrev pub AreFew : List Block → Type 0
  AreFew bs = tasks_of (root_count script) (at bs).log + MADE * (executor_count script + 1) ≤ TASKS

-- of the tasks whose begins may be put off
module _ (script : ScriptView) (cps : List CheckpointView) (May : ℕ → Type 0) where
  -- A turn that looks away has begun in the one history, and waits to begin in the other.
  pub record IsPutOff (s z : Standing) (u : ℕ) : Type 0 where
    pub may : May u
    pub env : Env
    pub has_begun : stage_at s.log u ≡ Some (Begun env)
    pub given : stage_at z.log u ≡ Some Given
    pub cancelled : Bool
    pub away : job_looks_away script cancelled (s.jobs u) ≡ true
    -- where it looks at whether the task is cancelled, it is, and stays so
    pub flag : cancelled ≡ true → (env.cancelled ≡ true) × (is_cancelled u s.log ≡ true)
    pub room : env.room ≡ MADE

  abbrev pub SameOrPutOff : Standing → Standing → ℕ → Type 0
  SameOrPutOff s z u = (stage_at s.log u ≡ stage_at z.log u) ⊎ IsPutOff s z u

  -- A history in order, and one in which begins of turns that look away are put off until they run.
  pub record ArePutOff (before others : List Block) : Type 0 where
    pub course : IsCourse script cps others
    pub done : done_by before ≡ done_by others
    pub close : AreClose (at script cps before) (at script cps others)
    pub fields : (e : ℕ) → fields_of script cps e before ≡ fields_of script cps e others
    pub stages : (u : ℕ) → SameOrPutOff (at script cps before) (at script cps others) u

  -- after the same events, where each task that has begun had begun with the same job
  stages_on : (s z x y : Standing) → AreJoint s.log z.log x.log y.log → ((u : ℕ) → is_cancelled u s.log ≡ true → is_cancelled u x.log ≡ true) → ((u : ℕ) → HasBegun x.log u → OnlyStay s x u) → ((u : ℕ) → stage_at x.log u ≡ stage_at s.log u → SameOrPutOff s z u) → (u : ℕ) → SameOrPutOff x y u
  stages_on s z x y joint flags stays was u = elim (joint.gone u) [
    | inl same ↦ inl same
    | inr still ↦ elim (was u still.0) [
      | inl same ↦ inl (still.0 ∙ same ∙ sym still.1)
      | inr p ↦
          let has : stage_at x.log u ≡ Some (Begun p.env) = still.0 ∙ p.has_begun in
          inr (record {
            may = p.may;
            env = p.env;
            has_begun = has;
            given = still.1 ∙ p.given;
            cancelled = p.cancelled;
            away = ap (job_looks_away script p.cancelled) (stays u (ap is_begun has)).job ∙ p.away;
            flag = λ is. ((p.flag is).0, flags u (p.flag is).1);
            room = p.room;
          })
    ]
  ]

  module _ (before others : List Block) (was : ArePutOff before others) where
    abbrev s : Standing
    s = at script cps before

    abbrev z : Standing
    z = at script cps others

    near : AreNear s.log z.log
    near = was.close.near

    same_jobs : (u : ℕ) → s.jobs u ≡ z.jobs u
    same_jobs u = ap (λ (f : ℕ → Option JobFacts). f u) was.close.jobs

    -- a turn looks away there where it does here
    pub same_look : (u : ℕ) → turn_looks_away script z u ≡ turn_looks_away script s u
    same_look u = ap₂ (λ (b : Bool) (o : Option JobFacts). job_looks_away script b o) (sym (near_cancelled s.log z.log near u)) (sym (same_jobs u))

    roots_too : AllRoots script s → AllRoots script z
    roots_too all r lt = ap is_some (sym (near_origin s.log z.log near r)) ∙ all r lt

    -- what has begun there has begun here
    pub begun_here : (u : ℕ) → HasBegun z.log u → HasBegun s.log u
    begun_here u has = elim (was.stages u) [
      | inl same ↦ ap is_begun same ∙ has
      | inr p ↦ absurd (false≢true (sym (ap is_begun p.given) ∙ has))
    ]

    not_begun_there : (u : ℕ) → is_begun (stage_at s.log u) ≡ false → is_begun (stage_at z.log u) ≡ false
    not_begun_there u none = elim (cases_Bool (is_begun (stage_at z.log u))) [
      | inl has ↦ absurd (false≢true (sym none ∙ begun_here u has))
      | inr is ↦ is
    ]

    -- a root is added
    pub root_on : (r : ℕ) → Stands script cps before (added r) → IsOrderly script before (added r) → ArePutOff (before ++ added r ∷ []) (others ++ added r ∷ [])
    root_on r stands orderly =
        let stands_z : Stands script cps others (added r) = (stands.0, sym (near_origin s.log z.log near r) ∙ stands.1) in
        let orderly_z : IsOrderly script others (added r) = λ u low. ap is_some (sym (near_origin s.log z.log near u)) ∙ orderly u low in
        let x : Standing = after_block script s (added r) in
        let y : Standing = after_block script z (added r) in
        let joint : AreJoint s.log z.log x.log y.log = joint_on s.log z.log s.log z.log (root_events script r) (root_events script r) (joint_first s.log z.log near) refl in
        record {
          course = course_push script cps others (added r) was.course stands_z orderly_z;
          done = done_push script cps before (added r) ∙ ap (λ (bs : List Block). bs ++ added r ∷ []) was.done ∙ sym (done_push script cps others (added r));
          close = subst₂ AreClose (sym (at_push script cps before (added r))) (sym (at_push script cps others (added r)))
              (record { near = joint.near; held = was.close.held; jobs = ap (with_jobs (root_job script r ∷ [])) was.close.jobs });
          fields = λ e. fields_quiet script cps before (added r) e refl ∙ was.fields e ∙ sym (fields_quiet script cps others (added r) e refl);
          stages = subst₂ (λ (a b : Standing). (u : ℕ) → SameOrPutOff a b u) (sym (at_push script cps before (added r))) (sym (at_push script cps others (added r)))
              (stages_on s z x y joint (λ u is. root_keeps_flag script cps before r u stands is) (λ u has. root_stays script s r u has) (λ u _. was.stages u));
        }

    -- a begin that is put off

    given_of : (a b : Option JobStage) → is_under_way a ≡ true → is_begun a ≡ false → blurred_stage a ≡ blurred_stage b → (a ≡ b) ⊎ (is_begun a ≡ true) → b ≡ Some Given
    given_of (Some (Begun env)) b under none same one = absurd (false≢true (sym none))
    given_of (Some Given) b under none same (inl one) = sym one
    given_of (Some Given) b under none same (inr one) = absurd (false≢true one)
    given_of _ b under none same one = absurd (false≢true under)

    same_or_begun : (u : ℕ) → (stage_at s.log u ≡ stage_at z.log u) ⊎ (is_begun (stage_at s.log u) ≡ true)
    same_or_begun u = elim (was.stages u) [ inl same ↦ inl same | inr p ↦ inr (ap is_begun p.has_begun) ]

    pub put_off_on : (t n : ℕ) (env : Env) → May t → Stands script cps before (begun t n env) → IsOrderly script before (begun t n env) → turn_looks_away script s t ≡ true → env.room ≡ MADE → ArePutOff (before ++ begun t n env ∷ []) others
    put_off_on t n env may stands orderly away room =
        let x : Standing = after_block script s (begun t n env) in
        let under = (current_is (life_of t s.log) n stands.0.resume stands.2).1 in
        record {
          course = was.course;
          done = done_push script cps before (begun t n env) ∙ append-nil (done_by before) ∙ was.done;
          close = subst (λ (a : Standing). AreClose a z) (sym (at_push script cps before (begun t n env))) (record { near = near_begin s.log t n env under ∙ near; held = was.close.held; jobs = was.close.jobs });
          fields = λ e. fields_quiet script cps before (begun t n env) e refl ∙ was.fields e;
          stages = subst (λ (a : Standing). (u : ℕ) → SameOrPutOff a z u) (sym (at_push script cps before (begun t n env)))
              (λ u. elim (cases_eq t u) [
                | inl same ↦ inr (record {
                  may = subst May same may;
                  env = env;
                  has_begun = ap (stage_at x.log) (sym same) ∙ begin_same t n env s.log;
                  given = ap (stage_at z.log) (sym same) ∙ given_of (stage_at s.log t) (stage_at z.log t) under (orderly.1 t refl) (near_stage s.log z.log near t) (same_or_begun t);
                  cancelled = is_cancelled t s.log;
                  away = ap (λ (k : ℕ). job_looks_away script (is_cancelled t s.log) (s.jobs k)) (sym same) ∙ away;
                  flag = λ is. (stands.3.cancelled ∙ is, ap (λ (k : ℕ). is_cancelled k x.log) (sym same) ∙ begin_keeps_flag script cps s.log t n env t is);
                  room = room;
                })
                | inr ne ↦ elim (was.stages u) [
                  | inl one ↦ inl (begin_other t n env s.log u ne ∙ one)
                  | inr p ↦ inr (record {
                    may = p.may;
                    env = p.env;
                    has_begun = begin_other t n env s.log u ne ∙ p.has_begun;
                    given = p.given;
                    cancelled = p.cancelled;
                    away = p.away;
                    flag = λ is. ((p.flag is).0, begin_keeps_flag script cps s.log t n env u (p.flag is).1);
                    room = p.room;
                  })
                ]
              ]);
        }

    -- a begin that is not

    seats_too : (t : ℕ) → ((u : ℕ) → job_executor script (s.jobs u) ≡ job_executor script (s.jobs t) → is_begun (stage_at s.log u) ≡ false) → (u : ℕ) → job_executor script (z.jobs u) ≡ job_executor script (z.jobs t) → is_begun (stage_at z.log u) ≡ false
    seats_too t free u same = not_begun_there u (free u (ap (job_executor script) (same_jobs u) ∙ same ∙ ap (job_executor script) (sym (same_jobs t))))

    pub begin_on : IsCourse script cps before → (t n : ℕ) (env : Env) → Stands script cps before (begun t n env) → IsOrderly script before (begun t n env)
        → room_of (root_count script) t s.log ≡ room_of (root_count script) t z.log → ArePutOff (before ++ begun t n env ∷ []) (others ++ begun t n env ∷ [])
    begin_on course t n env stands orderly room =
        let x : Standing = after_block script s (begun t n env) in
        let y : Standing = after_block script z (begun t n env) in
        let is_env : IsEnv (root_count script) (task t) z.log env = record {
          priority = same_priority (links_of s.log) (links_of z.log) (near_links s.log z.log near) (near_links z.log s.log (sym near)) (task t) env.priority stands.3.priority;
          cancelled = stands.3.cancelled ∙ near_cancelled s.log z.log near t;
          room = stands.3.room ∙ room;
        } in
        let stands_z : Stands script cps others (begun t n env) = (stands.0, sym (same_jobs t) ∙ stands.1, sym (near_current s.log z.log near (histories_new script cps before course.stand) (histories_new script cps others was.course.stand) t n stands.0.resume) ∙ stands.2, is_env) in
        let orderly_z : IsOrderly script others (begun t n env) = (roots_too orderly.0, seats_too t orderly.1) in
        let same : (u : ℕ) → t ≢ u → SameOrPutOff s z u → SameOrPutOff x y u = λ u ne o. elim o [
          | inl one ↦ inl (begin_other t n env s.log u ne ∙ one ∙ sym (begin_other t n env z.log u ne))
          | inr p ↦ inr (record {
            may = p.may;
            env = p.env;
            has_begun = begin_other t n env s.log u ne ∙ p.has_begun;
            given = begin_other t n env z.log u ne ∙ p.given;
            cancelled = p.cancelled;
            away = p.away;
            flag = λ is. ((p.flag is).0, begin_keeps_flag script cps s.log t n env u (p.flag is).1);
            room = p.room;
          })
        ] in
        record {
          course = course_push script cps others (begun t n env) was.course stands_z orderly_z;
          done = done_push script cps before (begun t n env) ∙ ap (λ (bs : List Block). bs ++ []) was.done ∙ sym (done_push script cps others (begun t n env));
          close = subst₂ AreClose (sym (at_push script cps before (begun t n env))) (sym (at_push script cps others (begun t n env)))
              (record { near = near_on s.log z.log (Begin (task t) n env ∷ []) (Begin (task t) n env ∷ []) near refl; held = was.close.held; jobs = was.close.jobs });
          fields = λ e. fields_quiet script cps before (begun t n env) e refl ∙ was.fields e ∙ sym (fields_quiet script cps others (begun t n env) e refl);
          stages = subst₂ (λ (a b : Standing). (u : ℕ) → SameOrPutOff a b u) (sym (at_push script cps before (begun t n env))) (sym (at_push script cps others (begun t n env)))
              (λ u. elim (cases_eq t u) [
                | inl one ↦ inl (ap (stage_at x.log) (sym one) ∙ begin_same t n env s.log ∙ sym (begin_same t n env z.log) ∙ ap (stage_at y.log) one)
                | inr ne ↦ same u ne (was.stages u)
              ]);
        }

  -- a turn runs, which has begun in both

  added_if : (b : Bool) (r : RecordView) (other : Env) → MayPlayIn script r.frame r.env other → (f : List (List ℤ)) → replay script f (cons_option (if b then Some r else None) []) ≡ replay script f (cons_option (if b then Some (record r { env = other }) else None) [])
  added_if true r other may f = ap (λ (k : Played). k.state.fields) (same_play script f r other may)
  added_if false r other may f = refl

  pub run_on : (before others : List Block) (e : ℕ) (r : RecordView) (other : Env) → IsCourse script cps before → IsCourse script cps others → Stands script cps before (ran e r) → MayPlayIn script r.frame r.env other
      → stage_at (at script cps others).log r.task ≡ Some (Begun other) → AreClose (at script cps before) (at script cps others) → ((k : ℕ) → fields_of script cps k before ≡ fields_of script cps k others) → done_by before ≡ done_by others
      → ((u : ℕ) → u ≢ r.task → SameOrPutOff (at script cps before) (at script cps others) u)
      → ArePutOff (before ++ ran e r ∷ []) (others ++ ran e (record r { env = other }) ∷ [])
  run_on before others e r other course course_z stands may has_begun close fields done stages =
      let s : Standing = at script cps before in
      let z : Standing = at script cps others in
      let q : RecordView = record r { env = other } in
      let x : Standing = after_block script s (ran e r) in
      let y : Standing = after_block script z (ran e q) in
      let stands_z : Stands script cps others (ran e q) =
      record_stands_too script s z close (histories_new script cps before course.stand) (histories_new script cps others course_z.stand) (fields_of script cps e others) e r other may has_begun (subst (λ (f : List (List ℤ)). RecordStands script s f e r) (fields e) stands) in
      let now : IsCourse script cps (before ++ ran e r ∷ []) = course_push script cps before (ran e r) course stands tt in
      let now_z : IsCourse script cps (others ++ ran e q ∷ []) = course_push script cps others (ran e q) course_z stands_z tt in
      let new_s : AreInPlace x.log = subst (λ (a : Standing). AreInPlace a.log) (at_push script cps before (ran e r)) (histories_new script cps (before ++ ran e r ∷ []) now.stand) in
      let new_z : AreInPlace y.log = subst (λ (a : Standing). AreInPlace a.log) (at_push script cps others (ran e q)) (histories_new script cps (others ++ ran e q ∷ []) now_z.stand) in
      let free = takes_none script (fields_of script cps e before) r other may stands.lawful in
      let c : AppliedClose script s z close x y =
      applied_close script s z close e r.task r.number r.effects r.exit r.after stands.job r.env other r.frame has_begun free stands.stands new_s new_z in
      let stays : (u : ℕ) → HasBegun x.log u → (u ≢ r.task) × OnlyStay s x u = λ u has. turn_stays script s e r.task r.number r.effects r.exit r.after stands.job r.env r.frame stands.stands u has in
      record {
        course = now_z;
        done = done_push script cps before (ran e r) ∙ ap (λ (bs : List Block). bs ++ ran e (record r { env = no_env }) ∷ []) done ∙ sym (done_push script cps others (ran e q));
        close = subst₂ AreClose (sym (at_push script cps before (ran e r))) (sym (at_push script cps others (ran e q))) (record { near = c.joint.near; held = c.held; jobs = c.jobs });
        fields = λ k. fields_push script cps k before (ran e r) ∙ added_if (e == k) r other may (fields_of script cps k before)
            ∙ ap (λ (f : List (List ℤ)). replay script f (cons_option (record_in k (ran e q)) [])) (fields k) ∙ sym (fields_push script cps k others (ran e q));
        stages = subst₂ (λ (a b : Standing). (u : ℕ) → SameOrPutOff a b u) (sym (at_push script cps before (ran e r))) (sym (at_push script cps others (ran e q)))
            (stages_on s z x y c.joint (λ u is. block_keeps_flag script cps before (ran e r) u course.stand stands is) (λ u has. (stays u has).1)
            (λ u same. elim (cases_eq u r.task) [
              | inl one ↦ absurd ((stays u (ap is_begun (same ∙ ap (stage_at s.log) one ∙ stands.stands.has_begun))).0 one)
              | inr ne ↦ stages u ne
            ]));
      }

  -- the environment in which a turn that was put off begins

  pub late_env : (before others : List Block) → IsCourse script cps before → ArePutOff before others → (t : ℕ) (env : Env) → stage_at (at script cps before).log t ≡ Some (Begun env) → (other : Env) × IsEnv (root_count script) (task t) (at script cps others).log other
  late_env before others course was t env has_begun =
      let s : Standing = at script cps before in
      let z : Standing = at script cps others in
      let h = all_begun script cps before course.stand t env has_begun in
      let q = priority_later h.before (Begin (task t) h.number env ∷ h.since) (task t) env.priority h.is_env.priority in
      let priority = subst (λ (l : List Event). IsPriority (links_of l) (task t) q.0) (sym h.parts) q.1 in (
        record { priority = q.0; cancelled = is_cancelled t z.log; room = room_of (root_count script) t z.log },
        record {
          priority = same_priority (links_of s.log) (links_of z.log) (near_links s.log z.log was.close.near) (near_links z.log s.log (sym was.close.near)) (task t) q.0 priority;
          cancelled = refl;
          room = refl;
        },
      )

  module _ (on : ActorsHaveExecutors script) (any : (u : ℕ) → May u) where
    few_too : (before others : List Block) → AreFew script cps before → ArePutOff before others → AreFew script cps others
    few_too before others few was = (let same = near_tasks (at script cps before).log (at script cps others).log was.close.near (root_count script) in omega (arith, few, same))

    pub room_there : (before others : List Block) → AreFew script cps before → ArePutOff before others → (t : ℕ) → room_of (root_count script) t (at script cps others).log ≡ MADE
    room_there before others few was t = room_free script cps others was.course on (few_too before others few was) t

    -- which blocks follow in the other history, where this one follows
    pub record GoesOn (before others : List Block) (b : Block) : Type 0 where
      pub more : List Block
      pub put_off : ArePutOff (before ++ b ∷ []) (others ++ more)
      pub step : (more ≡ []) ⊎ IsFusedStep script others more
      pub has : (e : ℕ) (r : RecordView) → b ≡ ran e r → HasExit more e r.exit

    run_ends : (e k : ℕ) (r p q : RecordView) (bs : List Block) → q.exit ≡ r.exit → ran e r ≡ ran k p → Contains bs (ran e q) → HasExit bs k p.exit
    run_ends e k r p q bs same is has =
        let on_same : e ≡ k = cc is in
        let one : r ≡ p = cc is in
        record { turn = q; there = subst (λ (x : ℕ). Contains bs (ran x q)) on_same has; exit_is = same ∙ ap (λ (x : RecordView). x.exit) one }

    frame_away : (cancelled : Bool) (fs callers : List FrameView) (p : FrameView) → fs ≡ p ∷ callers → frames_look_away script cancelled fs ≡ true → frame_looks_away script cancelled p ≡ true
    frame_away cancelled fs callers p is away = ap (frames_look_away script cancelled) (sym is) ∙ away

    -- a turn runs that was put off
    late_on : (before others : List Block) (e : ℕ) (r : RecordView) → IsCourse script cps before → AreFew script cps before → (was : ArePutOff before others) → Stands script cps before (ran e r) → IsPutOff (at script cps before) (at script cps others) r.task
        → GoesOn before others (ran e r)
    late_on before others e r course few was stands p =
        let s : Standing = at script cps before in
        let z : Standing = at script cps others in
        let t : ℕ = r.task in
        let n : ℕ = r.number in
        let env = late_env before others course was t r.env stands.stands.has_begun in
        let other : Env = env.0 in
        let b : Block = begun t n other in
        let q : RecordView = record r { env = other } in
        let job : JobFacts = stands.job in
        let given_z : z.jobs t ≡ Some job = sym (same_jobs before others was t) ∙ stands.stands.given in
        let away : job_looks_away script p.cancelled (s.jobs t) ≡ true = p.away in
        let frame : frame_looks_away script p.cancelled r.frame ≡ true =
        frame_away p.cancelled job.frames.frames stands.stands.runs.0 r.frame stands.stands.runs.1 (ap (job_looks_away script p.cancelled) (sym stands.stands.given) ∙ away) in
        let flag : p.cancelled ≡ true → is_cancelled t z.log ≡ true = λ is. sym (near_cancelled s.log z.log was.close.near t) ∙ (p.flag is).1 in
        let same_env : p.env ≡ r.env = cc (sym p.has_begun ∙ stands.stands.has_begun) in
        let room : r.env.room ≡ other.room = ap (λ (x : Env). x.room) (sym same_env) ∙ p.room ∙ sym (room_there before others few was t) ∙ sym env.1.room in
        let looks : LooksAwayIn script r.frame r.env other = record { cancelled = p.cancelled; away = frame; told = λ is. ap (λ (x : Env). x.cancelled) (sym same_env) ∙ (p.flag is).0 ∙ sym (env.1.cancelled ∙ flag is) } in
        let stands_b : Stands script cps others b = (job, given_z, sym (near_current s.log z.log was.close.near (histories_new script cps before course.stand) (histories_new script cps others was.course.stand) t n job.resume) ∙ stands.stands.current, env.1) in
        let orderly_b : IsOrderly script others b = (
          roots_too before others was (all_roots script cps before course t (ap is_begun stands.stands.has_begun)),
          λ u same. elim (cases_Bool (is_begun (stage_at z.log u))) [
            | inl has ↦
                let one : u ≡ t = all_apart script cps before course u t (begun_here before others was u has) (ap is_begun stands.stands.has_begun)
                (ap (job_executor script) (same_jobs before others was u) ∙ same ∙ ap (job_executor script) (sym (same_jobs before others was t))) in
                absurd (false≢true (sym (ap is_begun (ap (stage_at z.log) one ∙ p.given)) ∙ has))
            | inr not ↦ not
          ],
        ) in
        let course_b : IsCourse script cps (others ++ b ∷ []) = course_push script cps others b was.course stands_b orderly_b in
        let y : Standing = after_block script z b in
        let under = (current_is (life_of t z.log) n job.resume stands_b.2).1 in
        let close_b : AreClose s (at script cps (others ++ b ∷ [])) =
        subst (AreClose s) (sym (at_push script cps others b)) (record { near = was.close.near ∙ sym (near_begin z.log t n other under); held = was.close.held; jobs = was.close.jobs }) in
        let stages : (u : ℕ) → u ≢ t → SameOrPutOff s y u = λ u ne. elim (was.stages u) [
          | inl one ↦ inl (one ∙ sym (begin_other t n other z.log u (λ x. ne (sym x))))
          | inr o ↦ inr (record { may = o.may; env = o.env; has_begun = o.has_begun; given = begin_other t n other z.log u (λ x. ne (sym x)) ∙ o.given; cancelled = o.cancelled; away = o.away; flag = o.flag; room = o.room })
        ] in
        let done : done_by before ≡ done_by (others ++ b ∷ []) = was.done ∙ sym (done_push script cps others b ∙ append-nil (done_by others)) in
        record {
          more = b ∷ ran e q ∷ [];
          step = inr (job_stays script p.cancelled (is_cancelled t z.log) (z.jobs t) flag (ap (job_looks_away script p.cancelled) (sym (same_jobs before others was t)) ∙ away), refl);
          has = λ k p is. run_ends e k r p q (b ∷ ran e q ∷ []) refl is (1, omega arith, refl);
          put_off = subst (ArePutOff (before ++ ran e r ∷ [])) (append_assoc others (b ∷ []) (ran e q ∷ []))
              (run_on before (others ++ b ∷ []) e r other course course_b stands (record { room = room; same = inr looks })
              (ap (λ (a : Standing). stage_at a.log t) (at_push script cps others b) ∙ begin_same t n other z.log)
              close_b (λ k. was.fields k ∙ sym (fields_quiet script cps others b k refl)) done
              (λ u ne. subst (λ (a : Standing). SameOrPutOff s a u) (sym (at_push script cps others b)) (stages u ne)));
        }

    -- any block
    pub goes_on : (before others : List Block) (b : Block) → IsCourse script cps before → AreFew script cps before → ArePutOff before others → IsNotFolded b → Stands script cps before b → IsOrderly script before b → GoesOn before others b
    goes_on before others (added r) course few was unfolded stands orderly = record {
      more = added r ∷ [];
      put_off = root_on before others was r stands orderly;
      step = inr tt;
      has = λ k p is. absurd (cc is);
    }
    goes_on before others (folded e f) course few was unfolded stands orderly = absurd unfolded
    goes_on before others (begun t n env) course few was unfolded stands orderly =
        let room = room_free script cps before course on few t in
        elim (cases_Bool (turn_looks_away script (at script cps before) t)) [
          | inl away ↦ record {
            more = [];
            step = inl refl;
            has = λ k p is. absurd (cc is);
            put_off = subst (ArePutOff (before ++ begun t n env ∷ [])) (sym (append-nil others)) (put_off_on before others was t n env (any t) stands orderly away (stands.3.room ∙ room));
          }
          | inr looks ↦ record {
            more = begun t n env ∷ [];
            step = inr (same_look before others was t ∙ looks);
            has = λ k p is. absurd (cc is);
            put_off = begin_on before others was course t n env stands orderly (room ∙ sym (room_there before others few was t));
          }
        ]
    goes_on before others (ran e r) course few was unfolded stands orderly = elim (was.stages r.task) [
      | inl same ↦ record {
        more = ran e r ∷ [];
        step = inr tt;
        has = λ k p is. run_ends e k r p r (ran e r ∷ []) refl is (0, omega arith, refl);
        put_off = run_on before others e r r.env course was.course stands (in_own script r.frame r.env) (sym same ∙ stands.stands.has_begun) was.close was.fields was.done
            (λ u ne. was.stages u);
      }
      | inr p ↦ late_on before others e r course few was stands p
    ]

-- those of any task

abbrev pub AnyTask : ℕ → Type 0
AnyTask u = Unit {0}

pub any_task : (u : ℕ) → AnyTask u
any_task u = tt
